-- The theorems on the face.
pub mod Over
pub mod Unique
