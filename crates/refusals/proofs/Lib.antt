-- The theorems on the refusals as structs.
pub mod Over
pub mod Fields
pub mod First
pub mod Unique
pub mod Told
