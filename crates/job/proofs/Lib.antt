-- The theorems on jobs.
pub mod Words
pub mod Parts
pub mod Placing
pub mod RoundTrip
