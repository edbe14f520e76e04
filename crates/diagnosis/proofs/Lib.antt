-- The theorems on the diagnosis.
pub mod Unique
pub mod Clean
pub mod Raise
pub mod Adding
pub mod Found
pub mod Measured
pub mod Outcome
pub mod Computed
