-- The theorems on store spans.
pub mod Gathering
pub mod Unique
pub mod Exact
pub mod Computed
pub mod Outcome
