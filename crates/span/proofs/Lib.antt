-- The theorems on spans.
pub mod Cases
pub mod Unique
pub mod Demand2
pub mod Verdict
pub mod Local
pub mod Computed
pub mod Outcome
