-- The laws behind the report.
pub mod Lengths
pub mod Listing
pub mod Answering
pub mod Parts
pub mod Unique
