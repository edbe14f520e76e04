-- The laws of the extent.
pub mod Range
pub mod Hull
