-- The laws of the weights.
pub mod Raising
pub mod Concerned
pub mod Counting
pub mod Unique
pub mod Weighed
