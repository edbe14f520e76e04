-- The walk of an image, under one of three rules.
pub mod Step
pub mod Walked
pub mod Possible
