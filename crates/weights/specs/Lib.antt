-- The weight of an address.
pub mod Weights
