-- What a customer reads.
pub mod Demand1
pub mod Demand3
pub mod Unique
pub mod Starred
