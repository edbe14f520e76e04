-- The promises, proved.
pub mod Demand1
pub mod Demand3
pub mod Unique
pub mod Starred
