-- The laws of those lists.
pub mod Tests
pub mod Sets
pub mod Scan
pub mod Stack
pub mod Zeros
pub mod Filling
