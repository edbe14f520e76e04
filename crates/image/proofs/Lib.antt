-- The laws of addresses and bytes.
pub mod Inside
pub mod Place
pub mod Wrap
