-- The laws of spelled addresses.
pub mod Digits
