-- The laws of numbers as text.
pub mod Digits
