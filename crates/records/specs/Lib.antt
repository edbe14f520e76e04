-- A refusal's record as one number.
pub mod Packed
