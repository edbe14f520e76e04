-- What a partly filled buffer holds.
pub mod Parts
