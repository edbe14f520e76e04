-- The instruction set as the MOS manual has it, and what follows from it.
pub mod Manual
pub mod Class
pub mod Packed
