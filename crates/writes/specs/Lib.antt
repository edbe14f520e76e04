-- What an instruction writes to memory.
pub mod Writes
