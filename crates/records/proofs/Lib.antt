-- Reading a packed record.
pub mod Unpacked
