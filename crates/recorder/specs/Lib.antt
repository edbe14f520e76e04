-- What a walk records, and the records.
pub mod Recorded
pub mod Records
