-- The laws behind the records: the members one after the other, what the records of an address share, and the slots that they fill.
pub mod Members
pub mod Sharing
pub mod Filling
