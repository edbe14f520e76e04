-- The laws of the tracker.
pub mod Passage
