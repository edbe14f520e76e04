-- The laws of causes.
pub mod Numbers
pub mod Slugs
