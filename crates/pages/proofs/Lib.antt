-- The laws behind the pages.
pub mod Arrays
pub mod Pairs
