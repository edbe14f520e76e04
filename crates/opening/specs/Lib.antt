-- The tests that come before any walk.
pub mod Opening
