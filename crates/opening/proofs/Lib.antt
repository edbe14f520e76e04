-- The laws of the first tests.
pub mod First
