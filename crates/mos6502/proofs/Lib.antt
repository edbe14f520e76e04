-- The laws behind `decode` and `Mode::len`.
pub mod Manual
pub mod Table
