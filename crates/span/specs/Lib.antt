-- What a span is, and when one is given.
pub mod Answers
pub mod Given
pub mod Computed
