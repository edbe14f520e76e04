-- What the diagnosis answers.
pub mod Answers
pub mod Steps
pub mod Computed
