-- What stores cover, and what `write_extent` answers.
pub mod Stores
pub mod Answers
pub mod Steps
pub mod Computed
