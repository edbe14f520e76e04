-- The job file.
pub mod Job
pub mod Written
pub mod Sentences
