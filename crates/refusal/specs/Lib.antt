-- The numbers of the refusals, and what they print as.
pub mod Numbers
pub mod Sentences
