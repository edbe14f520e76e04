-- The words and the input of `makejob`.
pub mod Words
