-- Addresses and bytes of an image.
pub mod Image
pub mod Answers
