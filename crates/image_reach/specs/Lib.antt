-- What the face tells other languages.
pub mod Face
