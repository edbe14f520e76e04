-- Numbers as text, and the room that a text needs.
pub mod Text
