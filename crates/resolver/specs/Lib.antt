-- Which zero-page bytes the instructions met write from an immediate.
pub mod Resolve
