-- Which addresses are named, and the smallest range that covers them.
pub mod Named
pub mod Extent
