-- The laws of a site.
pub mod Assembly
pub mod Size
pub mod Covering
pub mod Local
