-- What stands at one address.
pub mod Site
pub mod Named
