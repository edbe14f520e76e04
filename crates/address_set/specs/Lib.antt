-- What the contracts of `address_set` cite.
pub mod Map
pub mod Next
