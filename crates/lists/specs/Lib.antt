-- What statements above say of lists of addresses, and of texts.
pub mod Lists
pub mod Text
