-- What the contracts of `cause` cite.
pub mod Cause
