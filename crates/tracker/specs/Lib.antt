-- What the tracker knows after a run of bytes.
pub mod Track
