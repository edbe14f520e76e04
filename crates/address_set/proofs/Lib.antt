-- What holds of the map, beside its functions' own proofs.
pub mod Laws
