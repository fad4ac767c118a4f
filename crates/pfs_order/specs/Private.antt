-- What only proofs and the contracts of private functions cite.
pub mod Reading
