-- Lemmas that the proofs of crates above this one may cite.
pub mod BestPlaces
pub mod TableRows
