-- Lemmas that the proofs of crates above may cite.
pub mod LawLemmas
pub mod PlaceLemmas
