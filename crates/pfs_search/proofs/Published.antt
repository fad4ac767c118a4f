-- Lemmas that the proofs of crates above this one may cite.
pub mod CostSums
pub mod Moves
pub mod Taking
pub mod Words
