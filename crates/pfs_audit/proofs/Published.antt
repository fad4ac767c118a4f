-- Lemmas that the proofs of dependent crates may cite.
pub mod Orders
pub mod Ranges
pub mod SumLemmas
pub mod LeastTimes
