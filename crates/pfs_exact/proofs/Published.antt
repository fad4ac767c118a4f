-- Lemmas that the proofs of dependent crates may cite.
pub mod Times
