-- Definitions for contracts of private functions and for proofs: no promise to users depends on them.
pub mod Step
