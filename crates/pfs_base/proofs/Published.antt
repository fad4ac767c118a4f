-- Lemmas that the proofs of dependent crates may cite.
pub mod BufferLemmas
pub mod Ends
pub mod HeadRows
pub mod Heads
pub mod Heaviest
pub mod Lists
pub mod Partly
pub mod Printing
pub mod SendsLemmas
pub mod SendsOn
pub mod SpacedLemmas
