-- Canonical texts: what is written, and that it is a file.
pub mod CanonicalFile
pub mod WritingLemmas
