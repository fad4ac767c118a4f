pub mod Examples
pub mod SequenceLists
pub mod Private
