pub mod OrderFile
pub mod OrderLaws
pub mod OrderText
pub mod Private
pub mod Sequence
pub mod VersionOne
