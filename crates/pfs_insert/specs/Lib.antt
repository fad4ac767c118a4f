pub mod Examples
pub mod Exchange
pub mod Inserter
pub mod Insertion
pub mod Private
