pub mod Published
pub mod Exchange
pub mod FirstLeast
pub mod Joined
pub mod RowSteps
pub mod TailRows
