pub mod Published
mod BoundLemmas
mod RowSteps
mod Rows
pub mod Schedules
mod TableLemmas
