-- The reader: how its steps change its fields, and what the fields mean for the bytes.
pub mod ByteSteps
pub mod HeldLemmas
pub mod LineSteps
pub mod NumberSteps
pub mod OutcomeLemmas
pub mod PieceLemmas
pub mod ReaderSteps
pub mod SourceLemmas
