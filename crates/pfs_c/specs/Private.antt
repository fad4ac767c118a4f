-- Definitions for contracts of private functions and for proofs only: no promise to users depends on them.
pub mod Handle
pub mod Marks
pub mod Outcomes
pub mod PartRows
pub mod Rows
