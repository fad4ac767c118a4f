-- Definitions that no contract of a public function cites.
pub mod BestSoFar
pub mod Counting
pub mod Rows
