-- Definitions that no contract of a public function cites.
pub mod Rows
pub mod Sums
