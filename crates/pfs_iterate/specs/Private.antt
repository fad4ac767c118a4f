-- Definitions that no contract of a public function cites.
pub mod Keeping
pub mod Memory
pub mod Steps
