pub mod Published
mod MakespanLaws
mod Lanes
mod Sums
pub mod Buffers
pub mod Sent
