pub mod Published
mod Arrays
mod Bounds
mod Cells
mod Covering
mod Eight
mod Gathered
mod GrownEnds
pub mod Heads
mod JobsByLag
mod LaneBounds
mod MachineBounds
mod RootBounds
mod SearchedChildren
mod Searching
mod TwoMachines
mod Vectors
