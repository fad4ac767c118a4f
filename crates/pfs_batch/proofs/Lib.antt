mod Eight
mod Filled
mod Heads
mod RowSteps
mod Sequences
mod VectorSteps
