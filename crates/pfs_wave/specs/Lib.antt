pub mod Parts
pub mod Private
pub mod Tables
pub mod Wavefront
