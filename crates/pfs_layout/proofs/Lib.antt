pub mod Published
mod Computing
mod Tables
mod Words
pub mod Files
pub mod GeneratorLemmas
pub mod Reading
pub mod Texts
