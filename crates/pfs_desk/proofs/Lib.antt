pub mod HeadlineLemmas
pub mod OutputLemmas
pub mod SolveLemmas
pub mod TableLemmas
mod ProgramLemmas
mod RunLemmas
