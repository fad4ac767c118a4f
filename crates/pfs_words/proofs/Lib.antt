pub mod FormLemmas
pub mod JobLemmas
