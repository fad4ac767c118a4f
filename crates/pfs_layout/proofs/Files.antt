-- What files and faults are, compared with the state that lines lead to and with what is computed.
pub mod DueLemmas
pub mod EndLemmas
pub mod FileLemmas
pub mod GoodLemmas
pub mod InputFaults
pub mod LineLemmas
pub mod VerdictLemmas
