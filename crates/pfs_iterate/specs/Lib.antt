pub mod Alone
pub mod Examples
pub mod Iterated
pub mod Laws
pub mod Private
pub mod Rounds
