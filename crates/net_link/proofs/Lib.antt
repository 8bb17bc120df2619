pub mod MadeLemmas
pub mod NetLemmas
pub mod PathLemmas
pub mod TurnLemmas
