pub mod HeldLemmas
pub mod MergeLemmas
pub mod OrderLemmas
pub mod StepLemmas
pub mod StoredLemmas
