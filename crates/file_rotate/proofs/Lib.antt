pub mod CuttingLemmas
pub mod OnlyLemmas
pub mod RunLemmas
pub mod GoingOnLemmas
