pub mod FindLemmas
pub mod NumberLemmas
pub mod StandLemmas
