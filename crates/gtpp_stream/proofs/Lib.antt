pub mod DeframerLemmas
pub mod FrameLemmas
pub mod LongestLemmas
pub mod TakingLemmas
