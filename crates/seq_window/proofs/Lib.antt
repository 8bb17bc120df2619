pub mod LawLemmas
pub mod RingLemmas
pub mod SeenLemmas
