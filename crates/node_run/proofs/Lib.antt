pub mod CallLemmas
pub mod FillLemmas
pub mod KeepingLemmas
pub mod PacketLemmas
pub mod RunLemmas
pub mod SendLemmas
pub mod StayingLemmas
pub mod TurnLemmas
