-- What public clauses cite.
pub mod Message
pub mod Names
pub mod Packet
pub mod PacketWriting
pub mod PathMessages
pub mod Reading
pub mod Role
pub mod Spelling
pub mod Values
pub mod Writing
-- Steps of the proof.
pub mod Parts
