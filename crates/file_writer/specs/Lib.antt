-- What public clauses cite.
pub mod Advancing
pub mod AllStreams
pub mod Asking
pub mod Calls
pub mod FaultText
pub mod Files
pub mod Holding
pub mod Leaving
pub mod Making
pub mod Parts
pub mod Places
pub mod Reading
pub mod Streams
pub mod Writer
-- Laws of these.
pub mod Laws
-- Steps of proofs.
pub mod Following
pub mod Props
pub mod Shutting
pub mod Sound
pub mod Writing
