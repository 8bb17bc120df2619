-- Public clauses cite `Frames`, `Stream` and `FaultText`.
pub mod FaultText
pub mod Frames
pub mod Stream
-- Steps of proofs.
pub mod Kept
pub mod Taking
