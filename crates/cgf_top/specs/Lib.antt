-- what public clauses cite
pub mod Looping
pub mod LoopEnds
pub mod OverFiles
-- steps of proofs
pub mod LoopSteps
