-- what public clauses cite
pub mod Serving
pub mod Linked
pub mod Served
pub mod Shelved
pub mod ServeEnds
pub mod Streaming
pub mod Replies
pub mod StreamEnds
-- steps of proofs
pub mod ServeSteps
pub mod StreamSteps
