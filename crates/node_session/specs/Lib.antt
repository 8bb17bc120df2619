-- What public clauses cite.
pub mod Answering
pub mod Asking
pub mod Batches
pub mod Learning
pub mod Passes
pub mod Receiving
pub mod Serving
pub mod Settling
pub mod Together
pub mod Turns
pub mod Writing
