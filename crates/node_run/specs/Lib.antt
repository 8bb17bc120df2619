-- What public clauses cite.
pub mod Packets
pub mod Running
pub mod Outcomes
pub mod Keeping
-- Steps of a run.
pub mod Steps
