-- What public clauses cite: a replay, what its lines make of it, and what they print.
pub mod Value
pub mod Notices
pub mod Events
pub mod Packets
pub mod Steps
pub mod Telling
pub mod Lines
pub mod Report
pub mod Taken
pub mod Stands
pub mod Does
pub mod Failing
pub mod Settled
pub mod Played
pub mod Summary
pub mod Worked
-- What inner calls and steps of proofs cite.
pub mod Sending
pub mod Receiving
pub mod Settling
