-- What public clauses cite.
pub mod Copies
pub mod Packets
pub mod Peers
pub mod Sendings
pub mod Log
pub mod Value
pub mod Moving
pub mod Ticks
pub mod Octets
pub mod Hearing
pub mod Submitting
pub mod Counting
pub mod Drafts
pub mod FaultText
-- Steps of proofs, and private clauses.
pub mod NodeFields
pub mod Sound
pub mod Patterns
-- What the laws say.
pub mod Reached
pub mod Resting
pub mod Growing
pub mod Roles
pub mod Choosing
pub mod Sent
pub mod Nearness
pub mod Knowing
