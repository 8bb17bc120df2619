-- What public clauses cite.
pub mod Buffer
pub mod CdrKind
pub mod Entry
pub mod Facts
pub mod Faults
pub mod HeldKeys
pub mod History
pub mod Known
pub mod Lists
pub mod MemoryClock
pub mod MemorySink
pub mod MemorySource
pub mod Nearest
pub mod Observed
pub mod Owes
pub mod Starts
pub mod TickDue
pub mod View
pub mod Written
-- Laws of these, with their proofs.
pub mod EntryLaws
pub mod HeldLaws
pub mod ListLaws
pub mod ViewLaws
-- Steps of proofs.
pub mod Steps
