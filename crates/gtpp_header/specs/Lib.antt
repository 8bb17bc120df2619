-- Public clauses cite these.
pub mod FaultText
pub mod Header
pub mod Reading
