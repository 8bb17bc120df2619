-- what public clauses cite
pub mod Elements
pub mod FaultText
pub mod Numbers
-- a step of proofs
pub mod Parsed
-- what public clauses cite
pub mod Reading
