-- what public clauses cite
pub mod Appending
pub mod Before
pub mod FaultText
pub mod Format
pub mod Founding
pub mod Journal
pub mod Kept
pub mod Moments
pub mod Opening
pub mod OpenPlanned
pub mod Planned
pub mod Reading
pub mod Reopening
pub mod State
-- laws of the format, for the layers above
pub mod Agreeing
pub mod Beginnings
pub mod Places
pub mod Spelling
-- steps of proofs
pub mod Adding
pub mod Fronts
pub mod Making
pub mod Verdicts
