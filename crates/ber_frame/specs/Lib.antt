-- what public clauses cite
pub mod Head
pub mod Value
pub mod Faults
pub mod Checked
-- steps of proofs; of `Reading`, `checked` uses the head that is read, and `identifier` reads `whole_identifier`
pub mod Reading
pub mod Walk
pub mod State
