-- What public clauses cite.
pub mod Text
pub mod Values
pub mod Forms
pub mod Saying
pub mod Script
pub mod Printing
pub mod Sample
pub mod World
-- Steps of proofs.
pub mod Outcome
