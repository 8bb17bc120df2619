-- What public clauses cite.
pub mod Lists
pub mod Table
-- Steps of the proof.
pub mod Rows
