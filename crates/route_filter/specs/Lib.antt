-- What public clauses cite.
pub mod Words
pub mod Rules
pub mod Starts
