-- What public clauses cite.
pub mod Audit
pub mod Standing
-- Steps of an audit.
pub mod Steps
