-- What public clauses cite: `Seen`, `Sets`, `Histories`, and `seen_of` of `Stored`, whose other names are the type's
-- invariant.
pub mod Histories
pub mod Seen
pub mod Sets
pub mod Stored
