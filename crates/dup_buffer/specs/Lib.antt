-- What public clauses cite: `Copies`, `FaultText`, and `copies_of` of `Stored`, whose other names are the type's
-- invariant.
pub mod Copies
pub mod FaultText
pub mod Stored
