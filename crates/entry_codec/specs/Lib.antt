-- What public clauses cite.
pub mod Appending
pub mod Content
pub mod Fault
pub mod Reading
pub mod Room
pub mod Spelling
-- Laws for proofs above, and what those say that stand on functions.
pub mod Laws
pub mod LawTypes
-- Steps of proofs.
pub mod Props
