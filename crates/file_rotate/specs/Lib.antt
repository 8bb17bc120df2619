-- Public clauses cite all three.
pub mod Cutting
pub mod Division
pub mod Items
