-- What public clauses cite.
pub mod Cell
pub mod Knowing
pub mod Passes
pub mod Placed
-- The rule of the cell, and what each of its steps tells.
pub mod Rule
pub mod Steps
pub mod Taking
