-- What public clauses cite.
pub mod FitActs
pub mod Index
pub mod Limits
pub mod Paths
pub mod Sides
pub mod Tells
pub mod Windows
-- Laws of these, with their proofs.
pub mod WindowLaws
-- Steps of proofs, and private clauses.
pub mod CopySteps
pub mod GivenStates
pub mod HeldPairs
pub mod HeldRoom
pub mod NodeSides
pub mod Nodes
pub mod WindowPairs
pub mod WorkedSides
