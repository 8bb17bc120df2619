-- What public clauses cite.
pub mod Answers
pub mod GatewayPath
pub mod NodePath
