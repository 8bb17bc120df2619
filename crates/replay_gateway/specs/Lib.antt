-- What public clauses cite: the settings of a script, a gateway by them, what a call makes of it, and what is written
-- and reported of it.
pub mod Setup
pub mod Settings
pub mod Machine
pub mod Standing
pub mod Device
pub mod Moves
pub mod Asking
pub mod Taking
pub mod Ends
pub mod Redirecting
pub mod Opening
pub mod Filing
pub mod Written
pub mod WritingFiles
pub mod GatewayReport
pub mod Tells
pub mod HandedOut
pub mod AtRest
-- What inner calls and steps of proofs cite.
pub mod Called
pub mod Parts
