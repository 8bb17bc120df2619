-- What public clauses cite.
pub mod Book
pub mod Caller
pub mod Calls
pub mod Comes
pub mod Counted
pub mod Lookups
pub mod OpenPlan
pub mod Opened
pub mod Read
pub mod Turning
pub mod Up
-- Laws of these, with their proofs.
pub mod BrokenLaws
pub mod UpLaws
-- Steps of proofs, and private clauses.
pub mod Begun
pub mod Faults
pub mod Judging
pub mod Adding
pub mod Cursor
pub mod Followed
pub mod Marking
pub mod FollowedProps
pub mod Gathering
pub mod HeldCopies
pub mod Standing
pub mod Taking
