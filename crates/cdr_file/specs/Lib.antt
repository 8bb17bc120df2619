-- What public clauses cite.
pub mod CdrFile
pub mod CdrHeader
pub mod ClosureReason
pub mod FaultText
pub mod FileHeader
pub mod Listing
pub mod Names
pub mod Profile
pub mod Reading
pub mod SharedOctet
pub mod Spelling
pub mod Timestamp
-- Steps: the calendar, by which a timestamp is given, and laws for the proofs above.
pub mod Calendar
pub mod Laws
