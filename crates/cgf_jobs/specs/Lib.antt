-- what public clauses cite
pub mod Words
pub mod Kinds
pub mod Command
pub mod Job
pub mod Run
pub mod Ending
pub mod StatusText
pub mod Gateway
pub mod FeedReport
pub mod ShowReport
pub mod NetworkReport
-- steps of proofs
pub mod BookSteps
pub mod NetworkSteps
pub mod Steps
