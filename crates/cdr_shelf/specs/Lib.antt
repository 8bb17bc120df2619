-- what public clauses cite
pub mod Calls
pub mod FaultText
pub mod Files
pub mod Steps
pub mod Holding
pub mod Quiet
-- laws, which layers above use too
pub mod FileLaws
