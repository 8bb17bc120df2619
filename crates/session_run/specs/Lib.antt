-- What public clauses cite.
pub mod History
pub mod Latest
pub mod Running
pub mod Links
pub mod Filing
-- What each part has done, and how it is made and taken apart.
pub mod Desks
pub mod Ending
pub mod Making
pub mod Reception
pub mod Rounds
pub mod Taking
pub mod Team
