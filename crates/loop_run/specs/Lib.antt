-- What public clauses cite.
pub mod Addresses
pub mod Looped
pub mod Ending
-- How it is made, run and taken apart.
pub mod Seats
pub mod Making
pub mod Collecting
pub mod Finishing
