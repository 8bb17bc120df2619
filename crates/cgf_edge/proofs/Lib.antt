pub mod Interrupted
pub mod Untold
