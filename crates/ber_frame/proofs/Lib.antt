pub mod Heads
pub mod Values
pub mod Walks
pub mod Fates
pub mod Flats
pub mod Identifiers
pub mod Octets
pub mod Checks
