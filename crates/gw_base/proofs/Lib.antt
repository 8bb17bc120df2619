pub mod HeldLemmas
pub mod Scans
pub mod StartLemmas
