mod Apart
mod Counts
mod Finding
mod Seen
mod Kept
mod Laying
mod Openings
mod Plans
mod States
mod Turns
pub mod Names
