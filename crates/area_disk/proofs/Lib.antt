mod Changes
mod Padded
mod Stretches
