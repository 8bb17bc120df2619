pub mod BookTurns
