pub mod LoopLemmas
pub mod LoopWords
pub mod OneCommand
