pub mod Cuts
pub mod Digits
pub mod HexadecimalLemmas
pub mod RuleWords
pub mod StartLemmas
