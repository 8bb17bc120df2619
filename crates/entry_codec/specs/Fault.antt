-- Where it becomes certain that octets don't begin with an entry.
use Rattle.std.specs.Prelude.{◌≡◌, ℕ, ◌≤◌, List, ◌++◌, length, take}
use Rattle.gw_base.specs.declared.history.HistoryEntry.{HistoryEntry}
use Rattle.entry_codec.specs.Spelling.{HasSpelling, spelling}

-- the spelling of some entry begins with these octets
abbrev pub BeginsAnEntry : List ℕ → Type 0
BeginsAnEntry octets = (e : HistoryEntry) × (more : List ℕ) × HasSpelling e × (spelling e ≡ octets ++ more)

-- some entry begins with the first so many octets, and none with more of them
pub record IsFirstWrong (octets : List ℕ) (at : ℕ) : Type 0 where
  pub within : at ≤ length octets
  pub begins : BeginsAnEntry (take at octets)
  pub longest : (n : ℕ) → n ≤ length octets → BeginsAnEntry (take n octets) → n ≤ at

-- the octets begin with this entry
abbrev pub BeginsWith : List ℕ → HistoryEntry → Type 0
BeginsWith octets e = HasSpelling e × ((more : List ℕ) × (octets ≡ spelling e ++ more))
