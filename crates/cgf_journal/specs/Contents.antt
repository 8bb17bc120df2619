-- How the content of a batch is taken in.
use Rattle.std.specs.Prelude.{◌≡◌, ℕ, List, [], ◌∷◌, ◌++◌, take}
use Rattle.gw_base.specs.declared.history.HistoryEntry.{HistoryEntry}
use Rattle.entry_codec.specs.Spelling.{HasSpelling, entry_length, spelling}
use Rattle.cgf_journal.specs.Reserved.{Placed}
use Rattle.cgf_journal.specs.Tally.{Tallies, tally_behind}

-- The octets begin with an entry of so many octets, whose place was added, and which was counted.
pub record IsTakenIn (octets : List ℕ) (at count : ℕ) (places grown : Placed) (tally counted : Tallies) : Type 0 where
  pub entry : HistoryEntry
  pub fits : HasSpelling entry
  pub size : count ≡ entry_length entry
  pub front : take count octets ≡ spelling entry
  pub placed : grown.items ≡ places.items ++ record { at = at; length = entry_length entry } ∷ []
  pub same_places : grown.reserved ≡ places.reserved
  pub added : counted ≡ record { firm = tally.firm; live = tally_behind tally.live entry; reserved = tally.reserved }
