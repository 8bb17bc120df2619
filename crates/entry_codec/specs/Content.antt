-- Entries one after the other, as the content of a batch.
use Rattle.std.specs.Prelude.{◌≡◌, ◌≢◌, ℕ, zero, suc, List, [], ◌∷◌, length, All, Result, Ok, Err}
use Rattle.std.specs.List.{flat_map}
use Rattle.gw_base.specs.declared.history.HistoryEntry.{HistoryEntry}
use Rattle.entry_codec.specs.Reading.{entry_at}
use Rattle.entry_codec.specs.Spelling.{HasSpelling, spelling}

-- the octets of entries, one after the other
abbrev pub spelled : List HistoryEntry → List ℕ
spelled entries = flat_map spelling entries

-- the entry that was read, and those behind it by `next`; none where none was read
abbrev pub with_next : (List ℕ → List HistoryEntry) → Result (HistoryEntry × List ℕ) (List ℕ) → List HistoryEntry
with_next next (Ok found) = found.0 ∷ next found.1
with_next next (Err rest) = []

-- the entries that octets begin with, one after the other, at most so many
unfoldable pub entries_up_to : ℕ → List ℕ → List HistoryEntry
entries_up_to zero octets = []
entries_up_to (suc most) octets = with_next (entries_up_to most) (entry_at octets)

-- the entries that octets begin with, one after the other
abbrev pub entries_of : List ℕ → List HistoryEntry
entries_of octets = entries_up_to (length octets) octets

-- These octets are these entries, one after the other, and nothing else.
pub record AreEntries (octets : List ℕ) (entries : List HistoryEntry) : Type 0 where
  pub spelling : octets ≡ spelled entries
  pub each : All HasSpelling entries

-- These octets are one entry or more.
pub record IsContent (octets : List ℕ) : Type 0 where
  pub some : octets ≢ []
  pub are_entries : AreEntries octets (entries_of octets)
