-- What the laws say that stand on functions of their own, for the lemmas above that take one.
use Rattle.std.specs.Prelude.{◌≡◌, ℕ, List, ◌++◌}
use Rattle.gw_base.specs.declared.history.HistoryEntry.{HistoryEntry}
use Rattle.entry_codec.specs.Content.{AreEntries, entries_of}
use Rattle.entry_codec.specs.Room.{has_room}

-- what is spelled, entry by entry, is read back so
abbrev pub EntriesAreReadBack : Type 0
EntriesAreReadBack = (octets : List ℕ) (entries : List HistoryEntry) → AreEntries octets entries → entries_of octets ≡ entries

-- where octets that begin with entries are entries, those in front are the first of them, and the rest are entries too
abbrev pub EntriesDivide : Type 0
EntriesDivide = (a b : List ℕ) (h g : List HistoryEntry) → AreEntries a h → AreEntries (a ++ b) g → (f : List HistoryEntry) × (g ≡ h ++ f) × AreEntries b f

-- room for an entry depends on its act alone
abbrev pub RoomIsOfTheAct : Type 0
RoomIsOfTheAct = (h : List HistoryEntry) (a b : HistoryEntry) (size : ℕ) → a.act ≡ b.act → has_room h a size ≡ has_room h b size
