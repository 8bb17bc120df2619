-- What is true of each trail, open or closed.
use Rattle.std.specs.Prelude.{◌≡◌, ◌≢◌, ℕ, ◌+◌, ◌*◌, ◌≤◌, Bool, true, false, List, [], ◌∷◌, ◌++◌, length, take, drop, All}
use Rattle.area_disk.specs.declared.area.Area.{Ghosts}
use Rattle.gw_base.specs.Buffer.{Buffered}
use Rattle.gw_base.specs.declared.history.HistoryEntry.{HistoryEntry}
use Rattle.gw_base.specs.declared.place.Place.{Place}
use Rattle.gate_journal.specs.Format.{header_length, longest_batch}
use Rattle.gate_journal.specs.Journal.{area_of, batches, end, front_of, is_closed, torn}
use Rattle.gate_journal.specs.Moments.{Told}
use Rattle.gate_journal.specs.declared.journal.Front.TheVariants.{Founded, Draft, Founding}
use Rattle.gate_journal.specs.declared.journal.Front.{Front}
use Rattle.gate_journal.specs.declared.journal.Journal.{Journal}
use Rattle.entry_codec.specs.Content.{AreEntries, entries_of}
use Rattle.entry_codec.specs.Room.{capacity_of}
use Rattle.entry_codec.specs.Spelling.{entry_length}
use Rattle.cgf_journal.specs.Format.{AreBatches, cheapest_entry, entries_in}
use Rattle.cgf_journal.specs.Tally.{Tallies, tally_behind_all, tally_of}

-- the places of entries that stand one after the other from this octet on
abbrev pub places_from : ℕ → List HistoryEntry → List Place
places_from at [] = []
places_from at (e ∷ h) = record { at = at; length = entry_length e } ∷ places_from (at + entry_length e) h

-- the places of the entries of batches that stand one after the other, the first behind the gate at this octet
abbrev pub places_behind : ℕ → List (List ℕ) → List Place
places_behind gate [] = []
places_behind gate (batch ∷ batches) = places_from (gate + 5) (entries_of batch) ++ places_behind (gate + 5 + length batch) batches

-- whether an area has its whole header
abbrev pub is_founded : Front → Bool
is_founded Founded = true
is_founded Draft = false
is_founded Founding = false

-- a place ends at this octet or before it
abbrev pub EndsBy : ℕ → Place → Type 0
EndsBy end place = place.at + place.length ≤ end

pub record IsSound {A : Type 0} {tells : Ghosts A} (journal : Journal A tells) (size : ℕ) (waiting : Buffered) (places : List Place) (firm : ℕ) (tally : Tallies) : Type 0 where
  pub founded : is_founded (front_of journal) ≡ true
  pub sized : size ≡ tells.size (area_of journal)
  -- what waits, in octets, as entries, as a tally and in its places
  pub room : waiting.capacity ≡ longest_batch
  pub short : length waiting.octets ≤ longest_batch
  pub are_entries : AreEntries waiting.octets (entries_of waiting.octets)
  pub live_tally : tally.live ≡ tally_behind_all tally.firm (entries_of waiting.octets)
  pub waiting_placed : drop firm places ≡ places_from (end journal + 5) (entries_of waiting.octets)
  -- what is torn is what waits
  pub torn_waits : is_closed journal ≡ true → torn journal ≡ waiting.octets
  pub some_torn : is_closed journal ≡ true → waiting.octets ≢ []
  -- what is firm
  pub firm_places : firm ≤ length places
  pub firm_ends : All (EndsBy (end journal)) (take firm places)
  pub taken : end journal ≤ header_length + tally.firm.costs
  pub dear : cheapest_entry * firm ≤ tally.firm.costs
  pub within : tally.live.costs ≤ capacity_of (tells.size (area_of journal))
  pub are_batches : Told tells → AreBatches (tells.size (area_of journal)) (batches journal)
  pub firm_tally : Told tells → tally.firm ≡ tally_of (entries_in (batches journal))
  pub firm_placed : Told tells → take firm places ≡ places_behind header_length (batches journal)
