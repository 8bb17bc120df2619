-- What contracts see of a trail.
use Rattle.std.specs.Prelude.{◌≡◌, ◌⊎◌, ℕ, ◌<◌, Bool, if◌then◌else◌, List, ◌++◌, drop, length, slice_get, take, Some}
use Rattle.area_disk.specs.declared.area.Area.{Ghosts}
use Rattle.area_disk.specs.declared.plan.Outcome3.{Outcome3}
use Rattle.gw_base.specs.declared.history.HistoryEntry.{HistoryEntry}
use Rattle.gw_base.specs.declared.place.Place.{Place}
use Rattle.gate_journal.specs.Journal as journal
use Rattle.gate_journal.specs.Moments.{Leaves, Told}
use Rattle.entry_codec.specs.Content.{entries_of}
use Rattle.entry_codec.specs.Spelling.{spelling}
use Rattle.cgf_journal.specs.Format.{StandsFor, entries_in}
use Rattle.cgf_journal.specs.Tally.{TallyValue, free_beside, has_room_behind}
use Rattle.cgf_journal.specs.declared.trail.Trail.{Trail}

-- the area that it stands on, and the header of that
abbrev pub area_of : {A : Type 0} {tells : Ghosts A} → Trail A tells → A
area_of trail = journal.area_of trail.journal

abbrev pub header_of : {A : Type 0} {tells : Ghosts A} → Trail A tells → List ℕ
header_of trail = journal.header_of trail.journal

-- a commit failed, and it takes no entry until it is opened again
abbrev pub is_closed : {A : Type 0} {tells : Ghosts A} → Trail A tells → Bool
is_closed trail = journal.is_closed trail.journal

-- its firm entries: those that its journal holds behind open gates
unfoldable pub firm_entries : {A : Type 0} {tells : Ghosts A} → Trail A tells → List HistoryEntry
firm_entries trail = entries_in (journal.batches trail.journal)

-- the entries behind these: pushed since the last commit, or, of a closed trail, torn ones, whose commit failed
unfoldable pub waiting : {A : Type 0} {tells : Ghosts A} → Trail A tells → List HistoryEntry
waiting trail = entries_of trail.waiting.octets

-- its entries; those of a closed trail are the firm ones
abbrev pub entries : {A : Type 0} {tells : Ghosts A} → Trail A tells → List HistoryEntry
entries trail = if is_closed trail then firm_entries trail else firm_entries trail ++ waiting trail

-- how many of them are firm, and how many there are, as the trail counts them
abbrev pub firm_length : {A : Type 0} {tells : Ghosts A} → Trail A tells → ℕ
firm_length trail = trail.firm

abbrev pub length_of : {A : Type 0} {tells : Ghosts A} → Trail A tells → ℕ
length_of trail = if is_closed trail then trail.firm else length trail.places.items

-- the octets of the entries that wait
abbrev pub waiting_octets : {A : Type 0} {tells : Ghosts A} → Trail A tells → ℕ
waiting_octets trail = length trail.waiting.octets

-- What its entries cost and promise, as the trail counts them. It is no part of any contract: `has_room_of` and
-- `free_of` are what contracts see of it.
abbrev pub tally : {A : Type 0} {tells : Ghosts A} → Trail A tells → TallyValue
tally trail = if is_closed trail then trail.tally.firm else trail.tally.live

-- whether there is room for one more entry, as the trail counts
unfoldable pub has_room_of : {A : Type 0} {tells : Ghosts A} → Trail A tells → HistoryEntry → Bool
has_room_of {tells = tells} trail e = has_room_behind (tally trail) e (tells.size (area_of trail))

-- the octets that costs and promises leave of the capacity, as the trail counts them
unfoldable pub free_of : {A : Type 0} {tells : Ghosts A} → Trail A tells → ℕ
free_of {tells = tells} trail = free_beside (tally trail) (tells.size (area_of trail))

-- this is the place of the k-th entry, those that wait counted behind the firm ones
abbrev pub IsPlaceOf : {A : Type 0} {tells : Ghosts A} → Trail A tells → ℕ → Place → Type 0
IsPlaceOf trail k place = slice_get trail.places.items k ≡ Some place

-- this is the place of the k-th entry, which is firm
abbrev pub IsFirmPlaceOf : {A : Type 0} {tells : Ghosts A} → Trail A tells → ℕ → Place → Type 0
IsFirmPlaceOf trail k place = (k < trail.firm) × IsPlaceOf trail k place

-- this is the place of a firm entry
abbrev pub IsPlace : {A : Type 0} {tells : Ghosts A} → Trail A tells → Place → Type 0
IsPlace trail place = (k : ℕ) × IsFirmPlaceOf trail k place

-- the spelling of this entry lies at this place of an area
abbrev pub LiesAt : Place → HistoryEntry → List ℕ → Type 0
LiesAt place e octets = take place.length (drop place.at octets) ≡ spelling e

-- the torn entries stand, as a read tells: the gate of their batch is open
abbrev pub torn_stands : {A : Type 0} {tells : Ghosts A} → Trail A tells → Bool
torn_stands trail = journal.torn_stands trail.journal

-- the torn entries stand after a stop with this outcome that comes now
abbrev pub stop_stands : {A : Type 0} {tells : Ghosts A} → Outcome3 → Trail A tells → Bool
stop_stands outcome trail = journal.stop_stands outcome trail.journal

-- the history that such a stop leaves
abbrev pub left_by_stop : {A : Type 0} {tells : Ghosts A} → Outcome3 → Trail A tells → List HistoryEntry
left_by_stop outcome trail = if stop_stands outcome trail then firm_entries trail ++ waiting trail else firm_entries trail

-- the octets stand for one of two histories
abbrev pub StandsForOr : List ℕ → List HistoryEntry → List HistoryEntry → List ℕ → Type 0
StandsForOr header h g octets = StandsFor header octets h ⊎ StandsFor header octets g

-- What is written stands: what a read gives stands for the firm entries, and so does all that a crash may leave.
pub record IsSettled {A : Type 0} {tells : Ghosts A} (trail : Trail A tells) : Type 0 where
  pub reads : Told tells → StandsFor (header_of trail) (tells.octets (area_of trail)) (firm_entries trail)
  pub crash : Told tells → (c : List ℕ) → tells.may_leave (area_of trail) c → StandsFor (header_of trail) c (firm_entries trail)
  pub still : Told tells → Leaves tells (area_of trail) (area_of trail) (λ c. StandsFor (header_of trail) c (firm_entries trail))

-- What is written stands, closed or not: what a read gives stands for the firm entries, or for these with those that
-- wait, and so does all that a crash may leave.
pub record IsAtRest {A : Type 0} {tells : Ghosts A} (trail : Trail A tells) : Type 0 where
  pub reads : Told tells → StandsForOr (header_of trail) (firm_entries trail) (firm_entries trail ++ waiting trail) (tells.octets (area_of trail))
  pub still : Told tells → Leaves tells (area_of trail) (area_of trail) (StandsForOr (header_of trail) (firm_entries trail) (firm_entries trail ++ waiting trail))
