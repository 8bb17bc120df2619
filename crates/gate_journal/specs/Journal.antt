-- What contracts see of a journal.
use Rattle.std.specs.Prelude.{◌≡◌, ◌⊎◌, ℕ, ◌+◌, ◌-◌, Bool, true, false, ◌&&◌, ◌==◌, if◌then◌else◌, slice_index, List, [], ◌∷◌, ◌++◌, length, take, drop}
use Rattle.area_disk.specs.declared.area.Area.{Ghosts}
use Rattle.gate_journal.specs.Format.{open_gate, header, gate_at, end_of, free_beside}
use Rattle.gate_journal.specs.Moments.{Told}
use Rattle.area_disk.specs.declared.plan.Outcome3.{Outcome3}
use Rattle.gate_journal.specs.State.{batches_below, Keeps, front_after}
use Rattle.gate_journal.specs.declared.journal.Front.{Front}
use Rattle.gate_journal.specs.declared.journal.Front.TheVariants.{Founded, Draft, Founding}
use Rattle.gate_journal.specs.declared.journal.Journal.{Journal}

-- the area that it stands on
abbrev pub area_of : {A : Type 0} {tells : Ghosts A} → Journal A tells → A
area_of journal = journal.area

-- the header of its area
abbrev pub header_of : {A : Type 0} {tells : Ghosts A} → Journal A tells → List ℕ
header_of {tells = tells} journal = header (tells.size journal.area) journal.address journal.generation

-- how far its area is made
abbrev pub front_of : {A : Type 0} {tells : Ghosts A} → Journal A tells → Front
front_of journal = journal.front

-- its batches, in the order in which they were appended
unfoldable pub batches : {A : Type 0} {tells : Ghosts A} → Journal A tells → List (List ℕ)
batches {tells = tells} journal = batches_below journal.gate (tells.octets journal.area)

-- the place of its first closed gate
abbrev pub end : {A : Type 0} {tells : Ghosts A} → Journal A tells → ℕ
end journal = journal.gate

-- the octets that are free for a batch and its gate and length
abbrev pub free_of : {A : Type 0} {tells : Ghosts A} → Journal A tells → ℕ
free_of {tells = tells} journal = tells.size journal.area - 1 - journal.gate

-- a journal takes no batch where one may stand behind its gate, or while it is being founded
abbrev pub closed_by : Front → Bool → Bool
closed_by Founded is_torn = is_torn
closed_by Draft is_torn = is_torn
closed_by Founding is_torn = true

-- a call on it failed: it takes no batch until it is opened again
abbrev pub is_closed : {A : Type 0} {tells : Ghosts A} → Journal A tells → Bool
is_closed journal = closed_by journal.front journal.is_torn

-- the batch whose append failed last
unfoldable pub torn : {A : Type 0} {tells : Ghosts A} → Journal A tells → List ℕ
torn journal = take journal.torn_length (drop 4 journal.buffer.items)

-- the batch whose append failed stands, as a read tells: its gate is open
unfoldable pub torn_stands : {A : Type 0} {tells : Ghosts A} → Journal A tells → Bool
torn_stands {tells = tells} journal = journal.is_torn && (gate_at (tells.octets journal.area) journal.gate == open_gate)

-- that batch stands after a stop with this outcome that comes now
unfoldable pub stop_stands : {A : Type 0} {tells : Ghosts A} → Outcome3 → Journal A tells → Bool
stop_stands {tells = tells} outcome journal =
    journal.is_torn && (gate_at ((tells.fate journal.area).leaves outcome) journal.gate == open_gate)

-- the list that such a stop leaves
abbrev pub left_by_stop : {A : Type 0} {tells : Ghosts A} → Outcome3 → Journal A tells → List (List ℕ)
left_by_stop outcome journal =
    if stop_stands outcome journal then batches journal ++ torn journal ∷ [] else batches journal

-- the list after it is opened again: with the batch whose append failed where that stands
abbrev pub reopened : {A : Type 0} {tells : Ghosts A} → Journal A tells → List (List ℕ)
reopened journal = if torn_stands journal then batches journal ++ torn journal ∷ [] else batches journal

-- where the list ends then
abbrev pub reopened_end : {A : Type 0} {tells : Ghosts A} → Journal A tells → ℕ
reopened_end journal = if torn_stands journal then end journal + 5 + length (torn journal) else end journal

-- how far the area is made after it is opened again, as octet 0 tells
abbrev pub reopened_front : {A : Type 0} {tells : Ghosts A} → Journal A tells → Front
reopened_front {tells = tells} journal = front_after journal.front (slice_index (tells.octets journal.area) 0)

-- A crash leaves these batches, or these with this one behind them.
abbrev pub KeepsOr : Front → List ℕ → List (List ℕ) → List ℕ → List ℕ → Type 0
KeepsOr front header some batch octets = Keeps front header some octets ⊎ Keeps front header (some ++ batch ∷ []) octets

-- What a read gives of a journal, open or closed, and all that a crash may leave: an area that stands for its batches,
-- or for these with the torn one behind them.
pub record Rests {A : Type 0} {tells : Ghosts A} (journal : Journal A tells) : Type 0 where
  pub reads : Told tells → KeepsOr (front_of journal) (header_of journal) (batches journal) (torn journal)
      (tells.octets (area_of journal))
  pub crash : Told tells → (c : List ℕ) → tells.may_leave (area_of journal) c →
      KeepsOr (front_of journal) (header_of journal) (batches journal) (torn journal) c
  pub place : Told tells → end journal ≡ end_of (batches journal)

-- no batch may stand behind its gate
pub record NoneTorn {A : Type 0} {tells : Ghosts A} (journal : Journal A tells) : Type 0 where
  pub reads : torn_stands journal ≡ false
  pub stops : (outcome : Outcome3) → stop_stands outcome journal ≡ false

-- What is written stands: what a read gives stands for the batches, and so does all that a crash may leave.
pub record IsSettled {A : Type 0} {tells : Ghosts A} (journal : Journal A tells) : Type 0 where
  pub reads : Told tells
      → Keeps (front_of journal) (header_of journal) (batches journal) (tells.octets (area_of journal))
  pub crash : Told tells → (c : List ℕ)
      → tells.may_leave (area_of journal) c → Keeps (front_of journal) (header_of journal) (batches journal) c
  pub place : Told tells → end journal ≡ end_of (batches journal)
  pub free : Told tells → free_of journal ≡ free_beside (tells.size (area_of journal)) (batches journal)

-- a stop that comes now leaves the batches, with the torn one where that stands after its outcome
abbrev pub StopLeaves : {A : Type 0} {tells : Ghosts A} → Journal A tells → Type 0
StopLeaves {tells = tells} journal = (outcome : Outcome3) →
    Keeps (front_of journal)
    (header_of journal) (left_by_stop outcome journal) ((tells.fate (area_of journal)).leaves outcome)
