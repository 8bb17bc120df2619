-- Which octets of an area stand for which history.
use Rattle.std.specs.Prelude.{◌≡◌, ◌≢◌, ◌⊎◌, ℕ, ◌≤◌, List, [], ◌∷◌, ◌++◌, length, All, map}
use Rattle.std.specs.List.{flat_map}
use Rattle.gw_base.specs.declared.history.HistoryEntry.{HistoryEntry}
use Rattle.gate_journal.specs.Before.{AreBefore, batch_at}
use Rattle.gate_journal.specs.Format.{Differs, IsWhole, Stands, gate_at, open_gate}
use Rattle.entry_codec.specs.Content.{IsContent, entries_of, spelled}
use Rattle.entry_codec.specs.Room.{capacity_of, costs_of}
use Rattle.entry_codec.specs.Spelling.{HasSpelling}

-- parts of a history, joined
abbrev pub joined : List (List HistoryEntry) → List HistoryEntry
joined parts = flat_map (λ part. part) parts

-- what an entry costs at least: its 25 octets without a body, and the five that begin a batch
abbrev pub cheapest_entry : ℕ
cheapest_entry = 30

-- The octets stand for this history: it comes in parts, none of which is empty, and behind the header there is a batch
-- for each part, its entries spelled one after the other; each entry has a spelling, and all of them cost no more than
-- the capacity of an area of this size.
pub record StandsFor (header octets : List ℕ) (h : List HistoryEntry) : Type 0 where
  pub parts : List (List HistoryEntry)
  pub history : h ≡ joined parts
  pub some : All (λ part. part ≢ []) parts
  pub stands : Stands header octets (map spelled parts)
  pub each : All HasSpelling h
  pub costs : costs_of h ≤ capacity_of (length octets)

-- the entries that batches hold, batch by batch
abbrev pub entries_in : List (List ℕ) → List HistoryEntry
entries_in batches = flat_map entries_of batches

-- Batches hold entries alone, at least one in each batch, and these cost no more than the capacity of an area of this size.
pub record AreBatches (size : ℕ) (batches : List (List ℕ)) : Type 0 where
  pub contents : All IsContent batches
  pub costs : costs_of (entries_in batches) ≤ capacity_of size

-- Behind batches that are these the gate at this place is open, and its batch isn't whole: by the journal's own tests, or
-- as one of these behind the others.
pub record IsSpoiledBy (Are : List (List ℕ) → Type 0) (header octets : List ℕ) (at : ℕ) : Type 0 where
  pub batches : List (List ℕ)
  pub before : AreBefore header octets at batches
  pub are : Are batches
  pub opened : gate_at octets at ≡ open_gate
  pub unwhole : IsWhole octets at → Are (batches ++ batch_at octets at ∷ []) → ⊥

-- The octets stand for no history of such batches and don't start either, and this place shows it: the first octet of
-- the header that differs, or the first open gate whose batch isn't whole.
abbrev pub IsForeignBy : (List (List ℕ) → Type 0) → List ℕ → List ℕ → ℕ → Type 0
IsForeignBy Are header octets at = Differs header octets at ⊎ IsSpoiledBy Are header octets at

-- the same of batches of entries within the capacity
abbrev pub IsForeignTo : List ℕ → List ℕ → ℕ → Type 0
IsForeignTo header octets at = IsForeignBy (AreBatches (length octets)) header octets at
