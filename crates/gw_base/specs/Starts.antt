-- How often a gateway and a node began to run.
use Rattle.std.specs.Prelude.{ℕ, ◌==◌, Bool, true, false, if◌then◌else◌, List, ◌∷◌, Option, Some, None, count_by, map}
use Rattle.std.specs.List.{enumerate_from, filter_map, last_or}
use Rattle.std.specs.Option.{option_map_or}
use Rattle.gw_base.specs.declared.history.HistoryAct.{HistoryAct}
use Rattle.gw_base.specs.declared.history.HistoryAct.TheVariants.{Start, Path}
use Rattle.gw_base.specs.declared.history.HistoryEntry.{HistoryEntry}
use Rattle.gw_base.specs.declared.history.Opening.{Opening}

-- whether an entry says that the gateway began to run
abbrev pub is_start : HistoryAct → Bool
is_start Start = true
is_start _ = false

-- how often the gateway began to run
abbrev pub start_count : List HistoryEntry → ℕ
start_count h = count_by (λ e. is_start e.act) h

-- the port and the counter of an entry that begins an epoch of a node
abbrev pub opening_by : ℕ → HistoryAct → Option Opening
opening_by node (Path n port counter) = if n.0 == node then Some (record { port = port; counter = counter }) else None
opening_by node _ = None

-- those of a node's Path entries, in order
abbrev pub openings_of : ℕ → List HistoryEntry → List Opening
openings_of node h = filter_map (λ e. opening_by node e.act) h

-- the port and the counter of the Path that began a node's present epoch, where one did
abbrev pub opening_of : ℕ → List HistoryEntry → Option Opening
opening_of node h = last_or None (openings_of node h)

-- the opening of a node's present epoch after one more entry
abbrev pub opening_after : ℕ → Option Opening → HistoryAct → Option Opening
opening_after node opening (Path n port counter) = if n.0 == node then Some (record { port = port; counter = counter }) else opening
opening_after node opening _ = opening

-- the start of an epoch that was opened so: the counter of its Path, and 0 where it has none
abbrev pub start_by : Option Opening → ℕ
start_by opening = option_map_or (λ o. o.counter) opening 0

-- the start of a node's present epoch
abbrev pub start_of : ℕ → List HistoryEntry → ℕ
start_of node h = start_by (opening_of node h)

-- the epochs of a node with the start of each: epoch 0 with 0, and the others with the counter of their Path
abbrev pub starts_of : ℕ → List HistoryEntry → List (ℕ × ℕ)
starts_of node h = enumerate_from 0 (0 ∷ map (λ o. o.counter) (openings_of node h))
