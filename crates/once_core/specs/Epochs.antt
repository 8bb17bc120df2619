-- Which epoch of a node began with which start, and the state and the filed records of a number by the start of its epoch.
use Rattle.std.specs.Prelude.{ℕ, ◌==◌, ◌<◌, List, [], ◌∷◌, ◌++◌, Option, find, option_map}
use Rattle.std.specs.Option.{option_map_or}
use Rattle.gateway_answer.specs.Filed.{filed}
use Rattle.gateway_answer.specs.Once.{times_filed}
use Rattle.gw_base.specs.History.{state_of}
use Rattle.gw_base.specs.Starts.{start_of, starts_of}
use Rattle.gw_base.specs.declared.history.HistoryAct.{HistoryAct}
use Rattle.gw_base.specs.declared.history.HistoryAct.TheVariants.{Path}
use Rattle.gw_base.specs.declared.history.HistoryEntry.{HistoryEntry}
use Rattle.gw_base.specs.declared.history.PacketKey.{PacketKey}
use Rattle.gw_base.specs.declared.key_state.KeyState.{KeyState}
use Rattle.gw_base.specs.declared.key_state.KeyState.TheVariants.{Fresh}

-- P holds of each of these entries and what stands before it
abbrev pub EachBehind : (List HistoryEntry → HistoryEntry → Type 0) → List HistoryEntry → List HistoryEntry → Type 0
EachBehind P before [] = Unit {0}
EachBehind P before (e ∷ h) = P before e × EachBehind P (before ++ e ∷ []) h

-- an epoch of a node begins with a greater start than the one before it
abbrev pub RisesBy : List HistoryEntry → HistoryAct → Type 0
RisesBy before (Path n port counter) = start_of n.0 before < counter
RisesBy before _ = Unit {0}

-- the starts of each node rise
abbrev pub StartsRise : List HistoryEntry → Type 0
StartsRise h = EachBehind (λ before e. RisesBy before e.act) [] h

-- the epoch of a node that began with this start, where one did: the first such, and by the law `starts_only_rise` the
-- only one in what is firm at a gateway of a world
abbrev pub epoch_with : ℕ → ℕ → List HistoryEntry → Option ℕ
epoch_with node start h = option_map (λ placed. placed.0) (find (λ placed. placed.1 == start) (starts_of node h))

-- the key of a node's number in an epoch
abbrev pub key_in : ℕ → ℕ → ℕ → PacketKey
key_in node number epoch = record { node = record { 0 = node }; epoch = epoch; number = number }

-- the state of a node's number in the epoch with this start
abbrev pub state_with : ℕ → ℕ → ℕ → List HistoryEntry → KeyState
state_with node start number h = option_map_or (λ epoch. state_of (key_in node number epoch) h) (epoch_with node start h) Fresh

-- how often the record with this index of the packet under a node's number was filed, in the epoch with this start
abbrev pub times_with : ℕ → ℕ → ℕ → ℕ → List HistoryEntry → ℕ
times_with node start number index h =
    option_map_or (λ epoch. times_filed (key_in node number epoch) index (filed h)) (epoch_with node start h) 0
