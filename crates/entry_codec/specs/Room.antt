-- Which entries a journal has room for.
use Rattle.std.specs.Prelude.{ℕ, ◌+◌, ◌-◌, ◌≤◌, Bool, nat_le, List, [], ◌∷◌, ◌++◌}
use Rattle.gw_base.specs.declared.history.HistoryEntry.{HistoryEntry}
use Rattle.gw_base.specs.HeldKeys.{promised_octets}
use Rattle.entry_codec.specs.Spelling.{cost_of}

-- what the entries of a history cost of its journal
abbrev pub costs_of : List HistoryEntry → ℕ
costs_of [] = 0
costs_of (e ∷ h) = cost_of e + costs_of h

-- what a journal on so many octets has for its batches: all but the header's 32, and the gate behind the last batch
abbrev pub capacity_of : ℕ → ℕ
capacity_of size = size - 33

-- There is room for an entry exactly where the costs of the history, what is promised behind the entry and the entry's
-- cost are together at most the capacity.
abbrev pub has_room : List HistoryEntry → HistoryEntry → ℕ → Bool
has_room h e size = nat_le (costs_of h + cost_of e + promised_octets (h ++ e ∷ [])) (capacity_of size)

-- what a history costs and what it promises are within the capacity, as they stay where each entry had room
abbrev pub IsWithin : List HistoryEntry → ℕ → Type 0
IsWithin h size = costs_of h + promised_octets h ≤ capacity_of size
