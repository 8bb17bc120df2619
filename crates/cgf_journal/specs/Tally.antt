-- What entries cost of a journal and what they promise, changed by one entry after the other.
use Rattle.std.specs.Prelude.{ℕ, ◌+◌, ◌-◌, ◌*◌, Bool, false, nat_le, nat_lt, if◌then◌else◌, List, [], ◌∷◌, length, filter}
use Rattle.gw_base.specs.declared.address.NodeId.{NodeId}
use Rattle.gw_base.specs.declared.held.HeldKey.{HeldKey}
use Rattle.gw_base.specs.declared.history.HistoryAct.{HistoryAct}
use Rattle.gw_base.specs.declared.history.HistoryAct.TheVariants.{Seal}
use Rattle.gw_base.specs.declared.history.HistoryEntry.{HistoryEntry}
use Rattle.gw_base.specs.HeldKeys.{held_by}
use Rattle.gw_base.specs.History.{due_after}
use Rattle.gw_base.specs.View.{stays_held}
use Rattle.entry_codec.specs.Room.{capacity_of}
use Rattle.entry_codec.specs.Spelling.{cost_of}
use Rattle.cgf_journal.specs.Rank.{rank_of}

-- the costs of entries, the keys that are held after them, and whether a Close is due
pub record TallyValue : Type 0 where
  pub costs : ℕ
  pub held : List HeldKey
  pub is_close_due : Bool

-- keys in order, with one more key in its place
abbrev pub key_in_order : HeldKey → List HeldKey → List HeldKey
key_in_order key [] = key ∷ []
key_in_order key (first ∷ keys) =
    if nat_lt (rank_of first.node.0 first.number) (rank_of key.node.0 key.number) then first ∷ key_in_order key keys else key ∷ first ∷ keys

abbrev pub keys_in_order : List HeldKey → List HeldKey → List HeldKey
keys_in_order [] keys = keys
keys_in_order (key ∷ more) keys = key_in_order key (keys_in_order more keys)

-- the held keys after one more entry
abbrev pub held_after : HistoryAct → List HeldKey → List HeldKey
held_after act keys = keys_in_order (held_by act []) (filter (λ key. stays_held act key) keys)

-- the held keys after a Hold of this number
abbrev pub held_with : NodeId → ℕ → List HeldKey → List HeldKey
held_with node number keys = key_in_order (record { node = node; number = number }) (filter (λ key. stays_held (Seal node number) key) keys)

-- the tally of no entry
abbrev pub no_tally : TallyValue
no_tally = record { costs = 0; held = []; is_close_due = false }

-- the tally after one more entry
abbrev pub tally_behind : TallyValue → HistoryEntry → TallyValue
tally_behind t e = record {
  costs = t.costs + cost_of e;
  held = held_after e.act t.held;
  is_close_due = due_after t.is_close_due e.act;
}

-- the tally after these entries
abbrev pub tally_behind_all : TallyValue → List HistoryEntry → TallyValue
tally_behind_all t [] = t
tally_behind_all t (e ∷ h) = tally_behind_all (tally_behind t e) h

-- the tally of a history
abbrev pub tally_of : List HistoryEntry → TallyValue
tally_of h = tally_behind_all no_tally h

-- the octets that are promised: 76 for each held key, and 30 where a Close is due
abbrev pub promised_by : TallyValue → ℕ
promised_by t = 76 * length t.held + (if t.is_close_due then 30 else 0)

-- whether there is room for one more entry in an area of this size
abbrev pub has_room_behind : TallyValue → HistoryEntry → ℕ → Bool
has_room_behind t e size = nat_le ((tally_behind t e).costs + promised_by (tally_behind t e)) (capacity_of size)

-- the octets that costs and promises leave of the capacity of an area of this size
abbrev pub free_beside : TallyValue → ℕ → ℕ
free_beside t size = capacity_of size - (t.costs + promised_by t)

-- the tallies that a trail keeps: of its firm entries, and of these with those that follow; and for how many keys there is
-- memory
pub record Tallies : Type 0 where
  pub firm : TallyValue
  pub live : TallyValue
  pub reserved : ℕ
