-- Which packets a gateway holds, and how much room it owes to them.
use Rattle.std.specs.Prelude.{ℕ, ◌+◌, ◌*◌, ◌==◌, ◌&&◌, Bool, true, false, if◌then◌else◌, List, [], ◌∷◌, ◌++◌, length}
use Rattle.std.specs.List.{list_any}
use Rattle.gw_base.specs.declared.address.NodeId.{NodeId}
use Rattle.gw_base.specs.declared.held.HeldKey.{HeldKey}
use Rattle.gw_base.specs.declared.history.HistoryAct.{HistoryAct}
use Rattle.gw_base.specs.declared.history.HistoryAct.TheVariants.{Hold}
use Rattle.gw_base.specs.declared.history.HistoryEntry.{HistoryEntry}
use Rattle.gw_base.specs.declared.key_state.KeyState.{KeyState}
use Rattle.gw_base.specs.declared.key_state.KeyState.TheVariants.{Held}
use Rattle.gw_base.specs.declared.scan.HoldFate.{HoldFate}
use Rattle.gw_base.specs.declared.scan.HoldFate.TheVariants as fate
use Rattle.gw_base.specs.History.{fate_of, is_close_due}

-- the key of a Hold entry of this fate, where it is still held
abbrev pub held_if : HoldFate → NodeId → ℕ → List HeldKey
held_if fate.Held n x = (record { node = n; number = x }) ∷ []
held_if _ n x = []

-- the key that an entry holds, by the entries that follow it
abbrev pub held_by : HistoryAct → List HistoryEntry → List HeldKey
held_by (Hold n x packet) later = held_if (fate_of n.0 x later) n x
held_by _ later = []

-- the held keys of present epochs, in the order of the Hold entries: those that no later entry of their epoch names
abbrev pub held_keys : List HistoryEntry → List HeldKey
held_keys [] = []
held_keys (e ∷ h) = held_by e.act h ++ held_keys h

-- whether a node's number is one of these
abbrev pub is_key : ℕ → ℕ → HeldKey → Bool
is_key node number key = (key.node.0 == node) && (key.number == number)

abbrev pub holds : ℕ → ℕ → List HeldKey → Bool
holds node number keys = list_any (λ key. is_key node number key) keys

abbrev pub is_held : KeyState → Bool
is_held Held = true
is_held _ = false

-- the octets of a journal that are promised: 76 for each held key of a present epoch, so that it can be released or
-- cancelled and the files closed, and 30 where a Close is due
abbrev pub promised_octets : List HistoryEntry → ℕ
promised_octets h = 76 * length (held_keys h) + (if is_close_due h then 30 else 0)
