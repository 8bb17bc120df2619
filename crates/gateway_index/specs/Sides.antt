-- What one side of an index keeps, and how one more entry changes it.
use Rattle.std.specs.Prelude.{◌≡◌, ℕ, ◌+◌, ◌-◌, ◌^◌, min, ◌==◌, true, false, if◌then◌else◌, List, [], ◌∷◌, Option, Some, None, is_some}
use Rattle.dup_buffer.specs.Copies.{Copies, with_copy, without_copy, without_node}
use Rattle.gw_base.specs.declared.address.NodeId.{NodeId}
use Rattle.gw_base.specs.declared.history.HistoryAct.{HistoryAct}
use Rattle.gw_base.specs.declared.history.HistoryAct.TheVariants.{Start, Path, File, Hold, Seal, Release, Cancel, Tick, Close}
use Rattle.gw_base.specs.declared.history.HistoryEntry.{HistoryEntry}
use Rattle.gw_base.specs.declared.history.Opening.{Opening}
use Rattle.gw_base.specs.declared.key_state.KeyState.{KeyState}
use Rattle.gw_base.specs.declared.key_state.KeyState.TheVariants.{Filed, Held, Sealed, Released, Cancelled}
use Rattle.gw_base.specs.declared.place.Place.{Place}
use Rattle.gw_base.specs.Faults.{next_count}
use Rattle.gw_base.specs.History.{due_after}
use Rattle.gw_base.specs.Known.{with_node}
use Rattle.gw_base.specs.Starts.{is_start}
use Rattle.gw_base.specs.TickDue.{tick_after}
use Rattle.seq_window.specs.Seen.{Seen, nothing_seen, with_state, with_states}
use Rattle.gateway_index.specs.Limits.{half}
use Rattle.gateway_index.specs.declared.totals.Totals.{Totals}

-- the known nodes, the Path that opened the present epoch of each, and the window of the numbers of that epoch
pub record NodeSide : Type 0 where
  pub known : List NodeId
  pub opening : ℕ → Option Opening
  pub window : ℕ → Seen

-- what is kept of nodes and of held copies, and what is kept of all entries together
pub record Side : Type 0 where
  pub nodes : NodeSide
  pub held : Copies
  pub totals : Totals

-- the state of a node's number: that of a copy which is held, and else what the node's window says
abbrev pub state_in : Side → ℕ → ℕ → KeyState
state_in side node number = if is_some (side.held.place_of node number) then Held else (side.nodes.window node).state number

-- Each number that a node's window has as held is held.
abbrev pub AreHeldIn : Copies → NodeSide → Type 0
AreHeldIn held nodes = (node number : ℕ) → (nodes.window node).state number ≡ Held → is_some (held.place_of node number) ≡ true

-- what is kept of no entry
abbrev pub no_totals : Totals
no_totals = record { starts = 0; stranded = 0; moment = 0; is_close_due = false; last_tick = None }

-- ---- one more entry

-- the nodes after an entry that gives this state to this number
unfoldable pub numbered_nodes : NodeId → ℕ → KeyState → NodeSide → NodeSide
numbered_nodes node number state nodes = record {
  known = with_node nodes.known (Some node);
  opening = nodes.opening;
  window = λ n. if node.0 == n then with_state half number state (nodes.window n) else nodes.window n;
}

-- the nodes after an entry that gives this state to these numbers
unfoldable pub listed_nodes : NodeId → List ℕ → KeyState → NodeSide → NodeSide
listed_nodes node numbers state nodes = record {
  known = nodes.known;
  opening = nodes.opening;
  window = λ n. if node.0 == n then with_states half numbers state (nodes.window n) else nodes.window n;
}

-- the nodes after an entry that begins an epoch of a node
unfoldable pub opened_nodes : NodeId → Opening → NodeSide → NodeSide
opened_nodes node opening nodes = record {
  known = with_node nodes.known (Some node);
  opening = λ n. if node.0 == n then Some opening else nodes.opening n;
  window = λ n. if node.0 == n then nothing_seen else nodes.window n;
}

-- Where a copy lies isn't kept here: the items that are told find it by its entry.
abbrev pub no_place : Place
no_place = record { at = 0; length = 0 }

-- the copies but those of these numbers of a node
unfoldable pub without_copies : ℕ → List ℕ → Copies → Copies
without_copies node [] copies = copies
without_copies node (number ∷ numbers) copies = without_copies node numbers (without_copy node number copies)

-- the side after an entry that gives this state to this number
abbrev pub numbered : NodeId → ℕ → KeyState → Side → Side
numbered node number state side = record side { nodes = numbered_nodes node number state side.nodes }

-- the side after an entry that holds a copy
abbrev pub copied : NodeId → ℕ → Side → Side
copied node number side = record side {
  nodes = numbered_nodes node number Held side.nodes;
  held = with_copy node.0 number no_place side.held;
}

-- the side after an entry that gives this state to these numbers, which are held
abbrev pub listed : NodeId → List ℕ → KeyState → Side → Side
listed node numbers state side = record side {
  nodes = listed_nodes node numbers state side.nodes;
  held = without_copies node.0 numbers side.held;
}

-- the side after an entry that begins an epoch of a node: what was held of it is stranded
abbrev pub opened : NodeId → Opening → Side → Side
opened node opening side = record {
  nodes = opened_nodes node opening side.nodes;
  held = without_node node.0 side.held;
  totals = record side.totals { stranded = min (side.totals.stranded + side.held.count_of node.0) (2 ^ 64 - 1) };
}

-- the side after an act, but for what every entry changes
abbrev pub acted : HistoryAct → Side → Side
acted Start side = side
acted (Path node port counter) side = opened node (record { port = port; counter = counter }) side
acted (File node number packet) side = numbered node number Filed side
acted (Hold node number packet) side = copied node number side
acted (Seal node number) side = numbered node number Sealed side
acted (Release node numbers) side = listed node numbers Released side
acted (Cancel node numbers) side = listed node numbers Cancelled side
acted Tick side = side
acted Close side = side

-- what every entry changes of the totals
abbrev pub totals_after : HistoryEntry → Totals → Totals
totals_after e totals = record totals {
  starts = if is_start e.act then next_count totals.starts else totals.starts;
  moment = e.moment;
  is_close_due = due_after totals.is_close_due e.act;
  last_tick = tick_after totals.last_tick e.act e.moment;
}

-- the side after one more entry
abbrev pub side_after : HistoryEntry → Side → Side
side_after e side = record (acted e.act side) { totals = totals_after e (acted e.act side).totals }
