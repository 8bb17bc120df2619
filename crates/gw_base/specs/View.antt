-- What a gateway keeps of its history, and how one more entry changes it.
use Rattle.std.specs.Prelude.{ℕ, ◌+◌, ◌==◌, ◌&&◌, not, Bool, if◌then◌else◌, List, [], ◌++◌, Option, filter, count_by}
use Rattle.gw_base.specs.declared.address.NodeId.{NodeId}
use Rattle.gw_base.specs.declared.held.HeldKey.{HeldKey}
use Rattle.gw_base.specs.declared.history.HistoryAct.{HistoryAct}
use Rattle.gw_base.specs.declared.history.HistoryEntry.{HistoryEntry}
use Rattle.gw_base.specs.declared.history.PacketKey.{PacketKey}
use Rattle.gw_base.specs.declared.key_state.KeyState.{KeyState}
use Rattle.gw_base.specs.declared.key_state.KeyState.TheVariants.{Fresh}
use Rattle.gw_base.specs.HeldKeys.{held_by, held_keys}
use Rattle.gw_base.specs.History.{begins_epoch, copies_of, due_after, epoch_of, given_state, is_close_due, last_moment, names, top_after, top_of}
use Rattle.gw_base.specs.Known.{known_nodes, named_node, with_node}
use Rattle.gw_base.specs.Starts.{is_start, opening_after, opening_of, start_count}
use Rattle.gw_base.specs.TickDue.{last_tick, tick_after}
use Rattle.gw_base.specs.declared.history.Opening.{Opening}

-- what a history says of all nodes together
pub record HistoryView : Type 0 where
  pub starts : ℕ
  pub known : List NodeId
  pub held : List HeldKey
  pub stranded : ℕ
  pub moment : ℕ
  pub is_close_due : Bool
  pub last_tick : Option ℕ

abbrev pub view_of : List HistoryEntry → HistoryView
view_of h = record {
  starts = start_count h;
  known = known_nodes h;
  held = held_keys h;
  stranded = (copies_of h).stranded;
  moment = last_moment h;
  is_close_due = is_close_due h;
  last_tick = last_tick h;
}

-- whether a held key stays held: the entry neither begins an epoch of its node nor names it
abbrev pub stays_held : HistoryAct → HeldKey → Bool
stays_held act key = not (begins_epoch key.node.0 act) && not (names key.node.0 key.number act)

-- whether the entry strands a held key
abbrev pub strands : HistoryAct → HeldKey → Bool
strands act key = begins_epoch key.node.0 act

-- the view after one more entry
abbrev pub view_after : HistoryView → HistoryEntry → HistoryView
view_after v e = record {
  starts = v.starts + (if is_start e.act then 1 else 0);
  known = with_node v.known (named_node e.act);
  held = filter (λ key. stays_held e.act key) v.held ++ held_by e.act [];
  stranded = v.stranded + count_by (λ key. strands e.act key) v.held;
  moment = e.moment;
  is_close_due = due_after v.is_close_due e.act;
  last_tick = tick_after v.last_tick e.act e.moment;
}

-- what a history says of one node
pub record NodeView : Type 0 where
  pub epoch : ℕ
  pub opening : Option Opening
  pub top : Option ℕ

abbrev pub node_view_of : ℕ → List HistoryEntry → NodeView
node_view_of node h = record { epoch = epoch_of node h; opening = opening_of node h; top = top_of node h }

-- the node's view after one more entry
abbrev pub node_view_after : ℕ → NodeView → HistoryAct → NodeView
node_view_after node v act = record {
  epoch = v.epoch + (if begins_epoch node act then 1 else 0);
  opening = opening_after node v.opening act;
  top = top_after node v.top act;
}

-- a key's state after one more entry, by the number of the node's epoch that it stands in
abbrev pub state_after : PacketKey → ℕ → KeyState → HistoryAct → KeyState
state_after key epoch state act = if (epoch == key.epoch) && names key.node.0 key.number act then given_state act else state

-- a number's state in its node's present epoch after one more entry: a Path of the node begins with fresh numbers
abbrev pub present_after : ℕ → ℕ → KeyState → HistoryAct → KeyState
present_after node number state act =
    if begins_epoch node act then Fresh else (if names node number act then given_state act else state)
