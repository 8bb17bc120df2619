-- All that an answer to a node asks of a gateway's history.
use Rattle.std.specs.Prelude.{ℕ, ◌%◌, Bool, List, length, Option}
use Rattle.gw_base.specs.declared.address.NodeId.{NodeId}
use Rattle.gw_base.specs.declared.history.HistoryEntry.{HistoryEntry}
use Rattle.gw_base.specs.declared.key_state.KeyState.{KeyState}
use Rattle.gw_base.specs.declared.history.Opening.{Opening}
use Rattle.gw_base.specs.HeldKeys.{held_keys}
use Rattle.gw_base.specs.History.{last_moment, present_state, top_of}
use Rattle.gw_base.specs.Known.{is_known, known_nodes}
use Rattle.gw_base.specs.Starts.{opening_of, start_count}

-- the gateway's own restart counter; the opening of the node's present epoch, the greatest number of that epoch and the
-- state of each number in it; whether the node is known; how many nodes are, and how many keys are held; the moment of
-- the last entry
pub record Observed : Type 0 where
  pub own : ℕ
  pub opening : Option Opening
  pub top : Option ℕ
  pub state : ℕ → KeyState
  pub is_known : Bool
  pub known : ℕ
  pub held : ℕ
  pub moment : ℕ

abbrev pub observed : List HistoryEntry → NodeId → Observed
observed h node = record {
  own = start_count h % 256;
  opening = opening_of node.0 h;
  top = top_of node.0 h;
  state = λ number. present_state node.0 number h;
  is_known = is_known (known_nodes h) node;
  known = length (known_nodes h);
  held = length (held_keys h);
  moment = last_moment h;
}
