-- What one side of an index says of a history.
use Rattle.std.specs.Prelude.{◌≡◌, ℕ, ◌==◌, List, length, is_some, count_by}
use Rattle.dup_buffer.specs.Copies.{Copies}
use Rattle.gw_base.specs.HeldKeys.{held_keys, holds}
use Rattle.gw_base.specs.History.{copies_of, is_close_due, last_moment}
use Rattle.gw_base.specs.Known.{known_nodes}
use Rattle.gw_base.specs.Starts.{opening_of, start_count}
use Rattle.gw_base.specs.TickDue.{last_tick}
use Rattle.gw_base.specs.declared.held.HeldKey.{HeldKey}
use Rattle.gw_base.specs.declared.history.HistoryEntry.{HistoryEntry}
use Rattle.seq_window.specs.Histories.{IsFreshAbove, window_of}
use Rattle.gateway_index.specs.Limits.{half}
use Rattle.gateway_index.specs.Sides.{Side}
use Rattle.gateway_index.specs.declared.totals.Totals.{Totals}

abbrev pub totals_of : List HistoryEntry → Totals
totals_of h = record {
  starts = start_count h;
  stranded = (copies_of h).stranded;
  moment = last_moment h;
  is_close_due = is_close_due h;
  last_tick = last_tick h;
}

-- Copies are those of these keys, however they lie.
pub record AreCopiesOf (copies : Copies) (keys : List HeldKey) : Type 0 where
  pub places : (node number : ℕ) → is_some (copies.place_of node number) ≡ holds node number keys
  pub count : copies.count ≡ length keys
  pub counts : (node : ℕ) → copies.count_of node ≡ count_by (λ key. key.node.0 == node) keys

-- A side says of everything what a history says, of states as far as the windows of the present epochs reach, and
-- nothing above the greatest number of an epoch has a state.
pub record Tells (side : Side) (h : List HistoryEntry) : Type 0 where
  pub windows : (node : ℕ) → side.nodes.window node ≡ window_of half node h
  pub openings : (node : ℕ) → side.nodes.opening node ≡ opening_of node h
  pub known : side.nodes.known ≡ known_nodes h
  pub held : AreCopiesOf side.held (held_keys h)
  pub totals : side.totals ≡ totals_of h
  pub above : (node : ℕ) → IsFreshAbove node h
