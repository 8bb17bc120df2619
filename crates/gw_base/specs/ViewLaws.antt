-- What a history says of all nodes and of one changes by each further entry alone.
use Rattle.std.proofs.Common.{◌≡◌, ℕ, List, [], ◌∷◌, ◌++◌}
use Rattle.gw_base.specs.declared.history.HistoryEntry.{HistoryEntry}
use Rattle.gw_base.specs.EntryLaws.{epoch_of-append, is_close_due-append, known_nodes-append, last_moment-append, last_tick-append, opening_of-append, start_count-append, top_of-append}
use Rattle.gw_base.specs.HeldLaws.{held_keys-append, stranded-append}
use Rattle.gw_base.specs.View.{node_view_after, node_view_of, view_after, view_of}

pub view_of-append : (h : List HistoryEntry) (e : HistoryEntry) → view_of (h ++ e ∷ []) ≡ view_after (view_of h) e
view_of-append h e = λ i. record {
  starts = start_count-append h e i;
  known = known_nodes-append h e i;
  held = held_keys-append h e i;
  stranded = stranded-append h e i;
  moment = last_moment-append h e i;
  is_close_due = is_close_due-append h e i;
  last_tick = last_tick-append h e i;
}

pub node_view_of-append : (node : ℕ) (h : List HistoryEntry) (e : HistoryEntry) → node_view_of node (h ++ e ∷ []) ≡ node_view_after node (node_view_of node h) e.act
node_view_of-append node h e = λ i. record {
  epoch = epoch_of-append node h e i;
  opening = opening_of-append node h e i;
  top = top_of-append node h e i;
}
