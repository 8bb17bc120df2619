-- The names that several proofs of this crate use, each from where it stands.
pub use Rattle.dup_buffer.specs.Copies.{Copies, held_of, most_copies, no_copies, with_copy, without_copy, without_node}
pub use Rattle.gateway_index.specs.CopySteps.{MayStep, MayStepEach, with_step, with_steps}
pub use Rattle.gateway_index.specs.FitActs.{any_packet, fits_with, is_fresh, is_in_window, is_list_fit, is_new}
pub use Rattle.gateway_index.specs.GivenStates.{MaySet, MaySetEach, with_each}
pub use Rattle.gateway_index.specs.HeldPairs.{IsHeldStep}
unfoldable pub use Rattle.gateway_index.specs.HeldPairs.{held_in}
pub use Rattle.gateway_index.specs.Index.{observed_in, Stepped}
unfoldable pub use Rattle.gateway_index.specs.Index.{Follows, observed_by, side_of}
pub use Rattle.gateway_index.specs.Limits.{half, has_place, is_in_range, may_hold}
pub use Rattle.gateway_index.specs.NodeSides.{AreNew, IsNodesStep, MayBeKnown}
unfoldable pub use Rattle.gateway_index.specs.NodeSides.{nodes_in}
pub use Rattle.gateway_index.specs.Nodes.{AreSame, AreSlots, fresh_slot, IsLearnt, IsNew, IsSame, kept_slots, known_at, nodes_of, opening_at, opening_in, place_in, reopened, settled_slot}
pub use Rattle.gateway_index.specs.Paths.{path_in, paths_in}
pub use Rattle.gateway_index.specs.Sides.{acted, AreHeldIn, no_place, no_totals, NodeSide, Side, side_after, state_in, totals_after}
unfoldable pub use Rattle.gateway_index.specs.Sides.{listed_nodes, numbered_nodes, opened_nodes, without_copies}
pub use Rattle.gateway_index.specs.WindowPairs.{AreBeside, AreBlank, AreKeptIn, AreKeptTo, IsPairStep, IsStepAt}
unfoldable pub use Rattle.gateway_index.specs.WindowPairs.{seen_at, seen_in}
pub use Rattle.gateway_index.specs.Windows.{if_held, narrowed}
pub use Rattle.gateway_index.specs.declared.held_pair.HeldPair.{HeldPair}
pub use Rattle.gateway_index.specs.declared.nodes.NodeTable.{NodeTable}
pub use Rattle.gateway_index.specs.declared.nodes.Slot.{Slot}
pub use Rattle.gateway_index.specs.declared.totals.Totals.{Totals}
pub use Rattle.gateway_index.specs.declared.window_pair.WindowPair.{WindowPair}
pub use Rattle.gw_base.specs.HeldKeys.{held_by, held_keys, holds, is_key}
pub use Rattle.gw_base.specs.History.{begins_epoch, copies_of, due_after, epoch_of, present_state, state_of, top_of, with_entry, with_fate}
pub use Rattle.gw_base.specs.Known.{is_known, named_node, with_node}
pub use Rattle.gw_base.specs.Observed.{Observed, observed}
pub use Rattle.gw_base.specs.declared.address.NodeId.{NodeId}
pub use Rattle.gw_base.specs.declared.held.HeldKey.{HeldKey}
pub use Rattle.gw_base.specs.declared.history.HistoryAct.{HistoryAct}
pub use Rattle.gw_base.specs.declared.history.HistoryAct.TheVariants.{Cancel, File, Hold, Path, Release, Seal}
pub use Rattle.gw_base.specs.declared.history.HistoryEntry.{HistoryEntry}
pub use Rattle.gw_base.specs.declared.history.Opening.{Opening}
pub use Rattle.gw_base.specs.declared.key_state.KeyState.{KeyState}
pub use Rattle.gw_base.specs.declared.key_state.KeyState.TheVariants.{Fresh, Held}
pub use Rattle.seq_window.specs.Histories.{IsFreshAbove, NamesHeld, seen_after, window_of}
pub use Rattle.seq_window.specs.Seen.{is_within, nothing_seen, Seen, with_state, with_states}
pub use Rattle.seq_window.specs.Stored.{cell_state, seen_of, Stored}
pub use Rattle.std.proofs.lemmas.Bool.{and_cases, and_left, and_parts, and_right, cases_Bool, cond-false, cond_both, eq-eqb, eqb-true, false_from_ne_true, false≢true, le-ltb, leb-false, leb-true, lt-ltb, ltb-false, ltb-true, ne_eqb, or_cases, or_parts, true_from_ne_false}
pub use Rattle.std.proofs.lemmas.Bool.Decides.{eqb_tells, nat_tests}
pub use Rattle.std.proofs.lemmas.List.{append-nil, drop-append-le, drop-map, drop_all, get_or_default, length-map, length-set, length-take, map-append, take-take, take_all, take_at}
pub use Rattle.std.proofs.lemmas.List.Edits.{map_over_more}
pub use Rattle.std.proofs.lemmas.List.Folds.{list_any-append, map_fixed}
pub use Rattle.std.specs.List.{cons_option, filter_map, list_all, list_any, take-map}
pub use Rattle.std.specs.Prelude.{IfSome, nat_le, nat_lt, slice_index_or, slice_set}
