-- The names that several proofs of this crate use, each from where it stands.
pub use Rattle.gtpp_message.specs.Packet.{Empty, packet_of, PacketForm}
pub use Rattle.gw_base.specs.Nearest.{nearest}
pub use Rattle.gw_base.specs.declared.address.Addr.{Addr}
pub use Rattle.node_core.specs.Choosing.{IsChoice, IsChoiceOf, ReleasesChoice}
pub use Rattle.node_core.specs.Copies.{command_hearing, copy_hearing, copy_hearing_own, first_told, is_answered, is_chosen, is_filed, is_fulfilled, is_held, is_release, is_released, is_unknown, names, new_copy, told, told_if}
pub use Rattle.node_core.specs.Growing.{CommandGrows, CopyGrows, Extends, is_within_start, PacketGrows}
pub use Rattle.node_core.specs.Hearing.{Dropped, entries_from, first_made, heard_entries, id_of, made_by, path_octets, saying_entries, Says, Taken, taken, taken_entries}
pub use Rattle.node_core.specs.Log.{Appointed, Began, counter_of, done_among, favourite, Halted, has_entries, Heard, LogEntry, NodeSetup, packets_hearing, packets_of, Path, paths_hearing, paths_of, peers_of, Redirects, resolved_among, Responds, restarted, Saying, Submitted, submitted, Ticked}
pub use Rattle.node_core.specs.Moving.{appointing, favourite_by, is_refusal, moved_at_tick, moved_by, next_place, place_at, quiet_by, redirected, waits_at}
pub use Rattle.node_core.specs.Nearness.{all_numbers_of, all_unsettled_at, ComesSoon, HasCopy, HasOpenCopy, IsCopyOrBase}
pub use Rattle.node_core.specs.NodeFields.{IsSound, value_of_node}
pub use Rattle.node_core.specs.Packets.{chosen, commanded, copies_after, is_done, is_of, is_resolved, packet_after, packet_after_all, packet_hearing, PacketState, while_open, with_command}
pub use Rattle.node_core.specs.Peers.{all_drawn, AreNumbers, at_place, drawn, end_of_numbers, last_number, next_number, number_drawn, peer_anew, place_of}
pub use Rattle.node_core.specs.Reached.{call_entries, entries_halted, entries_running, Halt, Hear, log_of, most_submissions, NodeCall, reached, Start, Submit, submit_entries, Tick}
pub use Rattle.node_core.specs.Sendings.{again, asking, command_by, command_of, command_unless, copy_to, due_by_copies, due_by_verdict, due_for, due_for_all, probe_of, probes, probes_from, releasing, repeating, settling, settling_beside, settling_by, test_of}
pub use Rattle.node_core.specs.Sent.{HasCopyAt, HasCopyOf, IsCommandOf, IsSent}
pub use Rattle.node_core.specs.Sound.{AllDone, AreNumbered, IsSettled, KeptPackets, planned}
pub use Rattle.node_core.specs.Submitting.{least, numbers_at, numbers_out, oldest_number, open_among, out_at, refusal, unsettled_at}
pub use Rattle.node_core.specs.Ticks.{due, due_by, due_now, moved, tick_entries}
pub use Rattle.node_core.specs.Value.{befallen, befell, CanFollow, CanFollowAll, IsNode, logged, most_quiet, node_of, NodeValue, peers_anew}
pub use Rattle.node_core.specs.declared.copy.Command.{Command}
pub use Rattle.node_core.specs.declared.copy.Order.{Order}
pub use Rattle.node_core.specs.declared.copy.Order.TheVariants.{Cancel, Release}
pub use Rattle.node_core.specs.declared.copy.PacketCopy.{PacketCopy}
pub use Rattle.node_core.specs.declared.copy.Verdict.{Verdict}
pub use Rattle.node_core.specs.declared.copy.Verdict.TheVariants.{Filed, Held, Sealed, Unknown}
pub use Rattle.node_core.specs.declared.peer.Peer.{Peer}
pub use Rattle.node_core.specs.declared.port.Port.{Port}
pub use Rattle.node_core.specs.declared.sending.Sending.{Sending}
pub use Rattle.path_mgmt.specs.NodePath.{is_alive, node_after, PathsOfNode}
pub use Rattle.path_mgmt.specs.declared.event.PathEvent.{PathEvent}
pub use Rattle.std.proofs.Math.Bool.{and-false, and-true, or-false}
pub use Rattle.std.proofs.lemmas.Bool.{and_from, and_parts, and_right, cases_Bool, cond_both, eq-eqb, eqb-false, eqb-true, false_from_ne_true, false≢true, leb-false, ltb-false, ltb-true, ltb_from_iff, ne_eqb, or_cases, or_from, or_left, or_right}
pub use Rattle.std.proofs.lemmas.Bool.Decides.{eqb_tells, nat_tests}
pub use Rattle.std.proofs.lemmas.List.{append-nil, at_drop_all, at_drop_more, get_or-map, length-map, map-append, take-append-drop, take-map, take_more, with_items_is}
pub use Rattle.std.proofs.lemmas.List.Edits.{map_over_more}
pub use Rattle.std.proofs.lemmas.List.Elements.{All-append, All-cons, All-contains, All-contains_itself, All-from_recursion, All-map, All-nil, All-push, All-weaker, Contains-push, recursion_from_All}
pub use Rattle.std.proofs.lemmas.List.Folds.{Any-from_list_any, find-append, list_all-append, list_all-map, list_any-append, list_any_at, list_any_none, map_fixed}
pub use Rattle.std.proofs.lemmas.List.Sums.{sum_by-cons}
pub use Rattle.std.proofs.lemmas.Option.{IfSome_then}
pub use Rattle.std.specs.List.{All, AllByRecursion, AllPairs, Contains, count_by, filter, find, flat_map, list_any}
pub use Rattle.std.specs.Option.{IfSome, option_map_or, option_or, option_to_list}
pub use Rattle.std.specs.Prelude.{option_map, slice_get}
