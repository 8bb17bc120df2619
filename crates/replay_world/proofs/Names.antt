-- The names that several proofs of this crate use, each from where it stands.
pub use Rattle.area_disk.specs.Armed.{Armed, calls_under, Came, one_later}
pub use Rattle.area_disk.specs.Armed.Armed.{Fail, Nothing, Stop}
pub use Rattle.area_disk.specs.Armed.Came.{FailedAt, Ran, StoppedAt}
pub use Rattle.file_writer.specs.Streams.{Settings}
pub use Rattle.gateway_answer.specs.Items.{items_of}
pub use Rattle.gateway_answer.specs.Value.{BookValue, committed, Fortune, Gone, history_of, recorded, reopened, Whole}
pub use Rattle.gateway_book.specs.Comes.{Asked, asked_to_ready, AsksCommit, AsksNothing, AsksReopening}
pub use Rattle.gateway_book.specs.Up.{Breaks, commit_sequel, fortune_by, GoesOn, reopening_sequel, Sequel, sequel_of, Stops}
pub use Rattle.gtpp_message.specs.Packet.{IsPacket, packet_of, PacketForm}
pub use Rattle.gw_base.specs.History.{is_close_due}
pub use Rattle.gw_base.specs.declared.address.Addr.{Addr}
pub use Rattle.gw_base.specs.declared.history.HistoryAct.TheVariants.{Close}
pub use Rattle.gw_base.specs.declared.history.HistoryEntry.{HistoryEntry}
pub use Rattle.gw_base.specs.declared.item.Item.{Item}
pub use Rattle.node_core.specs.Counting.{counts_of}
pub use Rattle.node_core.specs.Drafts.{addition_fault, addition_fault_of, is_without_records, packet_anew, packet_of_form, value_octets}
pub use Rattle.node_core.specs.Hearing.{Dropped, entries_from, heard_entries, heeds, Says, Taken, taken, taken_entries}
pub use Rattle.node_core.specs.Log.{Appointed, Began, counter_of, Halted, Heard, LogEntry, NodeSetup, Path, paths_hearing, paths_of, peers_of, runs, Saying, Submitted, Ticked}
pub use Rattle.node_core.specs.Peers.{address_at, all_drawn, at_place, drawn, peer_anew, place_of}
pub use Rattle.node_core.specs.Reached.{call_entries, entries_halted, entries_running, Halt, Hear, most_submissions, Start, Submit, submit_entries}
pub use Rattle.node_core.specs.Ticks.{due, tick_entries}
pub use Rattle.node_core.specs.Value.{befallen, befell, CanFollowAll, IsNode, logged, node_of, NodeValue}
pub use Rattle.node_core.specs.declared.fault.DraftFault.{DraftFault}
pub use Rattle.node_core.specs.declared.port.Port.{Port}
pub use Rattle.once_core.specs.Addresses.{addresses_from, gateway_address, gateway_at, node_at, node_ip, node_setup}
pub use Rattle.once_core.specs.Answers.{acting, answer_at, answered, closing, delivered, delivered_broken, delivered_running, failed, failed_by, if_broken, making_close, making_tick, marked, recorded_where, redirected, unless_expired}
pub use Rattle.once_core.specs.Beginning.{first_gateway, IsReached, times_of}
pub use Rattle.once_core.specs.Expired.{begins, is_expired, is_expired_at_node, starts_in}
pub use Rattle.once_core.specs.Gateway.{book_committing, committing, cut, followed, Gateway, Moved, opened, readying, Rules, still}
pub use Rattle.once_core.specs.NodeMoves.{message_kept}
pub use Rattle.once_core.specs.Once.{firm_in, Once}
pub use Rattle.once_core.specs.Turn.{at_gateway, at_node, calm, delivering, gateway_moved, is_down_in, is_none_of, log_in, lost_if, most_starts, no_gateway, no_running_gateway, no_running_node, node_called, refusal_of, refusing, Turn, turn, turn_by, turns, unless_refused}
pub use Rattle.once_core.specs.World.{answers_of, Called, called, delivered_to_node, draft_of, hearing, is_draft, log_at, message_of, node_value, submitting, submitting_form, takes_all, ticking, World}
pub use Rattle.once_core.specs.declared.event.Event.{Event}
pub use Rattle.once_core.specs.declared.event.WorldKind.{WorldKind}
pub use Rattle.once_core.specs.declared.event.WorldKind.TheVariants.{NoGateway, NoMessage, Running, Stopped}
pub use Rattle.once_core.specs.declared.message.Message.{Message}
pub use Rattle.rand_pcg.specs.Lcg.{Lcg}
pub use Rattle.rand_pcg.specs.Pcg.{pcg32, pcg32_of_seed}
pub use Rattle.replay_gateway.specs.Asking.{asked_by, asked_move}
pub use Rattle.replay_gateway.specs.AtRest.{AreShut, IsAllWritten, IsAtRest, IsRead}
pub use Rattle.replay_gateway.specs.Device.{asked_by_message, entries_kept, is_stop, machine_after, machine_with, sequel_on}
pub use Rattle.replay_gateway.specs.Filing.{all_filed, filing_after, filing_then, shelf_calls, shelf_came}
pub use Rattle.replay_gateway.specs.GatewayReport.{gateway_text}
pub use Rattle.replay_gateway.specs.Machine.{disarmed, Filing, first_machine, Machine, shelf_armed, unarmed, unarmed as unarmed_one}
pub use Rattle.replay_gateway.specs.Moves.{came_of, GoesAsArmed, HasMoved, moved_by}
pub use Rattle.replay_gateway.specs.Setup.{after_setting, after_settings, default_setup, files_in, rules_in, Setup, setup_of}
pub use Rattle.replay_gateway.specs.Standing.{MachineStands}
pub use Rattle.replay_gateway.specs.Taking.{ending_at, IsDelivered}
pub use Rattle.replay_world.specs.Does.{Does, DoesAll, DoesOrEnds, end_of, goes_on, is_on_device, LineRan, Makes, RunsIf}
pub use Rattle.replay_world.specs.Events.{asked_of, event_asked, place_asked, turn_with}
pub use Rattle.replay_world.specs.Lines.{after_steps, came_of_write, came_steps, delivers, line_after, line_notices, lot_steps, mixed_steps, notices_of, outcome_in, refusal_of_line, settle_steps, settled, settling_steps, steps_of, submit_steps, turns_by, turns_of, write_steps}
pub use Rattle.replay_world.specs.Notices.{Down, draft_fault_name, Expired, Notice, notice_line, notice_lines, Refused, ShelfFaulted, submit_fault_name, Took}
pub use Rattle.replay_world.specs.Packets.{drafted, unless_fault, with_records}
pub use Rattle.replay_world.specs.Played.{EachHandedOut, HaveRoom}
pub use Rattle.replay_world.specs.Receiving.{IsReceiver, receiver_of, WereSent}
pub use Rattle.replay_world.specs.Report.{gateway_lines, lines_after, node_line, node_text, refused_from, refused_or, replayed, report_of, turns_from}
pub use Rattle.replay_world.specs.Sending.{came_notices, goes_on_after, HasSent, IsTo, numbered_from, passed, steps_behind}
pub use Rattle.replay_world.specs.Settled.{AreRead, AreWritten, EachAtRest, HasPlayedOut, HaveMachines}
pub use Rattle.replay_world.specs.Settling.{AreUnarmed, IsIdle, opening_steps, Settles, Stays}
pub use Rattle.replay_world.specs.Stands.{CountsStarts, EachStands, has_failed, nodes_from, Stands}
pub use Rattle.replay_world.specs.Steps.{after_step, Arms, ArmsShelf, Disarms, ends_line, files_written, is_stopped_in, items_firm, Loses, machines_after, machines_at, machines_in, Plays, sent_by, sequel_at, Site, site_in, site_of, Step, step_turns, Tells, turn_at, turn_of, waiting_after, waiting_in, waiting_left, with_machine, without, world_after, Writes}
pub use Rattle.replay_world.specs.Summary.{AreGatewaySums, AreNodeSums, counts_at, filed_of, gateway_sums, held_of, node_sums, stranded_of, TalliesIf}
pub use Rattle.replay_world.specs.Taken.{Allows, arms_stop, IsAsSaid}
pub use Rattle.replay_world.specs.Telling.{delivery_notices, device_notices, ending_notices, hearing_notices, heeded_notices, notices_first, notices_last, sent_notices, step_notices, submit_notices, submitted_notice, submitted_notices}
pub use Rattle.replay_world.specs.Value.{begun, replay_of, ReplayValue}
pub use Rattle.replay_world.specs.declared.replay.Replay.{Replay}
pub use Rattle.std.proofs.lemmas.Bool.{and_from, and_parts, cond_both, eqb-false, le-ltb, lt-ltb, ne_eqb, not-false, not-true, or_parts}
pub use Rattle.std.proofs.lemmas.Bool.Decides.{nat_tests}
pub use Rattle.std.proofs.lemmas.Iterator.Adapters.{YieldsList-from_vec}
pub use Rattle.std.proofs.lemmas.Iterator.Consumers.{YieldsList-end, YieldsList-turn}
pub use Rattle.std.proofs.lemmas.List.{get_or_default, length-take, map-append}
pub use Rattle.std.proofs.lemmas.List.Concat.{flat_map-append}
pub use Rattle.std.proofs.lemmas.List.Elements.{All-append, All-filter, All-set, All-weaker}
pub use Rattle.std.proofs.lemmas.List.Sums.{sum_by-append, sum_by-cons}
pub use Rattle.std.proofs.lemmas.Option.{get_or_from_slice_get, slice_get-get_or, slice_get-map, slice_get_past, slice_get_read, slice_get_within}
pub use Rattle.std.proofs.lemmas.Result.{IfOk-weaker, on_ok_weaker}
pub use Rattle.std.specs.List.{AllByRecursion, enumerate_from, flat_map, list_all, list_any, range_with_len}
unfoldable pub use Rattle.std.specs.List.{IsDistinct}
pub use Rattle.std.specs.Option.{option_map_or, option_or}
pub use Rattle.std.specs.Prelude.{nat_le, nat_lt, slice_get, slice_index_or, slice_set}
unfoldable pub use Rattle.world_script.specs.Sample.{seeded}
pub use Rattle.world_script.specs.World.{after_line, are_settings_first, first_scene, has_gateway, has_node, has_running, is_stopped, Scene, takes}
pub use Rattle.world_script.specs.declared.line.Line.{Line}
