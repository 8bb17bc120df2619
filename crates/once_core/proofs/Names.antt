-- The names that several proofs of this crate use, each from where it stands.
pub use Rattle.byteorder.specs.Endian.{big_bytes}
pub use Rattle.cdr_file.specs.declared.closure.ClosureReason.{ClosureReason}
pub use Rattle.file_rotate.specs.Division.{cdr_length, closed_first, ClosedRun, divided_from, Division, division_of, joined, run_length}
unfoldable pub use Rattle.file_rotate.specs.Division.{ends_after, ends_before, run_limit_reached}
pub use Rattle.file_rotate.specs.Items.{AreLimits, Close, Item, Record, records_of}
pub use Rattle.file_rotate.specs.declared.limits.Limits.{Limits}
pub use Rattle.file_writer.specs.Places.{FilePlace, in_run, place_in, record_at, run_with, runs_of}
pub use Rattle.file_writer.specs.Streams.{closed_of, Settings, stream_count, stream_division, stream_item, stream_items, stream_record}
pub use Rattle.gateway_answer.specs.Answer.{answer_by, answer_within, Decided, decided, failure_answer, Given, listed, may_record, opening_epoch, path_given, recording, Replies, responding, Silent, tabled}
pub use Rattle.gateway_answer.specs.Answered.{act_given, answer, entry_by, no_caller, room_for, with_act}
pub use Rattle.gateway_answer.specs.Asked.{changes, held_ones, recorded_as}
pub use Rattle.gateway_answer.specs.Filed.{along, filed, filed_by, filed_by_act, filed_record, filed_under, held_packet, packet_of_hold, present_key, records_from, records_if, released_by, released_records}
pub use Rattle.gateway_answer.specs.FiledLaws.{along-append}
pub use Rattle.gateway_answer.specs.Fit.{are_distinct, is_act_fit, is_act_lawful, is_fresh, is_list_fit}
pub use Rattle.gateway_answer.specs.Items.{items_by, items_by_act, items_of, part_of}
pub use Rattle.gateway_answer.specs.Marks.{is_mark}
pub use Rattle.gateway_answer.specs.Once.{is_record_of, same_key, times_filed}
pub use Rattle.gateway_answer.specs.Plain.{answer_view, IsBounded}
pub use Rattle.gateway_answer.specs.Preparing.{framed, has_values, IsWhole, prepared_of, PreparedValue, sends_values}
pub use Rattle.gateway_answer.specs.PreparingLaws.{RolesRead}
pub use Rattle.gateway_answer.specs.Told.{path_of, paths_of}
pub use Rattle.gateway_answer.specs.Value.{BookValue, committed, faulted, Fortune, Gone, history_of, recorded, recorded_if, Refused, reopened, Reopening, standing_for, tried, Whole}
pub use Rattle.gateway_answer.specs.declared.filing.FiledRecord.{FiledRecord}
pub use Rattle.gtpp_message.specs.Message.{Cancel, EchoRequest, EchoResponse, MessageValue, NodeAliveRequest, NodeAliveResponse, Possible, RedirectionRequest, RedirectionResponse, Release, Send, TransferRequest, TransferResponse, TransferValue, VersionNotSupported}
pub use Rattle.gtpp_message.specs.Packet.{Empty, Full, is_empty_packet, packet_of, packet_reading, PacketForm, PacketValue, records_at, SpellRecords}
pub use Rattle.gtpp_message.specs.PacketWriting.{record_octets, value_of, with_record}
pub use Rattle.gtpp_message.specs.Role.{for_role, role_reading}
pub use Rattle.gtpp_message.specs.Writing.{body_octets, IsSendableMessage, message_type, written}
pub use Rattle.gtpp_message.specs.declared.message_types.TheConstants.{NODE_ALIVE_RESPONSE, TRANSFER_REQUEST, TRANSFER_RESPONSE}
pub use Rattle.gw_base.specs.CdrKind.{extension_of, IsCdrKind, kind_of, release_of}
pub use Rattle.gw_base.specs.EntryLaws.{epoch_of-append, key_naming-append, opening_of-append, present_entries_are, present_state-append, present_state_is, state_of-append, top_of-append}
pub use Rattle.gw_base.specs.History.{epoch_entries, epoch_of, given_state, is_close_due, last_naming, moment_after, names, present_entries, present_state, state_by, state_of, top_after, top_of}
pub use Rattle.gw_base.specs.Known.{known_nodes}
pub use Rattle.gw_base.specs.ListLaws.{by_last}
pub use Rattle.gw_base.specs.Lists.{once, raised}
pub use Rattle.gw_base.specs.Nearest.{IsNearest, nearest}
pub use Rattle.gw_base.specs.Observed.{Observed, observed}
pub use Rattle.gw_base.specs.Starts.{opening_after, opening_by, opening_of, openings_of, start_by, start_of}
pub use Rattle.gw_base.specs.declared.address.Addr.{Addr}
pub use Rattle.gw_base.specs.declared.address.NodeId.{NodeId}
pub use Rattle.gw_base.specs.declared.cause.TheConstants.{ACCEPTED, ALREADY_FULFILLED, CDR_DECODING_ERROR, DUPLICATE_ALREADY_FULFILLED, NO_RESOURCES, NUMBERS_INCORRECT, SYSTEM_FAILURE}
pub use Rattle.gw_base.specs.declared.history.Caller.{Caller}
pub use Rattle.gw_base.specs.declared.history.HistoryAct.{HistoryAct}
pub use Rattle.gw_base.specs.declared.history.HistoryEntry.{HistoryEntry}
pub use Rattle.gw_base.specs.declared.history.Opening.{Opening}
pub use Rattle.gw_base.specs.declared.history.PacketKey.{PacketKey}
pub use Rattle.gw_base.specs.declared.key_state.KeyState.{KeyState}
pub use Rattle.gw_base.specs.declared.key_state.KeyState.TheVariants.{Cancelled, Filed, Fresh, Held, Released, Sealed}
pub use Rattle.node_core.specs.Choosing.{IsChoice, ReleasesChoice}
pub use Rattle.node_core.specs.Copies.{copy_hearing, is_answered, is_chosen, is_filed, is_filing, is_fulfilled, is_release, is_released, is_sealed as says_sealed, is_settled, is_unknown, new_copy, told}
pub use Rattle.node_core.specs.Drafts.{addition_fault, is_without_records, packet_anew, packet_of_form, value_octets}
pub use Rattle.node_core.specs.Growing.{CommandGrows, CopyGrows, Extends, is_within_start, PacketGrows}
pub use Rattle.node_core.specs.Hearing.{Dropped, entries_from, heard_entries, heeding, heeds, heeds_from, saying_entries, Says, Taken, taken, taken_entries, taken_of}
pub use Rattle.node_core.specs.Log.{Appointed, Began, counter_of, forms_of, Halted, has_entries, Heard, LogEntry, NodeSetup, Other, packets_of, Path, paths_hearing, peers_of, Redirects, Responds, runs, Saying, Submitted, submitted, Ticked}
pub use Rattle.node_core.specs.Moving.{appointing, moved_at_tick, moved_by}
pub use Rattle.node_core.specs.Nearness.{HasCopy, HasOpenCopy, IsCopyOrBase}
pub use Rattle.node_core.specs.Octets.{gateway_of, order_of, outgoing, packet_numbered, transfer_of, wire}
pub use Rattle.node_core.specs.Packets.{chosen, commanded, copies_after, is_done, is_of, is_resolved, packet_after, packet_after_all, packet_hearing, PacketState, while_open}
pub use Rattle.node_core.specs.Peers.{address_at, all_drawn, drawn, end_of_numbers, has_ip, last_number, next_number, number_drawn, peer_anew, place_of}
pub use Rattle.node_core.specs.Reached.{call_entries, entries_halted, entries_running, Halt, Hear, log_of, most_submissions, NodeCall, reached, Start, Submit, submit_entries, Tick}
pub use Rattle.node_core.specs.Resting.{AllRestOn, IsFulfilled, RestsOn, since_start}
pub use Rattle.node_core.specs.Roles.{HasOneRole, IsPlainFirst, IsRising, IsSingle, uses, uses_by_copies, uses_by_copy}
pub use Rattle.node_core.specs.Sendings.{again, command_by, command_of, command_unless, copy_to, due_by_copies, due_by_verdict, due_for, due_for_all, probe_of, probes, probes_from, releasing, repeating, settling_beside, settling_by, test_of}
pub use Rattle.node_core.specs.Sent.{HasCopyOf, IsSent}
pub use Rattle.node_core.specs.Submitting.{refusal}
pub use Rattle.node_core.specs.Ticks.{due, tick_entries}
pub use Rattle.node_core.specs.Value.{befallen, CanFollowAll, IsNode, logged, node_of, NodeValue}
pub use Rattle.node_core.specs.declared.copy.Command.{Command}
pub use Rattle.node_core.specs.declared.copy.Order.{Order}
pub use Rattle.node_core.specs.declared.copy.PacketCopy.{PacketCopy}
pub use Rattle.node_core.specs.declared.copy.Verdict.{Verdict}
pub use Rattle.node_core.specs.declared.fault.SubmitFault.{SubmitFault}
pub use Rattle.node_core.specs.declared.peer.Peer.{Peer}
pub use Rattle.node_core.specs.declared.port.Port.{Port}
pub use Rattle.node_core.specs.declared.port.Port.TheVariants.{First, Second}
pub use Rattle.node_core.specs.declared.sending.Sending.{Sending}
pub use Rattle.once_core.specs.Addresses.{addresses_from, first_gateway_ip, first_node_ip, gateway_address, gateway_at, node_address, node_at, node_id, node_ip, node_setup, port_at, port_number}
pub use Rattle.once_core.specs.Admitted.{AllAdmitted, AllKeepLimits, AllMarksDue, IsAdmitted, IsMarkDue, moves_on}
pub use Rattle.once_core.specs.Answers.{acting, answer_at, answered, closing, delivered, delivered_broken, delivered_running, failed, failed_by, if_broken, making_close, making_tick, marked, redirected, redirecting, replying, taken_in, unless_expired}
pub use Rattle.once_core.specs.Beginning.{beginning, default_rules, default_size, first_gateway, first_world, gateways_by, IsReached, times_of, world_of}
pub use Rattle.once_core.specs.Deeds.{asked_by, deeds_of, told_by}
pub use Rattle.once_core.specs.Epochs.{EachBehind, epoch_with, key_in, RisesBy, StartsRise, state_with, times_with}
pub use Rattle.once_core.specs.Expired.{begins, is_expired, is_expired_at_node, is_taken_for_another, present_start, starts_in, taken_for}
pub use Rattle.once_core.specs.FilePlaces.{as_filed, at_place, filed_item, filed_items, filed_items_by, filed_runs, goes_to, placed, streams_of}
pub use Rattle.once_core.specs.FiledOnce.{filing_count, is_withheld, IsFiledUnder, IsOnce, kind_within, record_count, records_within}
pub use Rattle.once_core.specs.Followed.{all_followed, Followed, followed_before, following, packets_in}
pub use Rattle.once_core.specs.Following.{AnyHasCopyAt, entries_by, entries_of, Follows, heard_in, IsCommandSent, Knows, MaySend}
pub use Rattle.once_core.specs.Gateway.{committing, cut, followed, Gateway, giving_up, is_reached, Moved, opened, opened_holding, readying, Rules, settling, still, with_book}
pub use Rattle.once_core.specs.Growing.{GrowsTo, HoldSame, IsBetween}
pub use Rattle.once_core.specs.Happenings.{act_noted, Adds, answer_of, Answers, Asks, cause_of, Closes, Comes, Deed, Firms, given, Happening, Hears, history, is_timely, Keeps, Letter, Meaning, Note, Notes, Opens, Orders, Post, reply, Request, Scene, Sends, Sent, Starts, Tests, Ticks, WaitingLetter}
pub use Rattle.once_core.specs.HistoryKept.{AllKept, is_kept_act, is_kept_answer, is_of_world}
pub use Rattle.once_core.specs.KeptTurn.{gateway_moves, HasBegun, is_down_at, no_running_node, node_moves, reaching, refusal_kept, runs_at, started_again, starts_at, turn_kept, with_changed_gateway, with_changed_node, with_gateway, with_node}
pub use Rattle.once_core.specs.Meaning.{is_spoken, letter_of, meaning_by, meaning_in, request_in, speaks}
unfoldable pub use Rattle.once_core.specs.Meaning.{meaning_of}
pub use Rattle.once_core.specs.Messages.{about, answering, failing, has_type, is_response}
pub use Rattle.once_core.specs.NodeMoves.{answered_by, draft_of_packet, due_messages, heard_by, message_kept, submitted_entries, with_all, with_entries}
pub use Rattle.once_core.specs.Once.{firm_in, GivenRecord, IsFiledAs, IsFiledFor, IsFollowed, Once}
pub use Rattle.once_core.specs.Redirecting.{redirected_kept, redirecting_one, redirection}
pub use Rattle.once_core.specs.Resting.{IsAnswerTo, IsAsked, IsBorneOut, IsKnown, IsState, PostHolds, Rests, RestsBy, SceneHolds, Tells, Waits}
pub use Rattle.once_core.specs.Scenes.{after_adding, after_coming, after_hearing, after_sending, at, coming, firming, happened, happened_all, is_answer, is_idle, is_request, is_telling, keeping, nothing_yet, noting, noting_if, opening, scene_after, Settled, waiting_for, with_deed, with_letter, with_one, with_post, with_settled}
pub use Rattle.once_core.specs.Shown.{forms_ever, IsMade, post_of, Shows, values_of, waiting_if, waiting_letters}
pub use Rattle.once_core.specs.Standing.{gateway_kept, node_kept, NodeKept, nodes_kept, quiet, Stands, world_kept, WorldKept}
pub use Rattle.once_core.specs.Told.{AnswersACopy, asking, IsAnswerFor, IsOfCopy, MeanCopies, NamesChoice, TellStates, WasSubmitted}
pub use Rattle.once_core.specs.Turn.{at_gateway, at_node, calm, delivering, gateway_moved, is_none_of, log_in, lost_if, most_starts, no_node, no_running_gateway, node_called, refusal_of, refusal_to_redirect, refusal_to_start, refusing, ruled, ruled_turns, RuledTurn, Turn, turn, turn_by, turns, unless_refused}
pub use Rattle.once_core.specs.World.{answers_of, Called, called, delivered_to_node, draft_of, is_draft, is_fault_free, log_after, log_at, message_of, node_value, submitting, submitting_form, takes_all, ticking, World}
pub use Rattle.once_core.specs.declared.event.Event.{Event}
pub use Rattle.once_core.specs.declared.event.WorldKind.{WorldKind}
pub use Rattle.once_core.specs.declared.message.Message.{Message}
pub use Rattle.once_core.specs.declared.message.Waiting.{Waiting}
pub use Rattle.path_mgmt.specs.GatewayPath.{opened_by}
pub use Rattle.path_mgmt.specs.NodePath.{is_alive, node_after, node_anew, PathsOfNode}
pub use Rattle.path_mgmt.specs.declared.event.PathEvent.{PathEvent}
pub use Rattle.path_mgmt.specs.declared.event.PathEvent.TheVariants.{AliveAsked, AliveTold, EchoAsked, EchoTold}
pub use Rattle.route_filter.specs.Rules.{last_stream, matches, stream_of}
pub use Rattle.route_filter.specs.declared.rule.Rule.{Rule}
pub use Rattle.std.proofs.lemmas.Bool.{and_parts, and_right, both_ways, cases_eq, cases_lt, cases_order, cond-false, cond-true, eq-eqb, eqb-true, false≢true, leb-true, lt-ltb, ltb-true, ne_eqb, not-false, not-true, or_cases, or_parts}
pub use Rattle.std.proofs.lemmas.Bool.Decides.{nat_tests}
pub use Rattle.std.proofs.lemmas.Grind.{common_steps}
pub use Rattle.std.proofs.lemmas.Iterator.Adapters.{YieldsList-from_vec}
pub use Rattle.std.proofs.lemmas.Iterator.Consumers.{YieldsList-end}
pub use Rattle.std.proofs.lemmas.List.{append-nil, drop-take, drop_all, get_or-map, get_or-replicate, get_or-set_other, get_or-set_same, get_or-take, length-drop, length-map, length-take-le, map-append, map-set, nil_from_length, take-append-drop, take-take, take_all}
pub use Rattle.std.proofs.lemmas.List.Concat.{flat_map-append}
pub use Rattle.std.proofs.lemmas.List.Elements.{All-append, All-cons, All-contains, All-contains_itself, All-drop, All-filter, All-head, All-nil, All-push, All-same, All-tail, All-take, All-weaker, Contains-append_cases, Contains-append_left, Contains-append_right, Contains-get_or, Contains-push, Contains-push_cases, filter-append, filter_map-append, filter_passes}
pub use Rattle.std.proofs.lemmas.List.Recursion.{is_sum_by}
pub use Rattle.std.proofs.lemmas.List.Sums.{AllPass-from_list_all, get_or-le-sum_by, sum_by-append, sum_by-cons, sum_by_more_le}
pub use Rattle.std.proofs.lemmas.Option.{get_or_from_slice_get, none-some, option_and_then_some, same_Some, slice_get-get_or, slice_get-map, slice_get_past, slice_get_read, slice_get_within}
pub use Rattle.std.specs.List.{AllByRecursion, cons_option, enumerate_from, filter_map, flat_map, last_or, list_all, list_any, position_or_len}
pub use Rattle.std.specs.Option.{option_map, option_map_or, option_or}
pub use Rattle.transfer_cmd.specs.Lists.{is_held, verdict_cause, verdict_of}
pub use Rattle.transfer_cmd.specs.Table.{answer_cause, state_given}
