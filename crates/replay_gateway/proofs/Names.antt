-- The names that several proofs of this crate use, each from where it stands.
pub use Rattle.area_disk.specs.Armed.{Armed, calls_under, IsArmed}
pub use Rattle.area_disk.specs.Armed.Armed.{Fail, Nothing, Stop}
pub use Rattle.area_disk.specs.Plan.{armed, Schedule, schedule_of}
pub use Rattle.area_disk.specs.declared.memory.MemoryArea.{MemoryArea}
pub use Rattle.area_disk.specs.declared.plan.Outcome3.TheVariants.{New, Old}
pub use Rattle.cdr_file.specs.CdrFile.{FileSettings}
pub use Rattle.cdr_shelf.specs.Files.{file_named, greatest_in, in_stream, SealedFile, UnsealedFile}
pub use Rattle.cdr_shelf.specs.declared.memory.MemoryShelf.{MemoryShelf}
pub use Rattle.cgf_journal.specs.Trail.{is_closed, stop_stands}
pub use Rattle.file_rotate.specs.Division.{closed_first, ClosedRun, cuts_at, divided_from, Division, joined, run_after}
unfoldable pub use Rattle.file_rotate.specs.Division.{ends_after, ends_before}
pub use Rattle.file_rotate.specs.Items.{AreLimits, Close, Filed, Tick}
pub use Rattle.file_writer.specs.Files.{AreFilesOf, AreOfStreams, files_below, files_from, later_files, stream_files}
pub use Rattle.file_writer.specs.Leaving.{AreOpenFiles, begun_after, IsOpenFile, LeavesUnsealed}
pub use Rattle.file_writer.specs.Parts.{HasAdvanced, part_of}
pub use Rattle.file_writer.specs.Streams.{closed_of, Settings, stream_count, stream_division, stream_item, stream_items, stream_record}
pub use Rattle.file_writer.specs.Writer.{is_broken, IsAt, settings_in, shelf_of}
pub use Rattle.gateway_answer.specs.Answer.{Decided, decided, failure_answer, Says, Silent}
pub use Rattle.gateway_answer.specs.Answered.{act_decided, no_caller, room_for}
pub use Rattle.gateway_answer.specs.Filed.{along}
pub use Rattle.gateway_answer.specs.Items.{IsWritable, items_between, items_by, items_by_act, items_of}
pub use Rattle.gateway_answer.specs.Preparing.{Drop, prepared_of, PreparedValue}
pub use Rattle.gateway_answer.specs.Value.{after_commit, BookValue, committed, faulted, Fortune, Gone, history_of, is_batch_full, opened, readied, recorded, recorded_if, Refused, reopened, Reopening, standing_for, tried, tried_with, Whole}
pub use Rattle.gateway_book.specs.Book.{area_of, open_time_of, size_of, Stays, value_of}
pub use Rattle.gateway_book.specs.Calls.{cause_in, given_at, Left, left_by, marked_at, marked_if_ready, outcome_at, taken}
pub use Rattle.gateway_book.specs.Comes.{Asked, asked_to_commit, asked_to_ready, asked_with, AsksNothing, AsksReopening, LeavesFit, left_by_stop, plan_of}
pub use Rattle.gateway_book.specs.OpenPlan.{is_device, is_memory_fault, OpensAsPlanned}
pub use Rattle.gateway_book.specs.Opened.{FindsHistory, IsMadeAnew, IsNotOurs, IsOpened, IsRefused, StandsFitFor}
pub use Rattle.gateway_book.specs.Up.{Breaks, fortune_by, GoesOn, HasLeft, HoldsHistory, IsUp, ready_sequel_of, Sequel, sequel_of, Stops}
pub use Rattle.gateway_book.specs.declared.book.Book.{Book}
pub use Rattle.gateway_book.specs.declared.outcome.Outcome.{Outcome}
pub use Rattle.gateway_book.specs.declared.outcome.Setup.{Setup as BookSetup}
pub use Rattle.gw_base.specs.declared.address.Addr.{Addr}
pub use Rattle.gw_base.specs.declared.history.HistoryAct.{HistoryAct}
pub use Rattle.gw_base.specs.declared.history.HistoryAct.TheVariants.{Start}
pub use Rattle.gw_base.specs.declared.history.HistoryEntry.{HistoryEntry}
pub use Rattle.gw_base.specs.declared.item.Item.{Item}
pub use Rattle.jiff_core.specs.Calendar.{IsWithin}
pub use Rattle.once_core.specs.Addresses.{gateway_address, node_address, node_at}
pub use Rattle.once_core.specs.Answers.{acting, answer_at, answered, delivered, delivered_broken, delivered_running, failed, failed_by, if_broken, making_close, making_tick, marked, recorded_where, redirected, redirecting, unless_expired}
pub use Rattle.once_core.specs.Beginning.{first_gateway}
pub use Rattle.once_core.specs.Expired.{is_expired}
pub use Rattle.once_core.specs.Gateway.{committing, cut, followed, Gateway, giving_up, is_reached, Moved, readying, settling, still, with_book}
pub use Rattle.once_core.specs.Messages.{answering, failing, is_response}
pub use Rattle.once_core.specs.declared.message.Message.{Message}
pub use Rattle.once_core.specs.declared.message.Waiting.{Waiting}
pub use Rattle.replay_gateway.specs.Asking.{asked_by, asked_move, asked_value}
pub use Rattle.replay_gateway.specs.AtRest.{AreShut, IsAllWritten, IsAtRest, IsRead}
pub use Rattle.replay_gateway.specs.Called.{AfterCall, book_in, BookStands, firm_in, IsCalled, moved_after, SiteIsCalled, SiteIsCut, SiteIsDown, taken_of}
pub use Rattle.replay_gateway.specs.Device.{asked_by_message, entries_kept, is_stop, machine_after, machine_with, sequel_on}
pub use Rattle.replay_gateway.specs.GatewayReport.{book_of, counts_line, counts_text, digits, file_line, gateway_report, gateway_text, sealed_below, sealed_lines}
pub use Rattle.replay_gateway.specs.HandedOut.{IsAreaOf, IsHandedOut, LeavesHistory}
pub use Rattle.replay_gateway.specs.Machine.{disarmed, ended, Filing, first_machine, Machine, resting, unarmed}
pub use Rattle.replay_gateway.specs.Moves.{came_of, GoesAsArmed, HasMoved, moved_by}
pub use Rattle.replay_gateway.specs.Opening.{ArmsAs, begun_gateway, IsOpenedForCounts, SiteIsOpened}
pub use Rattle.replay_gateway.specs.Settings.{AreInRange, AreSet, AreSound, IsInRange, rules_in_line}
pub use Rattle.replay_gateway.specs.Setup.{after_setting, after_settings, default_setup, files_in, rules_in, rules_said, Setup, setup_of}
pub use Rattle.replay_gateway.specs.Standing.{area_tells, header_at, MachineStands, SiteStands, StandsDown, StandsUp}
pub use Rattle.replay_gateway.specs.Taking.{decided_ending, dropped_as, ending_at, ending_by, HasAnswered, HasMore, IsAnswered, IsDelivered, IsTaken, met_by, taking, waits_then}
pub use Rattle.replay_gateway.specs.Written.{AreSealed, BreaksOff, FilesStand, HasTaken, HasWritten, IsOn, NothingIsLeft, shelf_tells, ShelfHolds, WriterStands, wrote_by}
pub use Rattle.replay_gateway.specs.declared.files.Files.{Files}
pub use Rattle.replay_gateway.specs.declared.machine.Came.TheVariants.{Failed, Stopped, Went}
pub use Rattle.replay_gateway.specs.declared.machine.Sent.{Sent}
pub use Rattle.replay_gateway.specs.declared.site.Site.{Site}
pub use Rattle.replay_gateway.specs.declared.site.Site.TheVariants.{Down, Up}
pub use Rattle.replay_gateway.specs.declared.taking.Delivery.{Delivery}
pub use Rattle.replay_gateway.specs.declared.taking.Ending.{Ending}
pub use Rattle.route_filter.specs.Rules.{any_or, format_in, last_stream, most_rules, rule_by, rule_of, tag_in}
pub use Rattle.route_filter.specs.Words.{at_most, number_up_to, octets_of, words_of, ◌>>=◌}
pub use Rattle.route_filter.specs.declared.rule.Rule.{Rule}
pub use Rattle.std.proofs.lemmas.Bool.{and_from, and_parts, and_right, cases_lt, cond_both, leb-true, ltb-false, ltb-true, not-true}
pub use Rattle.std.proofs.lemmas.Bool.Decides.{nat_tests}
pub use Rattle.std.proofs.lemmas.Grind.{flat_map-append}
pub use Rattle.std.proofs.lemmas.List.{append-nil, drop_all, drop_more, get_or-replicate, length-map, map_push, take-append-drop, take-append-le, take_all, take_more}
pub use Rattle.std.proofs.lemmas.List.Elements.{All-append, All-cons, All-head, All-nil, All-tail, All-weaker, filter-append, filter_passes, recursion_from_All}
pub use Rattle.std.proofs.lemmas.Option.{get_or_from_slice_get, same_Some, slice_get_within}
pub use Rattle.std.proofs.lemmas.Result.{IfOk-at_ok, IfOk-weaker, on_ok_weaker}
pub use Rattle.std.specs.List.{AllByRecursion, cons_option, filter_map, flat_map}
pub use Rattle.std.specs.Str.{bytes_eq}
pub use Rattle.world_script.specs.Script.{contented, is_rule_line, keyed, most_text, onward, progress_of, reading_of, Refusal, script_after, script_in, ScriptValue, worded}
pub use Rattle.world_script.specs.declared.kind.ScriptKind.{ScriptKind}
pub use Rattle.world_script.specs.declared.line.Line.{Line}
