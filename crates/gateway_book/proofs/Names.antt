-- The names that several proofs of this crate use, each from where it stands.
pub use Rattle.area_disk.specs.Disk.{counted, Rose}
pub use Rattle.area_disk.specs.declared.area.Area.{Ghosts}
pub use Rattle.cgf_journal.specs.Format.{entries_in, IsSpoiledBy, StandsFor}
pub use Rattle.cgf_journal.specs.Outcomes.{AllFirm, FirmStays, IsKept, IsReopened, TornDropped, TornStand}
pub use Rattle.cgf_journal.specs.Trail.{area_of, entries, firm_length, is_closed, length_of, StandsForOr, torn_stands, waiting_octets}
unfoldable pub use Rattle.cgf_journal.specs.Trail.{firm_entries, waiting}
pub use Rattle.cgf_journal.specs.declared.trail.Trail.{Trail}
pub use Rattle.entry_codec.specs.Laws.{costs_of-append}
pub use Rattle.entry_codec.specs.Room.{capacity_of, costs_of, has_room}
pub use Rattle.entry_codec.specs.Spelling.{cost_of, HasSpelling, spelling}
pub use Rattle.gate_journal.specs.Format.{end_of, gate_at, longest_batch, most_octets, Stands, Starts}
unfoldable pub use Rattle.gate_journal.specs.Format.{header}
pub use Rattle.gate_journal.specs.Moments.{Leaves, Told}
pub use Rattle.gateway_answer.specs.Answer.{answer_within, Decided, decided, failure_answer, Given, may_record, node_of, Replies, Says, Silent}
pub use Rattle.gateway_answer.specs.Answered.{act_decided, act_given, answer_to, entry_by, no_caller, room_for}
pub use Rattle.gateway_answer.specs.Cases.{case_value}
pub use Rattle.gateway_answer.specs.Decisions.{decision_view}
pub use Rattle.gateway_answer.specs.FaultLaws.{running_tells_none}
pub use Rattle.gateway_answer.specs.Filed.{along, filed_under, held_packet, packet_of_hold, present_key, records_from, records_if, released_by, released_records}
pub use Rattle.gateway_answer.specs.FiledLaws.{along-append, held_packet-push}
pub use Rattle.gateway_answer.specs.Fit.{are_distinct, is_act_fit, is_packet_fit, IsFit, latest_moment}
pub use Rattle.gateway_answer.specs.FitHistory.{AllFit, FitBehind, StandsFitForOr}
pub use Rattle.gateway_answer.specs.FitHistoryLaws.{fit_front, fit_is_within, fit_knows_few, fit_more, last_is_in_range}
pub use Rattle.gateway_answer.specs.Items.{is_part, items_between, items_by, items_by_act, items_of, part_count, part_of}
pub use Rattle.gateway_answer.specs.Marks.{close_mark, made_if, Mark, tick_mark}
pub use Rattle.gateway_answer.specs.Preparing.{IsShort, IsWhole, prepared_of, PreparedValue, Request}
pub use Rattle.gateway_answer.specs.Recording.{Fits, IfRecords, is_without_resources, tells_a_fault}
pub use Rattle.gateway_answer.specs.Value.{after_commit, BookValue, Fortune, history_of, is_batch_full, most_for_one, opened, readied, recorded, recorded_if, reopened, Reopening, started, torn_of, tried, tried_with}
pub use Rattle.gateway_answer.specs.declared.decision.Decision.{Decision}
pub use Rattle.gateway_book.specs.Adding.{AddsIf, entry_of, IsAdded, IsSame, MayAdd, room_in, room_told}
pub use Rattle.gateway_book.specs.Book.{area_of as book_area, fortune_of, HasCause, header_of, IsLeft, open_time_of, reopening_of, size_of, Stays, value_of}
pub use Rattle.gateway_book.specs.Caller.{AnswersBy, HasStorage, IsAnswered, IsFailure, IsServed, TellsFault}
pub use Rattle.gateway_book.specs.Calls.{cause_in, cause_of, commit_answer, given_at, Left, left_by, length_at, marked_at, marked_if_ready, outcome_at, taken, ticked}
pub use Rattle.gateway_book.specs.Cursor.{AreHeldIn, gathered_at_last, HasPassed, HasStayed, IsAt, IsBegun, IsWithin, items_from, NamesOnce, StandsIn}
pub use Rattle.gateway_book.specs.Faults.{book_fault}
pub use Rattle.gateway_book.specs.Followed.{all_entries, IsFollowed}
pub use Rattle.gateway_book.specs.Gathering.{Gathered, gathered, packet_items, record_item}
pub use Rattle.gateway_book.specs.HeldCopies.{AreBelow, copies_after, copy_at, copy_order, CopyPlaces, hold_by, hold_in, HoldCopies, if_after, no_copies, packet_at, path_in, places_of, with_hold, with_path, without_holds}
pub use Rattle.gateway_book.specs.Judging.{is_within, IsJudging, promised_of}
pub use Rattle.gateway_book.specs.Lookups.{key_seen}
pub use Rattle.gateway_book.specs.Opened.{IsNotOurs, IsOpened, StandsFitFor, StandsOrStarts}
pub use Rattle.gateway_book.specs.Read.{IsRead, IsUnchanged}
pub use Rattle.gateway_book.specs.declared.adding.Done.{Done}
pub use Rattle.gateway_book.specs.declared.book.Book.{Book}
pub use Rattle.gateway_book.specs.declared.cursor.Cursor.{Cursor}
pub use Rattle.gateway_book.specs.declared.judge.FitJudge.{FitJudge}
pub use Rattle.gateway_book.specs.declared.outcome.Marked.{Marked}
pub use Rattle.gateway_book.specs.declared.outcome.Outcome.{Outcome}
pub use Rattle.gateway_index.specs.Index.{MayCome, MayGrow}
unfoldable pub use Rattle.gateway_index.specs.Index.{Follows, observed_by, side_of}
pub use Rattle.gateway_index.specs.WindowLaws.{fits_with_any}
pub use Rattle.gateway_index.specs.declared.index.Index.{Index}
pub use Rattle.gateway_index.specs.declared.totals.Totals.{Totals}
pub use Rattle.gtpp_message.specs.Message.{Cancel, EchoRequest, MessageValue, Release, TransferResponse, TransferValue}
pub use Rattle.gtpp_message.specs.Writing.{written}
pub use Rattle.gtpp_message.specs.declared.reading.Why.{Why}
pub use Rattle.gw_base.specs.Entry.{act_view, entry_view}
pub use Rattle.gw_base.specs.HeldKeys.{held_keys, promised_octets}
pub use Rattle.gw_base.specs.History.{begins_epoch, is_close_due, last_moment, moment_after, names}
pub use Rattle.gw_base.specs.Observed.{Observed, observed}
pub use Rattle.gw_base.specs.Owes.{AreAligned, AreBy, base, Begins}
pub use Rattle.gw_base.specs.declared.address.Addr.{Addr}
pub use Rattle.gw_base.specs.declared.address.NodeId.{NodeId}
pub use Rattle.gw_base.specs.declared.history.Caller.{Caller}
pub use Rattle.gw_base.specs.declared.history.HistoryAct.{HistoryAct}
pub use Rattle.gw_base.specs.declared.history.HistoryAct.TheVariants.{Close, File, Start}
pub use Rattle.gw_base.specs.declared.history.HistoryEntry.{HistoryEntry}
pub use Rattle.gw_base.specs.declared.item.Item.{Item}
pub use Rattle.std.proofs.lemmas.Bool.{and_from, and_parts, and_right, cases_Bool, cond-false, cond_both, false_from_ne_true, false≢true, le-leb, le-ltb, leb-true, lt-ltb, ne_eqb, true≢false}
pub use Rattle.std.proofs.lemmas.List.{append-nil, at_drop_all, at_drop_more, drop_all, drop_more, length-drop, length-take, length-take-le, map-append, take-append-drop, take-append-le, take_all, take_at, take_more}
pub use Rattle.std.proofs.lemmas.Option.{get_or_from_slice_get, none-some, slice_get_within}
pub use Rattle.std.specs.Option.{ForSome, option_map, option_map_or}
pub use Rattle.std.specs.Prelude.{All, IfOk, IfSome, is_err, IsTrue, min, OnOk, Result, slice_get, ◌≡◌}
