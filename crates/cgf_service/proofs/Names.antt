-- The names that several proofs of this crate use, each from where it stands.
pub use Rattle.area_disk.specs.AreaLaws.{AreaLaws}
pub use Rattle.area_disk.specs.Disk.{counted, last_count, Rose}
pub use Rattle.cdr_shelf.specs.Files.{in_stream, SealedFile}
pub use Rattle.cgf_jobs.specs.Job.{Job}
pub use Rattle.cgf_jobs.specs.Kinds.{of_frame, of_line}
pub use Rattle.cgf_jobs.specs.Run.{IsRead, may_have_written, TakesUpTo}
pub use Rattle.cgf_jobs.specs.Words.{is_option}
pub use Rattle.cgf_jobs.specs.declared.input_kind.InputKind.{InputKind}
pub use Rattle.cgf_jobs.specs.declared.status.Status.{Status}
pub use Rattle.cgf_journal.specs.Format.{StandsFor}
pub use Rattle.cgf_journal.specs.Trail.{is_closed}
pub use Rattle.cgf_service.specs.Linked.{TakesAllTurns, UsesLinks}
pub use Rattle.cgf_service.specs.Replies.{after_all, after_message, behind_one, last_moment, message_of, octets_said, replies, sent_for, sent_for_all, Tried}
pub use Rattle.cgf_service.specs.ServeSteps.{AreOf, CausesRead, FailsBy, HasLine, HasNoLine, HasServedAt, HasSettledAll, IsSetBy, NeverFalls, RefusesAsForeign, RefusesSettings, RefusesText, status_by, StopsServing, WritesLine}
pub use Rattle.cgf_service.specs.Served.{files_at, GoesOnIn, HasAllFiles, HasFirstFiles, HasGrown, HasReplied, HasServed, header_at, HoldsHistory, IsAtMost, LeavesClosed, LosesNothing, moment_of, served_line, SettlesStill}
pub use Rattle.cgf_service.specs.Serving.{address_in, serve_places_in, serve_places_of, ServePlacesValue, serving_by, serving_of}
pub use Rattle.cgf_service.specs.Shelved.{IsFiledIn, KeepsShelf}
pub use Rattle.cgf_service.specs.StreamEnds.{end_by, EndsAsSaid, HasAnswered, HasAnsweredAll, HasClosedBehind, HasSettledBehind, IsCutInLast, IsStreamRead, IsUnopened, KeepsAnswers, LeavesUnanswered, most_stream, octets_sent, rest_end, rest_place, StandsBehind, stream_end, stream_settings, Streams}
pub use Rattle.cgf_service.specs.StreamSteps.{Answers, AnswersAll, CausesStop, CutsByFaults, end_of_result, ends_serving, HasAnsweredOne, HasClosed, HasEnded, HasGoneTo, HasServedStream, HasSettledStream, IsBegunOn, IsGoingOn, IsLastOf, IsSteady, LeavesBehind, reply_of, SettlesAs, StopsAtMessage, StopsIn}
pub use Rattle.cgf_service.specs.Streaming.{stream_places_in, stream_places_of, streaming_by, streaming_of, StreamPlacesValue}
pub use Rattle.cgf_service.specs.declared.connection.Connection.{Connection}
pub use Rattle.cgf_service.specs.declared.serve.FileSettings.{FileSettings}
pub use Rattle.cgf_service.specs.declared.serving.Serving.{Serving}
pub use Rattle.cgf_service.specs.declared.settling.Service.{Service}
pub use Rattle.cgf_service.specs.declared.streaming.Streaming.{Streaming}
pub use Rattle.file_writer.specs.Files.{files_from, later_files, stream_files}
pub use Rattle.file_writer.specs.Streams.{closed_of, Settings, stream_count, stream_division}
pub use Rattle.file_writer.specs.Writer.{Holds, is_broken, sealed_in, settings_in, shelf_of, taken_of}
pub use Rattle.file_writer.specs.declared.writer.Writer.{Writer}
pub use Rattle.gate_journal.specs.Format.{Starts}
pub use Rattle.gate_journal.specs.Moments.{Told}
pub use Rattle.gateway_answer.specs.Answer.{Decided, decided, failure_answer, failure_reply, reply_in, Says, Silent}
pub use Rattle.gateway_answer.specs.Answered.{act_decided, entry_by, no_caller, room_for, with_act}
pub use Rattle.gateway_answer.specs.FitHistory.{StandsFitFor}
pub use Rattle.gateway_answer.specs.Items.{is_part, items_by, items_of, part_count}
pub use Rattle.gateway_answer.specs.Preparing.{prepared_of}
pub use Rattle.gateway_answer.specs.Value.{after_commit, BookValue, committed, faulted, Fortune, Gone, history_of, is_batch_full, opened, readied, recorded, recorded_if, Refused, reopened, Reopening, standing_for, torn_of, tried, tried_with, Whole}
pub use Rattle.gateway_book.specs.Book.{area_of, fortune_of, HasCause, header_of, IsLeft, size_of, Stays, value_of}
pub use Rattle.gateway_book.specs.Calls.{counts_of, given_at, outcome_at, taken}
pub use Rattle.gateway_book.specs.Comes.{LeavesFit}
pub use Rattle.gateway_book.specs.Opened.{FindsHistory, IsMadeAnew, IsNotOurs, IsOpened, IsRefused, StandsOrStarts}
pub use Rattle.gateway_book.specs.Turning.{act_marked, facts_of, tells_lists}
pub use Rattle.gateway_book.specs.declared.book.Book.{Book, Book as ABook}
pub use Rattle.gateway_book.specs.declared.outcome.BookFault.{BookFault}
pub use Rattle.gtpp_stream.specs.Frames.{first_fault}
unfoldable pub use Rattle.gtpp_stream.specs.Frames.{frames, rest_of}
pub use Rattle.gtpp_stream.specs.Stream.{answer_of, earlier_fault, fault_before, Follows, no_stream, Stream}
pub use Rattle.gtpp_stream.specs.declared.frame.FrameKind.{FrameKind}
pub use Rattle.gw_base.specs.Facts.{AreSound, Facts, joined, WhereTold}
pub use Rattle.gw_base.specs.History.{is_close_due}
pub use Rattle.gw_base.specs.Owes.{base, Begins}
pub use Rattle.gw_base.specs.Written.{AppendsFront}
pub use Rattle.gw_base.specs.declared.address.Addr.{Addr}
pub use Rattle.gw_base.specs.declared.history.HistoryAct.{HistoryAct}
pub use Rattle.gw_base.specs.declared.history.HistoryEntry.{HistoryEntry}
pub use Rattle.gw_base.specs.declared.item.Item.{Item}
pub use Rattle.net_link.specs.Datagrams.{added, Datagram, IsEmpty}
pub use Rattle.net_link.specs.Making.{GrowsBy, LinksState}
pub use Rattle.node_session.specs.Settling.{closed_behind, Grows, HasSettled, HasTakenAll, IsSettled}
pub use Rattle.node_session.specs.Turns.{decided_at, decided_by_fault, entries_of}
pub use Rattle.node_session.specs.declared.settling.SettleFault.{SettleFault}
pub use Rattle.replay_gateway.specs.AtRest.{AreShut}
pub use Rattle.replay_gateway.specs.Setup.{default_setup, Setup, setup_of}
pub use Rattle.session_run.specs.History.{AnswerInTurn, GoesOn, GoesOnUntil, InTurn, IsAnswered, IsCalledFor, IsHeard, IsJobOf, IsReply, ReplyInTurn, TellsFailure}
pub use Rattle.session_run.specs.Latest.{Jobs}
pub use Rattle.session_run.specs.Links.{GivesBack, HasMade, IsIdleAt, received_with, sent_with, turns_with}
pub use Rattle.session_run.specs.Running.{AnyOf, AreFiveOf, HasFailed, HasStopCause, HaveReplied, heard_by, NoneFailed, sent_by, StaysAs, TakesAtMost}
pub use Rattle.std.proofs.lemmas.Bool.{cases_eq, cases_lt, le-ltb, lt-ltb}
pub use Rattle.std.proofs.lemmas.List.{append-nil, append_cancel_left, length-take, map_push, nil_from_length, take-append-drop, take-append-le, take_all, take_min}
pub use Rattle.std.proofs.lemmas.List.Elements.{All-append, All-cons, All-head, All-nil, All-tail, All-weaker, Contains-append_right}
pub use Rattle.std.proofs.lemmas.Option.{IfSome_then, none-some}
pub use Rattle.std.proofs.lemmas.Result.{err_from_is_err_and}
pub use Rattle.std.specs.Io.KnownBytes.{Appends, Consumes, IsAtEnd, Keeps}
pub use Rattle.std.specs.Prelude.{All, IfSome, IsSome, IsTrue}
pub use Rattle.std.specs.Str.{bytes_eq}
pub use Rattle.turn_cell.specs.Placed.{placed}
