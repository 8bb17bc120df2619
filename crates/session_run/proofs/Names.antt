-- The names that several proofs of this crate use, each from where it stands.
pub use Rattle.area_disk.specs.declared.area.Area.{Ghosts}
pub use Rattle.file_writer.specs.declared.writer.Writer.{Writer}
pub use Rattle.gateway_book.specs.Turning.{tells_lists}
pub use Rattle.gateway_book.specs.declared.outcome.Outcome.{Outcome}
pub use Rattle.gw_base.specs.Facts.{Facts, WhereTold}
pub use Rattle.gw_base.specs.Faults.{next_count, Rose}
pub use Rattle.gw_base.specs.Owes.{base, Begins}
pub use Rattle.gw_base.specs.declared.address.Addr.{Addr}
pub use Rattle.gw_base.specs.declared.history.HistoryEntry.{HistoryEntry}
pub use Rattle.job_inbox.specs.Hands.{AreSettled}
pub use Rattle.job_inbox.specs.Inbox.{IsPassOf, knowledge}
pub use Rattle.job_inbox.specs.Rule.{idle, with_taken}
pub use Rattle.job_inbox.specs.declared.hand.Hand.{Hand}
pub use Rattle.job_inbox.specs.declared.inbox.Inbox.{Inbox}
pub use Rattle.job_inbox.specs.declared.inbox.InboxPass.{InboxPass}
pub use Rattle.job_inbox.specs.declared.job.Job.{Job}
pub use Rattle.net_link.specs.Datagrams.{added, Datagram, IsEmpty, IsNewAt, joined, LinkState, with_one}
pub use Rattle.node_session.specs.Answering.{AddsAnswers, called_at, HasLostBehind, HasRepliedBehind, HasSent, history_at, IsAnswerTo, IsFaultAt, IsReplyAt, TellsBehind}
pub use Rattle.node_session.specs.Batches.{jobs_of, outcomes_of, served_of}
pub use Rattle.node_session.specs.Passes.{IsOf, knowledge_of, known_by, session_of}
pub use Rattle.node_session.specs.Receiving.{AreOfEach, hands_of, HasHeardOne, passes_of, session_for, TellsOf, with_job}
pub use Rattle.node_session.specs.Serving.{caller_of, GoesOn}
pub use Rattle.node_session.specs.Together.{AreFirstsOf, AreServed, AreTaken, EachTells, FirstAreTaken, GoesFrom, GoOn, KeepsTurnsOf, TellTogether}
pub use Rattle.node_session.specs.Turns.{called_for, decided_at, entries_of}
pub use Rattle.node_session.specs.declared.dispatcher.Dispatcher.{Dispatcher}
pub use Rattle.node_session.specs.declared.gate.Go.{Go}
pub use Rattle.node_session.specs.declared.served.Served.{Served}
pub use Rattle.session_run.specs.Desks.{AreRepliesTo, Began, began_at, first_stop, hand_at, HasFailedSince, HasWorked, HearsNothing, IsDeskOf, IsSince, known_at, link_at, RepliesTo, stop_of, with_all_taken}
pub use Rattle.session_run.specs.Ending.{AreAllSettled, AreNumbered, ArePassesFor, AreSettledWith, HasEnded, IsFresh, IsSeated, known_among, links_of, passes_among}
pub use Rattle.session_run.specs.Filing.{HasWritten, KeepsWriter}
pub use Rattle.session_run.specs.History.{AnswerInTurn, AnswersJob, datagram_of, GoesOnUntil, InTurn, IsAnswered, IsCalledFor, IsFor, IsHeard, IsJobOf, IsReply, IsReplyTo, ReplyInTurn, session_count, TellsFailure, those_of}
pub use Rattle.session_run.specs.Latest.{Jobs, later_of, latest, latest_of}
pub use Rattle.session_run.specs.Links.{GivesBack, HasMade, IsIdleAt, received_with, sent_with}
pub use Rattle.session_run.specs.Reception.{ArePushed, CountsTurns, HasDispatched, IfTurns, IsOneFor, link_of, PushedOf, stop_behind, TakesTurn, TellsOfClock, turns_of, was_quiet}
pub use Rattle.session_run.specs.Running.{AnyOf, AreFiveOf, AreNewAt, HasFailed, HasStopCause, HaveReplied, IsFew, NoneFailed, sent_by, StaysAs, TakesAtMost, turns_by}
pub use Rattle.session_run.specs.Taking.{HasTaken, IsTaken}
pub use Rattle.session_run.specs.Team.{AreDesksOf, ArePairOf, HaveServed, IsReady, IsTeamOf, last_among, Pair, PairWorksOn, stop_among, TeamWorksOn}
pub use Rattle.session_run.specs.declared.desk.Desk.{Desk}
pub use Rattle.session_run.specs.declared.reception.Reception.{Reception}
pub use Rattle.session_run.specs.declared.round.Team.{Team}
pub use Rattle.session_run.specs.declared.stop.Stop.{Stop}
pub use Rattle.session_run.specs.declared.until.Until.{Until}
pub use Rattle.std.proofs.lemmas.Bool.{cases_eq, ne_eqb}
pub use Rattle.std.proofs.lemmas.Bool.Decides.{nat_tests}
pub use Rattle.std.proofs.lemmas.List.{append-nil, length-map, take_all, take_more}
pub use Rattle.std.proofs.lemmas.List.Elements.{All-append, All-cons, All-contains, All-contains_itself, All-from_recursion, All-head, All-map, All-nil, All-push, All-same, All-tail, All-weaker, Contains-append_left, Contains-append_right, filter-append}
pub use Rattle.std.proofs.lemmas.Option.{IfSome_then, same_Some}
pub use Rattle.std.specs.List.{Contains}
pub use Rattle.std.specs.Option.{option_or}
pub use Rattle.std.specs.Prelude.{All, filter, IfSome, map, MatchOption, slice_index_or, sum_by, ⊤}
pub use Rattle.turn_cell.specs.Knowing.{facts_of, Follows, IsLegal, kept, newcomer, newcomers}
pub use Rattle.turn_cell.specs.Placed.{added_by, by_session, HasNumber, IsSublist, Owns, placed}
pub use Rattle.turn_cell.specs.declared.cell.Pass.{Pass}
pub use Rattle.turn_cell.specs.declared.cell.TurnCell.{TurnCell}
pub use Rattle.turn_cell.specs.declared.knowing.KeptTurn.{KeptTurn}
pub use Rattle.turn_cell.specs.declared.knowing.Knowledge.{Knowledge}
