-- The names that several proofs of this crate use, each from where it stands.
pub use Rattle.area_disk.specs.Disk.{last_count, Rose}
pub use Rattle.area_disk.specs.declared.area.Area.{Ghosts}
pub use Rattle.cgf_journal.specs.Trail.{firm_length, is_closed, length_of}
pub use Rattle.file_writer.specs.Writer.{Holds, is_broken, IsAt, settings_in, shelf_of, taken_of}
pub use Rattle.file_writer.specs.declared.writer.Writer.{Writer}
pub use Rattle.gate_journal.specs.Moments.{Told}
pub use Rattle.gateway_answer.specs.Answer.{Decided, decided, failure_answer, failure_reply, Says, Silent}
pub use Rattle.gateway_answer.specs.Answered.{act_decided, answer_to, entry_by, with_act}
pub use Rattle.gateway_answer.specs.Items.{items_between, items_by, items_of}
pub use Rattle.gateway_answer.specs.Preparing.{prepared_of}
pub use Rattle.gateway_answer.specs.Value.{after_commit, BookValue, committed, faulted, Fortune, history_of, readied, recorded_if, Refused, reopened, Reopening, torn_of, tried, tried_with}
pub use Rattle.gateway_book.specs.Book.{area_of, fortune_of, HasCause, IsLeft, size_of, Stays as StaysSo, value_of}
pub use Rattle.gateway_book.specs.Calls.{cause_in, closed, commit_left, given_at, is_above, Left, length_at, marked_at, marked_if_ready, outcome_at, settled_by, settled_of, taken}
pub use Rattle.gateway_book.specs.Read.{IsUnchanged}
pub use Rattle.gateway_book.specs.Turning.{act_in, act_marked, added_to, drops_of, facts_of, facts_of as book_facts, is_gone, IsTurn, tells_lists}
pub use Rattle.gateway_book.specs.declared.book.Book.{Book}
pub use Rattle.gateway_book.specs.declared.outcome.Outcome.{Outcome}
pub use Rattle.gateway_book.specs.declared.outcome.Settled.{Settled}
pub use Rattle.gateway_book.specs.declared.outcome.Settled.TheVariants.{Firm, Lost, NotYet}
pub use Rattle.gw_base.specs.Facts.{AreSound, Facts, WhereTold}
pub use Rattle.gw_base.specs.Owes.{base, Begins, Owes}
pub use Rattle.gw_base.specs.declared.address.Addr.{Addr}
pub use Rattle.gw_base.specs.declared.history.Caller.{Caller}
pub use Rattle.gw_base.specs.declared.history.HistoryAct.{HistoryAct}
pub use Rattle.gw_base.specs.declared.history.HistoryEntry.{HistoryEntry}
pub use Rattle.job_inbox.specs.declared.inbox.InboxPass.{InboxPass}
pub use Rattle.job_inbox.specs.declared.job.Job.{Job}
pub use Rattle.net_link.specs.Datagrams.{LinkState, with_one}
pub use Rattle.node_session.specs.Answering.{AddsAnswers, AreAnswers, called_at, HasSent, history_at, IsAnswer, IsAnswerTo, IsFaultAt, IsReplyAt, KeepsTurns, MayHave, Tells, TellsBehind}
pub use Rattle.node_session.specs.Asking.{IsAsked, ListsIn, SettlesIn, TakesIn}
pub use Rattle.node_session.specs.Learning.{HasTurnFor, IsCountedBy, Learns}
pub use Rattle.node_session.specs.Passes.{known_by}
pub use Rattle.node_session.specs.Receiving.{AreOfEach, ComesOf, hands_of, HasReceived, IsIdle, IsNextJob, serial_of, session_for, TellsOf, WasFull, with_job}
pub use Rattle.node_session.specs.Serving.{caller_of, Concludes, GoesOn, IsServed, once_sent, SendsFor, SendsTo}
pub use Rattle.node_session.specs.Settling.{closed_behind, Grows, HasClosed, HasFirmed, HasGivenSome, HasTakenAll, IsSettled}
pub use Rattle.node_session.specs.Together.{AreFirstsOf, AreServed, AreTaken, EachMayHave, EachTells, FirstAreTaken, GoesFrom, GoOn, HaveTurnsFor, KeepsTurnsOf, TellTogether}
pub use Rattle.node_session.specs.Turns.{called_for, decided_at, entries_of, HasAsked, HasCommitted, HasTaken, IsCountedAt, IsFailed, IsOneOf, IsTakenAt, IsToldAt, Settles}
pub use Rattle.node_session.specs.Writing.{AreNext, HasFailedIn, HasListedIn, HasTakenOf, HoldsFilesOf, IsWriterOf, KeepsFiles, KeepsListing, knowledge_of, most_items, none_closed, none_stood, writer_of}
pub use Rattle.node_session.specs.declared.gate.Go.{Go}
pub use Rattle.node_session.specs.declared.served.Served.{Served}
pub use Rattle.std.proofs.lemmas.Bool.{and_from, and_parts, cases_lt, cond_both, eq-eqb, eqb-false, eqb-true, false_from_ne_true, false≢true, ltb-false, ltb-true, or_cases, or_parts, true≢false}
pub use Rattle.std.proofs.lemmas.List.{append-nil, drop_at, get_or-map, length-append, length-drop, length-take, nil_from_length, set-get_or, take-append-drop, take_all, take_at, take_more}
pub use Rattle.std.proofs.lemmas.List.Elements.{All-append, All-cons, All-contains, All-nil, Contains-append_left, Contains-push}
pub use Rattle.std.proofs.lemmas.Result.{MatchResult-weaker, on_err_weaker, on_ok_weaker}
pub use Rattle.std.specs.List.{Contains, insert, remove}
pub use Rattle.std.specs.Prelude.{All, IfOk, IfSome, IsTrue, MatchOption, min, nat_eq, nat_lt, slice_index_or, slice_set, vec_capacity, vec_len}
pub use Rattle.turn_cell.specs.Cell.{knowledge}
pub use Rattle.turn_cell.specs.Knowing.{after_turn, Follows, kept, Saw}
pub use Rattle.turn_cell.specs.declared.cell.Pass.{Pass}
pub use Rattle.turn_cell.specs.declared.knowing.KeptTurn.{KeptTurn}
pub use Rattle.turn_cell.specs.declared.knowing.Knowledge.{Knowledge}
