-- What a gateway's history gains by the datagrams that its link heard, and what is sent for them.
use Rattle.std.specs.Prelude.{◌≡◌, ◌⊎◌, ℕ, ◌%◌, ◌≤◌, ◌==◌, filter, List, [], ◌∷◌, ◌++◌, All, Option, Some, IfSome, ⊤}
use Rattle.std.specs.List.{Contains}
use Rattle.area_disk.specs.Disk.{Rose}
use Rattle.gw_base.specs.Facts.{Facts, joined}
use Rattle.gw_base.specs.Owes.{Begins}
use Rattle.gw_base.specs.declared.history.Caller.{Caller}
use Rattle.gw_base.specs.declared.history.HistoryAct.{HistoryAct}
use Rattle.gw_base.specs.declared.history.HistoryEntry.{HistoryEntry}
use Rattle.gateway_answer.specs.Answer.{Says, failure_reply}
use Rattle.gateway_answer.specs.Preparing.{prepared_of}
use Rattle.job_inbox.specs.declared.job.Job.{Job}
use Rattle.net_link.specs.Datagrams.{Datagram}
use Rattle.node_session.specs.Serving.{caller_of}
use Rattle.node_session.specs.Turns.{called_for, decided_at, entries_of}
use Rattle.turn_cell.specs.Placed.{by_session, placed}
use Rattle.session_run.specs.Latest.{Jobs, latest_of}

-- the datagram that a job has
abbrev pub datagram_of : Job → Datagram
datagram_of job = record { peer = job.from; octets = job.octets }

-- a datagram was heard, where it is told what was
abbrev pub IsHeard : Option (List Datagram) → Datagram → Type 0
IsHeard heard d = IfSome heard (λ list. Contains list d)

-- An entry, with what stands in front of it, is the one that the answer to a datagram that was heard calls for there, on
-- so many octets.
pub record IsCalledFor (size : ℕ) (heard : Option (List Datagram)) (p : HistoryEntry × List HistoryEntry) : Type 0 where
  pub datagram : Datagram
  pub was_heard : IsHeard heard datagram
  pub now : ℕ
  pub who : Caller
  pub called : called_for p.1 size datagram.peer datagram.octets now who ≡ p.0 ∷ []

-- A history goes on: what stands of the one at first, its firm part at least, and behind it answers to datagrams that were
-- heard, each at the entries in front of it. What is firm stands first, the torn entries of a broken book last.
pub record GoesOn (heard : Option (List Datagram)) (start now : Facts) : Type 0 where
  pub stood : List HistoryEntry
  pub tail : List HistoryEntry
  pub whole : joined now ≡ stood ++ tail
  pub stood_is : Begins stood (joined start)
  pub firm : Begins start.firm stood
  pub begins : Begins start.firm now.firm
  pub first : Begins now.firm (joined now)
  pub answers : All (IsCalledFor start.size heard) (placed stood tail)

-- The second list is for the first in turn: each of its elements for one of the first, no two for the same, and in the
-- same order.
abbrev pub InTurn : {A B : Type 0} → (A → B → Type 0) → List A → List B → Type 0
InTurn For xs [] = ⊤
InTurn For [] (y ∷ ys) = ⊥
InTurn For (x ∷ xs) (y ∷ ys) = (For x y × InTurn For xs ys) ⊎ InTurn For xs (y ∷ ys)

-- how many sessions a gateway has
abbrev pub session_count : ℕ
session_count = 4

-- a datagram is for a session: all that a node sends are for the same
abbrev pub IsFor : ℕ → Datagram → Type 0
IsFor session d = d.peer.ip % session_count ≡ session

-- a datagram is for a session, and the job is it
abbrev pub IsJobOf : ℕ → Datagram → Job → Type 0
IsJobOf session d job = IsFor session d × (datagram_of job ≡ d)

-- the entry, with what stands in front of it, is the one that the answer to a job of the session calls for there, at the
-- job's moment
abbrev pub AnswersJob : ℕ → ℕ → Job → HistoryEntry × List HistoryEntry → Type 0
AnswersJob size session job p =
    called_for p.1 size job.from job.octets job.moment (caller_of session job) ≡ p.0 ∷ []

-- Entries, each with what stands in front of it, answer jobs. The jobs of a session are datagrams for it that were heard,
-- each taken once and in the order in which they were heard; its entries are answers to its jobs, one to a job at most
-- and in their order.
pub record AnswerInTurn (size : ℕ) (heard : Option (List Datagram)) (jobs : Jobs)
    (entries : List (HistoryEntry × List HistoryEntry)) : Type 0 where
  pub were_heard : (session : ℕ) → IfSome heard (λ list. InTurn (IsJobOf session) list (jobs session))
  pub answers : (session : ℕ) → InTurn (AnswersJob size session) (jobs session) (by_session session entries)
  pub no_more : (session : ℕ) → session_count ≤ session → jobs session ≡ []

-- A history goes on, and what stands behind the one at first answers jobs in turn, of which this is the latest moment.
pub record GoesOnUntil (heard : Option (List Datagram)) (start now : Facts) (last : Option ℕ) : Type 0 where
  pub goes : GoesOn heard start now
  pub jobs : Jobs
  pub answers : AnswerInTurn start.size heard jobs (placed goes.stood goes.tail)
  pub latest : last ≡ latest_of jobs

-- These octets are what is answered to a datagram at a history; it is firm, and the entry that the answer calls for, if
-- any, is firm behind it.
pub record IsAnswered (size : ℕ) (firm : List HistoryEntry) (asked : Datagram) (octets : List ℕ) : Type 0 where
  pub history : List HistoryEntry
  pub act : Option HistoryAct
  pub says : decided_at history size asked.peer asked.octets ≡ Says octets act
  pub now : ℕ
  pub who : Caller
  pub rests : Begins (history ++ entries_of history now who act) firm

-- these octets tell that the device failed, to a datagram that is a request (cause 204)
abbrev pub TellsFailure : Datagram → List ℕ → Type 0
TellsFailure asked octets = failure_reply (prepared_of asked.octets) ≡ Some octets

-- What was sent is the reply to a datagram that was heard, to its sender: what is answered to it, on so many octets, at a
-- history that is firm, with its entry firm behind it; or that the device failed, whose count of faults rose from one to
-- the other.
pub record IsReply (heard : Option (List Datagram)) (size : ℕ) (firm : List HistoryEntry) (before now : ℕ)
    (sent : Datagram) : Type 0 where
  pub asked : Datagram
  pub was_heard : IsHeard heard asked
  pub peer : sent.peer ≡ asked.peer
  pub says : IsAnswered size firm asked sent.octets ⊎ (TellsFailure asked sent.octets × Rose before now)

-- the same of this one, which is for a session
pub record IsReplyTo (session size : ℕ) (firm : List HistoryEntry) (before now : ℕ) (asked sent : Datagram)
    : Type 0 where
  pub session_is : IsFor session asked
  pub peer : sent.peer ≡ asked.peer
  pub says : IsAnswered size firm asked sent.octets ⊎ (TellsFailure asked sent.octets × Rose before now)

-- those of datagrams that went to nodes of a session, by their addresses
abbrev pub those_of : ℕ → List Datagram → List Datagram
those_of session sent = filter (λ d. d.peer.ip % session_count == session) sent

-- Where it is told what was heard and what was sent, what was sent to nodes of each session are replies to datagrams for
-- it, one to each at most and in the order in which they were heard.
abbrev pub ReplyInTurn : ℕ → List HistoryEntry → ℕ → ℕ → Option (List Datagram) → Option (List Datagram) → Type 0
ReplyInTurn size firm before now heard sent = (session : ℕ) → IfSome heard (λ asked. IfSome sent (λ list.
    InTurn (IsReplyTo session size firm before now) asked (those_of session list)))
