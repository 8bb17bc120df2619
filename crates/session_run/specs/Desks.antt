-- What a session has done at its desk: what it added are answers to jobs that it took, in turn, and what it sent are
-- replies to them, in turn.
use Rattle.std.specs.Prelude.{◌≡◌, ◌≢◌, ◌⊎◌, ◌≤◌, ℕ, Bool, List, [], ◌∷◌, ◌++◌, All, Option, None, Some, IfSome}
use Rattle.std.specs.List.{Contains}
use Rattle.std.specs.Option.{option_or}
use Rattle.area_disk.specs.Disk as disk
use Rattle.gw_base.specs.Faults.{Rose}
use Rattle.gw_base.specs.Facts.{Facts, WhereTold}
use Rattle.gw_base.specs.declared.address.Addr.{Addr}
use Rattle.job_inbox.specs.Inbox.{IsPassOf, knowledge}
use Rattle.job_inbox.specs.Rule.{hand}
use Rattle.job_inbox.specs.declared.hand.Hand.{Hand}
use Rattle.job_inbox.specs.declared.inbox.Inbox.{Inbox}
use Rattle.job_inbox.specs.declared.job.Job.{Job}
use Rattle.net_link.specs.Datagrams.{Datagram, IsEmpty, LinkState}
use Rattle.net_link.specs.declared.link.Link.{Ghosts}
use Rattle.node_session.specs.Passes.{IsWorkerOf, knowledge_of}
use Rattle.node_session.specs.declared.served.Served.{Served}
use Rattle.node_session.specs.declared.served.Served.TheVariants as served
use Rattle.turn_cell.specs.Placed.{added_by}
use Rattle.turn_cell.specs.declared.cell.TurnCell.{TurnCell}
use Rattle.turn_cell.specs.declared.knowing.KeptTurn.{KeptTurn}
use Rattle.turn_cell.specs.declared.knowing.Knowledge.{Knowledge}
use Rattle.session_run.specs.History.{AnswersJob, InTurn, IsAnswered, TellsFailure, datagram_of}
use Rattle.session_run.specs.Latest.{latest}
use Rattle.session_run.specs.declared.desk.Desk.{Desk}
use Rattle.session_run.specs.declared.stop.Stop.{Stop}
use Rattle.session_run.specs.declared.stop.Stop.TheVariants as stop

-- why a session stops that served a job, if it does
abbrev pub stop_of : Served → Option Stop
stop_of served.Link = Some stop.Link
stop_of served.NoMemory = Some stop.NoMemory
stop_of (served.Replied cause front) = None
stop_of (served.Dropped why) = None
stop_of served.Lost = None
stop_of served.Over = None

-- the same of a session that served several: the first cause
abbrev pub first_stop : List Served → Option Stop
first_stop [] = None
first_stop (result ∷ results) = option_or (stop_of result) (first_stop results)

-- what a pass to an inbox pushed and took, once it took these jobs more
abbrev pub with_all_taken : List Job → Hand → Hand
with_all_taken jobs h = hand h.put (h.taken ++ jobs)

-- What a session began with: its number, the size of the book, and how often the device had failed.
pub record Began : Type 0 where
  pub number : ℕ
  pub size : ℕ
  pub faults : ℕ

-- what the pass with a number began with
abbrev pub began_at : Facts → ℕ → Began
began_at start n = record { number = n; size = start.size; faults = start.faults }

-- a turn found the count of faults at least at this, and didn't lower it
pub record IsSince (faults : ℕ) (t : KeptTurn) : Type 0 where
  pub found : faults ≤ t.found.faults
  pub left : t.found.faults ≤ t.left.faults

-- the count of faults rose since the cell was made, as a turn of the pass left it
abbrev pub HasFailedSince : Knowledge → Type 0
HasFailedSince k = (t : KeptTurn) × Contains k.turns t × disk.Rose k.faults t.left.faults

-- What a session sent is the reply to a job.
pub record RepliesTo (k : Knowledge) (job : Job) (sent : Datagram) : Type 0 where
  pub peer : sent.peer ≡ job.from
  pub says : IsAnswered k.size k.known (datagram_of job) sent.octets
      ⊎ (TellsFailure (datagram_of job) sent.octets × HasFailedSince k)

-- what was sent, where that is told, are replies to jobs in turn
abbrev pub AreRepliesTo : List Job → Knowledge → Option (List Datagram) → Type 0
AreRepliesTo jobs k sent = IfSome sent (InTurn (RepliesTo k) jobs)

-- a link at this address has taken no turn and heard nothing
pub record HearsNothing (at : Addr) (link : LinkState) : Type 0 where
  pub address : link.address ≡ at
  pub turns : link.turns ≡ 0
  pub received : IsEmpty link.received

module _ {L : Type 0} where
  -- it is the desk of a session of this cell, with a pass of this inbox
  pub record IsDeskOf {V : Type 0} (cell : TurnCell V) (inbox : Inbox) (desk : Desk L) : Type 0 where
    pub worker : IsWorkerOf cell desk.worker
    pub pass : IsPassOf inbox desk.pass

  -- what its pass to the inbox pushed and took
  abbrev pub hand_at : Desk L → Hand
  hand_at desk = knowledge desk.pass

  -- what its pass to the cell knows
  abbrev pub known_at : Desk L → Knowledge
  known_at desk = knowledge_of desk.worker

-- what its link tells
abbrev pub link_at : {L : Type 0} (tells : Ghosts L) → Desk L → LinkState
link_at tells desk = tells.state desk.link

module _ {L : Type 0} (tells : Ghosts L) (told : Bool) (at : Addr) (began : Began) where
  pub record HasWorked (desk : Desk L) : Type 0 where
    pub number : (known_at desk).number ≡ began.number
    pub size : (known_at desk).size ≡ began.size
    pub faults : (known_at desk).faults ≡ began.faults
    pub since : All (IsSince began.faults) (known_at desk).turns
    pub none_put : (hand_at desk).put ≡ []
    pub last : desk.last ≡ latest (hand_at desk).taken
    pub answers : WhereTold told
        (InTurn (AnswersJob began.size began.number) (hand_at desk).taken (added_by (known_at desk).turns))
    pub replies : WhereTold told (AreRepliesTo (hand_at desk).taken (known_at desk) (link_at tells desk).sent)
    pub link : HearsNothing at (link_at tells desk)
    pub cause : desk.stop ≡ Some stop.Link → Rose 0 (link_at tells desk).faults
    pub calm : desk.stop ≡ None → (link_at tells desk).faults ≡ 0
    pub no_clock : desk.stop ≢ Some stop.Clock
