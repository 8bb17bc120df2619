-- How a session serves a job, step by step, and what it answers by each.
use Rattle.std.specs.Prelude.{◌≡◌, ◌⊎◌, ℕ, List, Option, None, Some, Result, Ok, Err}
use Rattle.std.specs.List.{Contains}
use Rattle.area_disk.specs.declared.area.Area.{Ghosts}
use Rattle.gw_base.specs.declared.history.Caller.{Caller}
use Rattle.gateway_answer.specs.Answer.{failure_reply}
use Rattle.gateway_answer.specs.Preparing.{prepared_of}
use Rattle.gateway_book.specs.Turning.{tells_lists}
use Rattle.gateway_book.specs.declared.outcome.Outcome.{Outcome}
use Rattle.gateway_book.specs.declared.outcome.Outcome.TheVariants as outcome
use Rattle.gateway_book.specs.declared.outcome.Receipt.{Receipt}
use Rattle.gateway_book.specs.declared.outcome.Settled.{Settled}
use Rattle.gateway_book.specs.declared.outcome.Settled.TheVariants as settled
use Rattle.job_inbox.specs.declared.job.Job.{Job}
use Rattle.net_link.specs.Datagrams.{LinkState}
use Rattle.net_link.specs.Steps.{Sends}
use Rattle.net_link.specs.declared.link.LinkStop.{LinkStop}
use Rattle.net_link.specs.declared.link.LinkStop.TheVariants as stop
use Rattle.turn_cell.specs.declared.knowing.KeptTurn.{KeptTurn}
use Rattle.turn_cell.specs.declared.knowing.Knowledge.{Knowledge}
use Rattle.node_session.specs.Asking.{IsAsked, TakesIn}
use Rattle.node_session.specs.Learning.{IsCountedBy, Learns}
use Rattle.node_session.specs.declared.gate.Go.{Go}
use Rattle.node_session.specs.declared.gate.Go.TheVariants as go
use Rattle.node_session.specs.declared.served.Served.{Served}
use Rattle.node_session.specs.declared.served.Served.TheVariants as served

-- the caller of the entry that a session's job calls for
abbrev pub caller_of : ℕ → Job → Caller
caller_of session job = record { session = session; serial = job.serial }

-- what a call comes to whose link stopped
abbrev pub once_stopped : LinkStop → Served
once_stopped stop.Failed = served.Link
once_stopped stop.NoMemory = served.NoMemory

-- what a call comes to that would answer so, by what came of sending
abbrev pub once_sent : Served → Result Unit LinkStop → Served
once_sent result (Ok done) = result
once_sent result (Err stop) = once_stopped stop

-- these octets, if any, were sent to the job's sender, and the call answers so
abbrev pub SendsTo : Job → LinkState → LinkState → Served → Option (List ℕ) → Served → Type 0
SendsTo job old new result None answer = (result ≡ answer) × (new ≡ old)
SendsTo job old new result (Some octets) answer =
    (sent : Result Unit LinkStop) × Sends old job.from octets sent new × (result ≡ once_sent answer sent)

-- What was sent, by what had become of the answer: the reply, or the failure of a request; nothing else can be.
abbrev pub SendsFor : Job → LinkState → LinkState → Served → Receipt → Settled → Type 0
SendsFor job old new result receipt settled.Firm =
    SendsTo job old new result (Some receipt.reply) (served.Replied receipt.cause receipt.front)
SendsFor job old new result receipt (settled.Lost faults) =
    SendsTo job old new result (failure_reply (prepared_of job.octets)) served.Lost
SendsFor job old new result receipt (settled.NotYet firm) = ⊥

module _ {A : Type 0} (tells : Ghosts A) where
  -- The pass asked what had become of the answer with this receipt, and then that was sent which this calls for.
  pub record Concludes (job : Job) (old new : LinkState) (result : Served) (taken after : Knowledge) (receipt : Receipt)
      : Type 0 where
    pub settled : Settled
    pub asked : IsAsked tells receipt.front receipt.faults taken settled after
    pub learns : (t : KeptTurn) → Contains taken.turns t
        → IsCountedBy (tells_lists tells) receipt.front receipt.faults t
        → Learns (tells_lists tells) t taken after settled
    pub sends : SendsFor job old new result receipt settled

  module _ (may : ℕ → ℕ → Go → Type 0) (session : ℕ) (job : Job) (old new : LinkState) (result : Served) where
    -- nothing more was done behind the first turn
    abbrev pub EndsWith : Knowledge → Knowledge → Served → Type 0
    EndsWith taken after answer = (result ≡ answer) × (after ≡ taken) × (new ≡ old)

    -- The gate was entered: it told to go on, or that it is over.
    abbrev pub IsOver : Knowledge → Knowledge → Type 0
    IsOver taken after = may session job.serial go.Over × EndsWith taken after served.Over

    abbrev pub IsOn : Type 0
    IsOn = may session job.serial go.On

    -- What follows the first turn, by its outcome.
    abbrev pub GoesOn : Knowledge → Knowledge → Outcome → Type 0
    GoesOn taken after (outcome.Drop why) = EndsWith taken after (served.Dropped why)
    GoesOn taken after (outcome.Answer receipt) =
        IsOver taken after ⊎ (IsOn × Concludes job old new result taken after receipt)

    -- A session with a pass that knew so much served the job: it took the datagram in a first turn, and went on.
    pub record IsServed (before after : Knowledge) : Type 0 where
      pub outcome : Outcome
      pub taken : Knowledge
      pub first : TakesIn tells job.from job.octets job.moment (caller_of session job) before outcome taken
      pub goes_on : GoesOn taken after outcome
