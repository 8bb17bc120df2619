-- What a session that served a job tells, by the turns that its pass keeps of the call, and what entries it added.
use Rattle.std.specs.Prelude.{◌≡◌, ◌⊎◌, ℕ, ◌≤◌, Bool, true, List, [], ◌∷◌, ◌++◌, All, length, Option, MatchOption, ⊤}
use Rattle.std.specs.List.{Contains}
use Rattle.area_disk.specs.Disk.{Rose}
use Rattle.gtpp_message.specs.Message.{TransferResponse}
use Rattle.gtpp_message.specs.Writing.{written}
use Rattle.gtpp_message.specs.declared.reading.Why.{Why}
use Rattle.gtpp_message.specs.declared.reading.Why.TheVariants.{Device}
use Rattle.gw_base.specs.Facts.{WhereTold}
use Rattle.gw_base.specs.Owes.{Begins, base}
use Rattle.gw_base.specs.declared.cause.TheConstants.{SYSTEM_FAILURE}
use Rattle.gw_base.specs.declared.history.HistoryAct.{HistoryAct}
use Rattle.gw_base.specs.declared.history.HistoryEntry.{HistoryEntry}
use Rattle.gateway_answer.specs.Answer.{Says, failure_reply}
use Rattle.gateway_book.specs.Calls.{cause_in, is_above}
use Rattle.gateway_answer.specs.Preparing.{prepared_of}
use Rattle.job_inbox.specs.declared.job.Job.{Job}
use Rattle.net_link.specs.Datagrams.{LinkState, with_one}
use Rattle.net_link.specs.Steps.{HasFailed}
use Rattle.turn_cell.specs.Knowing.{facts_of}
use Rattle.turn_cell.specs.Placed.{placed}
use Rattle.turn_cell.specs.declared.knowing.KeptTurn.{KeptTurn}
use Rattle.turn_cell.specs.declared.knowing.Knowledge.{Knowledge}
use Rattle.node_session.specs.Serving.{caller_of}
use Rattle.node_session.specs.Turns.{called_for, decided_at, decided_by_fault, entries_of}
use Rattle.node_session.specs.declared.gate.Go.{Go}
use Rattle.node_session.specs.declared.gate.Go.TheVariants as go
use Rattle.node_session.specs.declared.served.Served.{Served}
use Rattle.node_session.specs.declared.served.Served.TheVariants as served

-- the history at which the datagram of a turn is answered: the list that the turn found, with the torn entries of a
-- broken book taken in or dropped
abbrev pub history_at : KeptTurn → List HistoryEntry
history_at t = base t.drops (facts_of t.found)

module _ (told : Bool) (session : ℕ) (job : Job) where
  -- the one entry that the answer to the job's datagram calls for at the history of a turn, or none
  abbrev pub called_at : KeptTurn → List HistoryEntry
  called_at t =
      called_for (history_at t) t.found.size job.from job.octets job.moment (caller_of session job)

  -- The pass keeps one turn more, which took the job's datagram and added what the answer calls for, or nothing; and at
  -- most one behind it, which added nothing.
  pub record KeepsTurns (before after : Knowledge) : Type 0 where
    pub first : KeptTurn
    pub later : List KeptTurn
    pub turns : after.turns ≡ before.turns ++ first ∷ later
    pub number : after.number ≡ before.number
    pub size : (after.size ≡ before.size) × (first.found.size ≡ before.size)
    pub adds : WhereTold told ((first.added ≡ []) ⊎ (first.added ≡ called_at first))
    pub one_more : length later ≤ 1
    pub adds_none : All (λ t. t.added ≡ []) later

  -- The reply is the answer's at the history of the turn, and the turn added the entry that it calls for, behind that
  -- history. It is the list that the turn found, but for a book with torn entries.
  pub record IsReplyAt (t : KeptTurn) (reply : List ℕ) : Type 0 where
    pub whole : t.found.torn ≡ [] → history_at t ≡ t.found.list
    pub act : Option HistoryAct
    pub decides : decided_at (history_at t) t.found.size job.from job.octets ≡ Says reply act
    pub adds : t.added ≡ entries_of (history_at t) job.moment (caller_of session job) act
    pub list : t.left.list ≡ history_at t ++ t.added

  -- The reply tells that the device failed, whose count rose in the turn; nothing was added.
  pub record IsFaultAt (t : KeptTurn) (reply : List ℕ) : Type 0 where
    pub act : Option HistoryAct
    pub rose : Rose t.found.faults t.left.faults
    pub decides : decided_by_fault job.octets ≡ Says reply act
    pub adds : t.added ≡ []

  -- this one datagram was sent, to the job's sender
  abbrev pub HasSent : LinkState → LinkState → List ℕ → Type 0
  HasSent old new octets = new ≡ record old { sent = with_one (record { peer = job.from; octets = octets }) old.sent }

  -- What is told where the pass took these turns between the one that took the job's datagram and what followed it: none
  -- where the job is served by itself.
  module _ (between : List KeptTurn) (before after : Knowledge) (old new : LinkState) where
    -- A reply was sent, and all that it rests on was known to be firm before.
    pub record HasRepliedBehind (cause : Option ℕ) (front : ℕ) : Type 0 where
      pub first : KeptTurn
      pub later : List KeptTurn
      pub turns : after.turns ≡ before.turns ++ first ∷ (between ++ later)
      pub size : first.found.size ≡ before.size
      pub reply : List ℕ
      pub sent : HasSent old new reply
      pub front_is : front ≡ first.left.entries
      pub cause_is : cause ≡ cause_in reply
      pub answers : WhereTold told (IsReplyAt first reply ⊎ IsFaultAt first reply)
      pub long : WhereTold told (front ≡ length first.left.list)
      pub firm : WhereTold told (Begins first.left.list after.known)
      -- over every area: a failed device is told only where its count rose in the turn
      pub fault : (number : ℕ) → reply ≡ written number (TransferResponse SYSTEM_FAILURE (number ∷ []))
          → Rose first.found.faults first.left.faults

    -- Nothing was sent; a datagram is dropped as the device failed only where its count rose in the turn.
    pub record HasDroppedBehind (why : Why) : Type 0 where
      pub first : KeptTurn
      pub turns : after.turns ≡ before.turns ++ first ∷ between
      pub unsent : new ≡ old
      pub fault : why ≡ Device → Rose first.found.faults first.left.faults

    -- A commit or an opening again failed since the answer was made, and the count of the device rose in or between the
    -- first turn and the last one. A request is told so, anything else isn't answered.
    pub record HasLostBehind : Type 0 where
      pub first : KeptTurn
      pub second : KeptTurn
      pub turns : after.turns ≡ before.turns ++ first ∷ (between ++ second ∷ [])
      pub cut : is_above second.left.cuts first.left.cuts ≡ true
      pub rose : Rose first.left.faults second.left.faults
      pub sent : MatchOption (failure_reply (prepared_of job.octets)) (new ≡ old) (HasSent old new)

    -- what each answer tells
    abbrev pub TellsBehind : Served → Type 0
    TellsBehind (served.Replied cause front) = HasRepliedBehind cause front
    TellsBehind (served.Dropped why) = HasDroppedBehind why
    TellsBehind served.Lost = HasLostBehind
    TellsBehind served.Link = HasFailed old new
    TellsBehind served.Over = new ≡ old
    TellsBehind served.NoMemory = new ≡ old

  -- the same of a job that is served by itself
  module _ (before after : Knowledge) (old new : LinkState) where
    abbrev pub HasReplied : Option ℕ → ℕ → Type 0
    HasReplied cause front = HasRepliedBehind [] before after old new cause front

    abbrev pub HasDropped : Why → Type 0
    HasDropped why = HasDroppedBehind [] before after old new why

    abbrev pub HasLost : Type 0
    HasLost = HasLostBehind [] before after old new

    abbrev pub Tells : Served → Type 0
    Tells answer = TellsBehind [] before after old new answer

-- What the gate may have answered, by what became of the job.
abbrev pub MayHave : (Go → Type 0) → Served → Type 0
MayHave may (served.Replied cause front) = may go.On
MayHave may (served.Dropped why) = ⊤
MayHave may served.Lost = may go.On
MayHave may served.Link = may go.On
MayHave may served.Over = may go.Over
MayHave may served.NoMemory = may go.On

-- The entries that a turn added are what the answer to one of these jobs calls for at the history of the turn, on so
-- many octets.
abbrev pub IsAnswerTo : ℕ → ℕ → List Job → KeptTurn → Type 0
IsAnswerTo size session jobs t =
    (t.added ≡ []) ⊎ ((job : Job) × Contains jobs job
    × (t.added ≡ called_for (history_at t) size job.from job.octets job.moment (caller_of session job)))

-- All that a pass added are answers to these jobs of its session.
abbrev pub AddsAnswers : List Job → Knowledge → Type 0
AddsAnswers jobs k = All (IsAnswerTo k.size k.number jobs) k.turns

-- An entry, with what stands in front of it: it is the one that the answer to a job of its session calls for there.
abbrev pub IsAnswer : ℕ → (ℕ → List Job) → HistoryEntry × List HistoryEntry → Type 0
IsAnswer size jobs p = (job : Job) × Contains (jobs p.0.caller.session) job
    × (called_for p.1 size job.from job.octets job.moment (caller_of p.0.caller.session job) ≡ p.0 ∷ [])

-- Each of the entries behind others is an answer to a job of its session, at the entries in front of it.
abbrev pub AreAnswers : ℕ → (ℕ → List Job) → List HistoryEntry → List HistoryEntry → Type 0
AreAnswers size jobs stood tail = All (IsAnswer size jobs) (placed stood tail)
