-- What who receives has done: what its link heard was pushed, and nothing else.
use Rattle.std.specs.Prelude.{◌≡◌, ◌≢◌, ℕ, suc, ◌+◌, ◌%◌, ◌<◌, ◌≤◌, ◌^◌, Bool, false, true, List, [], ◌∷◌, Option, None, Some, IfSome, length, ⊤}
use Rattle.gw_base.specs.Faults.{Rose, next_count}
use Rattle.gw_base.specs.declared.address.Addr.{Addr}
use Rattle.job_inbox.specs.declared.hand.Hand.{Hand}
use Rattle.job_inbox.specs.declared.job.Job.{Job}
use Rattle.net_link.specs.Datagrams.{Datagram, IsEmpty, LinkState}
use Rattle.net_link.specs.declared.link.Link.{Ghosts}
use Rattle.node_session.specs.Receiving.{HasHeardOne, hands_of}
use Rattle.node_session.specs.declared.dispatched.Dispatched.{Dispatched}
use Rattle.node_session.specs.declared.dispatched.Dispatched.TheVariants as dispatched
use Rattle.session_run.specs.History.{InTurn, datagram_of}
use Rattle.session_run.specs.declared.reception.Reception.{Reception}
use Rattle.session_run.specs.declared.stop.Stop.{Stop}
use Rattle.session_run.specs.declared.stop.Stop.TheVariants as stop
use Rattle.session_run.specs.declared.until.Until.{Until}
use Rattle.session_run.specs.declared.until.Until.TheVariants as until

-- why the reception stops behind a step, if it does
abbrev pub stop_behind : Dispatched → Option Stop
stop_behind dispatched.Link = Some stop.Link
stop_behind dispatched.Clock = Some stop.Clock
stop_behind dispatched.NoMemory = Some stop.NoMemory
stop_behind dispatched.Pushed = None
stop_behind dispatched.Full = None
stop_behind dispatched.Quiet = None

-- The clock's count of faults rose where the clock stopped the reception, and stands at any other end.
abbrev pub TellsOfClock : ℕ → ℕ → Option Stop → Type 0
TellsOfClock clock clock' stops =
    (stops ≡ Some stop.Clock → Rose clock clock') × (stops ≢ Some stop.Clock → clock' ≡ clock)

-- whether nothing came in a step
abbrev pub was_quiet : Dispatched → Bool
was_quiet dispatched.Quiet = true
was_quiet dispatched.Pushed = false
was_quiet dispatched.Full = false
was_quiet dispatched.Link = false
was_quiet dispatched.Clock = false
was_quiet dispatched.NoMemory = false

-- the job is a datagram that is for this one of so many sessions
abbrev pub IsOneFor : ℕ → ℕ → Datagram → Job → Type 0
IsOneFor sessions session d job = (d.peer.ip % sessions ≡ session) × (datagram_of job ≡ d)

-- Of datagrams that were heard, where that is told, those for a session were pushed by a pass, or some of them, in turn.
-- It took none.
pub record PushedOf (sessions session : ℕ) (heard : Option (List Datagram)) (hand : Hand) : Type 0 where
  pub jobs : IfSome heard (λ list. InTurn (IsOneFor sessions session) list hand.put)
  pub none_taken : hand.taken ≡ []

-- the same of each pass, from that to the inbox of this session on
abbrev pub ArePushed : ℕ → ℕ → Option (List Datagram) → List Hand → Type 0
ArePushed sessions session heard [] = ⊤
ArePushed sessions session heard (hand ∷ hands) =
    PushedOf sessions session heard hand × ArePushed sessions (suc session) heard hands

module _ {L : Type 0} (tells : Ghosts L) where
  abbrev pub link_of : Reception L → LinkState
  link_of reception = tells.state reception.link

  abbrev pub turns_of : Reception L → ℕ
  turns_of reception = (link_of reception).turns

  -- Since its link was made at this address, each job that it pushed is a datagram that the link received, each once and
  -- in their order, and it sent nothing. Where the link stopped it, its count of faults rose.
  pub record HasDispatched (at : Addr) (reception : Reception L) : Type 0 where
    pub pushed : ArePushed (length (hands_of reception.dispatcher)) 0 (link_of reception).received
        (hands_of reception.dispatcher)
    pub address : (link_of reception).address ≡ at
    pub unsent : IsEmpty (link_of reception).sent
    pub cause : reception.stop ≡ Some stop.Link → Rose 0 (link_of reception).faults

  -- unless it stopped, its link has failed no more often
  abbrev pub StaysCalm : Reception L → Reception L → Type 0
  StaysCalm old new = new.stop ≡ None → (link_of new).faults ≡ (link_of old).faults

  -- The link took a turn, unless it stopped: a quiet one, in which nothing came, or one that heard a datagram.
  pub record TakesTurn (is_quiet : Bool) (old new : Reception L) : Type 0 where
    pub turns : new.stop ≡ None → turns_of new ≡ next_count (turns_of old)
    pub most : turns_of new ≤ turns_of old + 1
    pub quiet : is_quiet ≡ true → link_of new ≡ record (link_of old) { turns = next_count (turns_of old) }
    pub heard : is_quiet ≡ false → new.stop ≡ None → HasHeardOne (link_of old) (link_of new)
    pub calm : StaysCalm old new

  -- Of so many turns those are left that the link didn't take, unless it stopped, and no more; it is over where none
  -- is.
  pub record CountsTurns (n : ℕ) (reception : Reception L) : Type 0 where
    pub few : n < 2 ^ 63
    pub most : turns_of reception + reception.left ≤ n
    pub turns : reception.stop ≡ None → turns_of reception + reception.left ≡ n
    pub over : reception.is_over ≡ true → reception.left ≡ 0

-- a fact of how many turns are taken, where they are counted
abbrev pub IfTurns : Until → (ℕ → Type 0) → Type 0
IfTurns (until.Turns n) P = P n
IfTurns (until.QuietAfter count all) P = ⊤
