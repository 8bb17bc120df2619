-- One round of a reception: what it is given, and what it leaves.
use Rattle.std.specs.Prelude.{◌≡◌, ◌<◌, ◌≤◌, ℕ, List, None, length}
use Rattle.gw_base.specs.declared.address.Addr.{Addr}
use Rattle.job_inbox.specs.declared.inbox.Inbox.{Inbox}
use Rattle.net_link.specs.declared.link.Link.{Ghosts}
use Rattle.node_session.specs.Receiving.{AreOfEach, passes_of}
use Rattle.session_run.specs.Reception.{CountsTurns, HasDispatched, IfTurns, StaysCalm, TellsOfClock}
use Rattle.session_run.specs.declared.reception.Reception.{Reception}
use Rattle.session_run.specs.declared.until.Until.{Until}

-- it has a pass of each inbox, and nothing stopped it
pub record CanReceive {L : Type 0} (inboxes : List Inbox) (reception : Reception L) : Type 0 where
  pub some : 0 < length inboxes
  pub own : AreOfEach inboxes (passes_of reception.dispatcher)
  pub runs : reception.stop ≡ None

-- It received for a while.
pub record HasReceived {L : Type 0} (tells : Ghosts L) (inboxes : List Inbox) (until : Until) (old new : Reception L)
    (clock clock' : ℕ) : Type 0 where
  pub own : AreOfEach inboxes (passes_of new.dispatcher)
  pub dispatched : (at : Addr) → HasDispatched tells at old → HasDispatched tells at new
  pub turns : IfTurns until (λ n. CountsTurns tells n old → CountsTurns tells n new)
  pub later : clock ≤ clock'
  pub cause : TellsOfClock clock clock' new.stop
  pub calm : StaysCalm tells old new
