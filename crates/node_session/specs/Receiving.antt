-- What a dispatcher does with a datagram.
use Rattle.std.specs.Prelude.{◌≡◌, ℕ, zero, suc, ◌%◌, drop, List, [], ◌∷◌, length, slice_index_or, slice_set, ⊤}
use Rattle.crossbeam_queue.specs.Fifo.{Held}
use Rattle.gw_base.specs.Faults.{Rose, next_count}
use Rattle.job_inbox.specs.Hands.{Shows}
use Rattle.job_inbox.specs.Inbox.{IsPassOf, capacity_of, known_by, made_by}
use Rattle.job_inbox.specs.Rule.{idle, with_put}
use Rattle.job_inbox.specs.declared.hand.Hand.{Hand}
use Rattle.job_inbox.specs.declared.inbox.Inbox.{Inbox}
use Rattle.job_inbox.specs.declared.inbox.InboxPass.{InboxPass}
use Rattle.job_inbox.specs.declared.job.Job.{Job}
use Rattle.net_link.specs.Datagrams.{Datagram, LinkState, with_one}
use Rattle.net_link.specs.Steps.{HasFailed}
use Rattle.node_session.specs.declared.dispatched.Dispatched.{Dispatched}
use Rattle.node_session.specs.declared.dispatched.Dispatched.TheVariants as dispatched
use Rattle.node_session.specs.declared.dispatcher.Dispatcher.{Dispatcher}

-- the passes are one of each inbox, in their order
abbrev pub AreOfEach : List Inbox → List InboxPass → Type 0
AreOfEach [] [] = ⊤
AreOfEach [] (pass ∷ passes) = ⊥
AreOfEach (inbox ∷ inboxes) [] = ⊥
AreOfEach (inbox ∷ inboxes) (pass ∷ passes) = IsPassOf inbox pass × AreOfEach inboxes passes

abbrev pub passes_of : Dispatcher → List InboxPass
passes_of dispatcher = dispatcher.passes.items

-- what each of its passes did
abbrev pub hands_of : Dispatcher → List Hand
hands_of dispatcher = known_by (passes_of dispatcher)

-- how many jobs it made
abbrev pub serial_of : Dispatcher → ℕ
serial_of dispatcher = dispatcher.serial

-- the session, of so many, that has the jobs of a sender's node
abbrev pub session_for : Job → ℕ → ℕ
session_for job sessions = job.from.ip % sessions

-- the hands with one more job that the k-th pushed
abbrev pub with_job : ℕ → Job → List Hand → List Hand
with_job k job hands = slice_set hands k (with_put job (slice_index_or hands k idle))

-- a datagram was received
abbrev pub HasReceived : LinkState → Job → LinkState → Type 0
HasReceived old job new = new ≡ record old {
  turns = next_count old.turns;
  received = with_one (record { peer = job.from; octets = job.octets }) old.received;
}

-- some datagram was received
abbrev pub HasHeardOne : LinkState → LinkState → Type 0
HasHeardOne old new = (d : Datagram)
    × (new ≡ record old { turns = next_count old.turns; received = with_one d old.received })

-- at a moment of the call the k-th inbox was full
abbrev pub WasFull : List Inbox → ℕ → List Hand → Type 0
WasFull [] k hands = ⊥
WasFull (inbox ∷ inboxes) zero hands = Held (capacity_of inbox) (Shows (made_by inbox) (slice_index_or hands 0 idle))
WasFull (inbox ∷ inboxes) (suc k) hands = WasFull inboxes k (drop 1 hands)

-- What came of a step that received something.
module _ (inboxes : List Inbox) (received : Job → Type 0) (old new : Dispatcher) where
  -- What was received is a job with the next serial.
  pub record IsNextJob (job : Job) : Type 0 where
    pub is : received job
    pub next : job.serial ≡ next_count (serial_of old)
    pub counted : serial_of new ≡ job.serial

  -- It was pushed to the inbox of its session, and to no other.
  pub record HasPushed : Type 0 where
    pub job : Job
    pub made : IsNextJob job
    pub pushed : hands_of new ≡ with_job (session_for job (length inboxes)) job (hands_of old)

  -- It was handed back, as the inbox of its session was full, and is lost.
  pub record WasRefused : Type 0 where
    pub job : Job
    pub made : IsNextJob job
    pub kept : hands_of new ≡ hands_of old
    pub full : WasFull inboxes (session_for job (length inboxes)) (hands_of old)

-- nothing was pushed, and no job made
abbrev pub IsIdle : Dispatcher → Dispatcher → Type 0
IsIdle old new = (hands_of new ≡ hands_of old) × (serial_of new ≡ serial_of old)

-- What each answer tells, with the link and the count of the clock's faults before and after.
module _ (inboxes : List Inbox) (old new : Dispatcher) (link_old link_new : LinkState) (clock_old clock_new : ℕ) where
  abbrev pub TellsOf : Dispatched → Type 0
  TellsOf dispatched.Pushed = HasPushed inboxes (λ job. HasReceived link_old job link_new) old new
  TellsOf dispatched.Full = WasRefused inboxes (λ job. HasReceived link_old job link_new) old new
  TellsOf dispatched.Quiet = (link_new ≡ record link_old { turns = next_count link_old.turns }) × IsIdle old new
  TellsOf dispatched.Link = HasFailed link_old link_new × IsIdle old new
  TellsOf dispatched.Clock = HasHeardOne link_old link_new × Rose clock_old clock_new × IsIdle old new
  TellsOf dispatched.NoMemory = HasHeardOne link_old link_new × IsIdle old new

-- What comes of a datagram that was received.
module _ (inboxes : List Inbox) (received : Job → Type 0) (old new : Dispatcher) (clock_old clock_new : ℕ) where
  abbrev pub ComesOf : Dispatched → Type 0
  ComesOf dispatched.Pushed = HasPushed inboxes received old new
  ComesOf dispatched.Full = WasRefused inboxes received old new
  ComesOf dispatched.Quiet = ⊥
  ComesOf dispatched.Link = ⊥
  ComesOf dispatched.Clock = Rose clock_old clock_new × IsIdle old new
  ComesOf dispatched.NoMemory = IsIdle old new
