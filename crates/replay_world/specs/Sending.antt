-- Messages that a replay sends: they are printed, and wait. What its parts stand for between two steps, and what
-- follows a write.
use Rattle.std.specs.Prelude.{◌≡◌, ◌-◌, ℕ, suc, ◌≤◌, Bool, true, false, All, List, [], ◌∷◌, ◌++◌, length, map, Some, slice_get, if◌then◌else◌}
use Rattle.std.specs.List.{enumerate_from}
use Rattle.once_core.specs.declared.event.Event.TheVariants as event
use Rattle.once_core.specs.declared.message.Message.{Message}
use Rattle.replay_world.specs.Notices.{Notice, Faulted, ShelfFaulted, Stopped, notice_lines}
use Rattle.replay_world.specs.Steps.{Step, Plays, Tells, without}
use Rattle.replay_world.specs.Telling.{ending_notices, sent_notices}
use Rattle.replay_world.specs.Value.{ReplayValue}
use Rattle.replay_gateway.specs.declared.files.Wrote.{Wrote}
use Rattle.replay_gateway.specs.declared.files.Wrote.TheVariants as wrote
use Rattle.replay_gateway.specs.declared.machine.Came.{Came}
use Rattle.replay_gateway.specs.declared.machine.Came.TheVariants as came
use Rattle.replay_world.specs.declared.replay.Replay.{Replay}
use Rattle.replay_gateway.specs.declared.taking.Delivery.{Delivery}

-- messages with their numbers, where so many were sent before
abbrev pub numbered_from : ℕ → List Message → List (ℕ × Message)
numbered_from count messages = enumerate_from (suc count) messages

-- These messages were sent, and nothing else was done.
pub record HasSent (sends : List Message) (before after : List ℕ) (old new : Replay) : Type 0 where
  pub rest : new ≡ record old { messages = new.messages; waiting = new.waiting }
  pub messages : new.messages.items ≡ old.messages.items ++ sends
  pub waits : All (λ number. number ≤ length old.messages.items) old.waiting.keys →
      new.waiting.keys ≡ old.waiting.keys
      ++ map (λ (s : ℕ × Message). s.0) (numbered_from (length old.messages.items) sends)
  pub prints : after ≡ before ++ notice_lines (sent_notices (numbered_from (length old.messages.items) sends))

-- the replay where a message waits no more
abbrev pub passed : ℕ → ReplayValue → ReplayValue
passed number v = record v { waiting = without number v.waiting }

-- the place of a message's receiver
abbrev pub receiver : Message → ℕ
receiver m = if m.to_gateway then m.gateway else m.node

-- a message with this number goes to a gateway, or else to a node, in this place
pub record IsTo (v : ReplayValue) (number : ℕ) (to_gateway : Bool) (place : ℕ) : Type 0 where
  pub message : Message
  pub sent : slice_get v.world.messages (number - 1) ≡ Some message
  pub numbered : 1 ≤ number
  pub side : message.to_gateway ≡ to_gateway
  pub at : receiver message ≡ place

-- what is printed of what the area did, and whether the line goes on then
abbrev pub came_notices : ℕ → Came → List Notice
came_notices place came.Went = []
came_notices place came.Failed = Faulted place ∷ []
came_notices place came.Stopped = Stopped place ∷ []

abbrev pub goes_on_after : Came → Bool
goes_on_after came.Went = true
goes_on_after came.Failed = true
goes_on_after came.Stopped = false

-- What a message made of a gateway was sent and printed: what the area did, the messages, and what is told of the one
-- that came.
pub record SendsDelivered (place number : ℕ) (delivery : Delivery) (before after : List ℕ) (old new : Replay)
    (on : Bool) : Type 0 where
  pub middle : List ℕ
  pub sent : HasSent delivery.sent.messages.items (before ++ notice_lines (came_notices place delivery.sent.came))
      middle old new
  pub told : after ≡ middle ++ notice_lines (ending_notices number delivery.ending)
  pub goes : on ≡ goes_on_after delivery.sent.came

-- what follows a write of the files of the gateway with this number, by what is seen of it
abbrev pub steps_behind : ℕ → Wrote → List Step
steps_behind gateway wrote.All = []
steps_behind gateway wrote.Failed = Tells (ShelfFaulted (gateway - 1)) ∷ []
steps_behind gateway wrote.Stopped = Tells (Stopped (gateway - 1)) ∷ Plays (event.Cut gateway 0) ∷ []
