-- A gateway that takes a message, or doesn't, and what is told of that.
use Rattle.std.specs.Prelude.{◌≡◌, ℕ, ◌++◌, Bool, false, not, nat_le, if◌then◌else◌, List, [], ◌∷◌, map, filter, Option, Some, None}
use Rattle.gateway_answer.specs.Answer.{Decided, Says, Silent, decided, failure_answer}
use Rattle.gateway_book.specs.Comes.{asked_to_ready}
use Rattle.gateway_answer.specs.Preparing.{prepared_of}
use Rattle.gateway_book.specs.Up.{Sequel, GoesOn, Breaks, Stops, fortune_by}
use Rattle.gateway_answer.specs.Value.{Fortune, history_of, readied}
use Rattle.gtpp_message.specs.declared.reading.Why.{Why}
use Rattle.gw_base.specs.declared.history.HistoryEntry.{HistoryEntry}
use Rattle.once_core.specs.Answers.{answer_at, answered, delivered, failed, if_broken}
use Rattle.once_core.specs.Expired.{is_expired}
use Rattle.once_core.specs.Gateway.{Gateway, Moved, Rules, followed, readying}
use Rattle.once_core.specs.Messages.{answering}
use Rattle.once_core.specs.declared.message.Message.{Message}
use Rattle.once_core.specs.declared.message.Waiting.{Waiting}
use Rattle.replay_gateway.specs.Called.{firm_in}
use Rattle.replay_gateway.specs.Device.{asked_by_message, sequel_on}
use Rattle.replay_gateway.specs.Machine.{Machine}
use Rattle.replay_gateway.specs.Moves.{GoesAsArmed}
use Rattle.replay_gateway.specs.Setup.{Setup, rules_in}
use Rattle.replay_gateway.specs.declared.machine.Came.{Came}
use Rattle.replay_gateway.specs.declared.machine.Came.TheVariants.{Went, Failed, Stopped}
use Rattle.replay_gateway.specs.declared.machine.Machine as real
use Rattle.replay_gateway.specs.declared.machine.Sent.{Sent}
use Rattle.replay_gateway.specs.declared.taking.Delivery.{Delivery}
use Rattle.replay_gateway.specs.declared.taking.Ending.{Ending}
use Rattle.replay_gateway.specs.declared.taking.Ending.TheVariants as ending

-- What is told of a message that comes: that the gateway is down, that the message is expired, that it was dropped, or
-- nothing.

abbrev pub decided_ending : Decided → Ending
decided_ending (Silent why) = ending.Dropped why
decided_ending (Says octets act) = ending.Quiet

abbrev pub answer_ending : Rules → List HistoryEntry → Message → Ending
answer_ending rules h message =
    if is_expired h message then ending.Expired else decided_ending (answer_at rules h message)

-- of a gateway that broke in the delivery; of one that was broken already nothing more
abbrev pub failure_ending : Gateway → Message → Ending
failure_ending g message =
    if g.book.is_broken then ending.Quiet
    else decided_ending (decided (failure_answer (prepared_of message.octets)))

abbrev pub ending_by : Rules → Gateway → Bool → Message → Sequel → Ending
ending_by rules g at_last message (GoesOn armed) =
    answer_ending rules (history_of (readied (fortune_by at_last (GoesOn armed)) g.book)) message
ending_by rules g at_last message (Breaks last) = failure_ending g message
ending_by rules g at_last message (Stops stands) = ending.Quiet

-- the gateway is down, or its area was asked, of which this came
abbrev pub ending_at : Rules → Gateway → Bool → Message → Sequel → Ending
ending_at rules g at_last message sequel =
    if g.is_down then ending.Down else ending_by rules g at_last message sequel

-- What a gateway does.

-- with a message that isn't expired, where its journal isn't broken
abbrev pub taking : Rules → ℕ → Message → Fortune → Gateway → Moved
taking rules now message f g = followed (readying rules f g) (if_broken (failed message) (answered rules now message))

module _ (setup : Setup) (place : ℕ) (g : Gateway) (m : Machine) where
  -- The gateway isn't broken and took a message at this moment.
  pub record IsTaken (now : ℕ) (message : Message) (delivery : Delivery) (r : real.Machine) : Type 0 where
    pub goes : GoesAsArmed setup place (asked_to_ready g.book) (taking (rules_in setup) now message) g m delivery.sent r
    pub told : is_expired (history_of g.book) message ≡ false → delivery.ending
        ≡ ending_at (rules_in setup) g m.at_last message (sequel_on m (asked_to_ready g.book))

  -- The same behind messages that were sent before.
  pub record HasMore (now : ℕ) (message : Message) (first : List Message) (delivery : Delivery) (r : real.Machine)
      : Type 0 where
    pub later : Delivery
    pub taken : IsTaken now message later r
    pub came : delivery.sent.came ≡ later.sent.came
    pub messages : delivery.sent.messages.items ≡ first ++ later.sent.messages.items
    pub ending : delivery.ending ≡ later.ending

  -- A message came to the gateway at this moment.
  pub record IsDelivered (now : ℕ) (message : Message) (delivery : Delivery) (r : real.Machine) : Type 0 where
    pub goes : GoesAsArmed setup place (asked_by_message g message)
        (λ f. delivered (rules_in setup) now f message) g m delivery.sent r
    pub told : delivery.ending
        ≡ ending_at (rules_in setup) g m.at_last message (sequel_on m (asked_by_message g message))

-- what is told of a message that a gateway doesn't take which has opened its journal again: one that is down or broken
-- then tells nothing
abbrev pub met_by : Gateway → Message → Option Ending
met_by g message =
    if g.is_down then Some ending.Quiet
    else if g.book.is_broken then Some ending.Quiet
    else if is_expired (history_of g.book) message then Some ending.Expired
    else None

-- what is told of a message that was dropped, unless the area stopped the gateway
abbrev pub dropped_as : Came → Why → Ending
dropped_as Went why = ending.Dropped why
dropped_as Failed why = ending.Dropped why
dropped_as Stopped why = ending.Quiet

-- Nothing comes of a message but that this is told.
pub record IsQuiet (ends : Ending) (delivery : Delivery) : Type 0 where
  pub came : delivery.sent.came ≡ Went
  pub none : delivery.sent.messages.items ≡ []
  pub told : delivery.ending ≡ ends

-- An answer was added to the messages of a gateway that took a message: of one that went on it waits for this front,
-- and those that are due are sent; one that broke sends it; and one that was stopped sends nothing more.

abbrev pub waits_then : Message → List ℕ → ℕ → real.Machine → List Waiting
waits_then m reply front r = r.waiting.items ++ record { front = front; message = answering m reply } ∷ []

abbrev pub IsAnswered : Came → Message → List ℕ → ℕ → List Message → real.Machine → List Message → real.Machine → Type 0
IsAnswered Went m reply front first old messages new =
    (messages ≡ first
    ++ map (λ w. w.message) (filter (λ w. nat_le w.front (firm_in old.site)) (waits_then m reply front old)))
    × (new.waiting.items ≡ filter (λ w. not (nat_le w.front (firm_in old.site))) (waits_then m reply front old))
    × (new ≡ record old { waiting = new.waiting })
IsAnswered Failed m reply front first old messages new = (messages ≡ first ++ answering m reply ∷ []) × (new ≡ old)
IsAnswered Stopped m reply front first old messages new = (messages ≡ first) × (new ≡ old)

pub record HasAnswered (m : Message) (reply : List ℕ) (front : ℕ) (sent : Sent) (old : real.Machine)
    (delivery : Delivery) (new : real.Machine) : Type 0 where
  pub came : delivery.sent.came ≡ sent.came
  pub quiet : delivery.ending ≡ ending.Quiet
  pub done : IsAnswered sent.came m reply front sent.messages.items old delivery.sent.messages.items new
