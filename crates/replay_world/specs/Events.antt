-- Which gateway an event of a replay is at, what it asks of its area, and the turn of the world that it is then.
use Rattle.std.specs.Prelude.{ℕ, ◌+◌, ◌-◌, Bool, false, if◌then◌else◌, Option, Some, None, option_and_then, slice_get}
use Rattle.std.specs.Option.{option_map_or}
use Rattle.gateway_book.specs.Comes.{Asked, AsksNothing, asked_to_commit, asked_to_ready}
use Rattle.gateway_book.specs.Up.{Sequel, GoesOn, Breaks, Stops, fortune_by}
use Rattle.once_core.specs.Gateway.{Gateway}
use Rattle.once_core.specs.Turn.{Turn}
use Rattle.once_core.specs.World.{World}
use Rattle.once_core.specs.declared.event.Event.{Event}
use Rattle.once_core.specs.declared.event.Event.TheVariants as event
use Rattle.once_core.specs.declared.message.Message.{Message}
use Rattle.replay_gateway.specs.Device.{asked_by_message, entries_kept}
use Rattle.replay_gateway.specs.declared.calls.GatewayCall.{GatewayCall}
use Rattle.replay_gateway.specs.declared.calls.GatewayCall.TheVariants as call

-- Where an event happens.

-- the message with this number, from 1
abbrev pub message_numbered : World → ℕ → Option Message
message_numbered w number = slice_get w.messages (number - 1)

abbrev pub receiving_gateway : Message → Option ℕ
receiving_gateway m = if m.to_gateway then Some m.gateway else None

-- the place of the gateway that the event may ask to commit, or to open its journal again
abbrev pub place_asked : World → Event → Option ℕ
place_asked w (event.Deliver message) = option_and_then receiving_gateway (message_numbered w message)
place_asked w (event.Commit gateway) = Some (gateway - 1)
place_asked w (event.Mark gateway) = Some (gateway - 1)
place_asked w (event.Close gateway) = Some (gateway - 1)
place_asked w _ = None

-- What it asks of the area.

abbrev pub asked_of : World → Gateway → Event → Asked
asked_of w g (event.Deliver message) = option_map_or (asked_by_message g) (message_numbered w message) AsksNothing
asked_of w g (event.Commit gateway) = asked_to_commit g.book
asked_of w g (event.Mark gateway) = asked_to_ready g.book
asked_of w g (event.Close gateway) = asked_to_ready g.book
asked_of w g _ = AsksNothing

-- What is asked of the book of the gateway with this number is this event.
abbrev pub event_asked : GatewayCall → ℕ → Event
event_asked call.Commit gateway = event.Commit gateway
event_asked call.Mark gateway = event.Mark gateway
event_asked call.Close gateway = event.Close gateway

-- The turn that the event is, by what comes of it: one that a stop comes in is a cut, which leaves the entries behind
-- the firm ones or doesn't.
abbrev pub turn_with : Gateway → ℕ → Event → Bool → Sequel → Turn
turn_with g place e at_last (GoesOn armed) =
    record { event = e; fortune = fortune_by at_last (GoesOn armed); is_lost = false; held = None }
turn_with g place e at_last (Breaks last) =
    record { event = e; fortune = fortune_by at_last (Breaks last); is_lost = false; held = None }
turn_with g place e at_last (Stops stands) = record {
  event = event.Cut (place + 1) (entries_kept stands g);
  fortune = fortune_by at_last (Stops stands);
  is_lost = false;
  held = None;
}
