-- What is armed for the calls of a gateway's area decides what comes of what is asked of it.
use Rattle.std.specs.Prelude.{ℕ, not, ◌&&◌, Bool, true, false, if◌then◌else◌, ◌++◌, length}
use Rattle.area_disk.specs.Armed.Armed.{Nothing}
use Rattle.gateway_book.specs.Comes.{Asked, AsksCommit, AsksNothing, AsksReopening, asked_to_ready}
use Rattle.gateway_book.specs.Up.{Sequel, GoesOn, Breaks, Stops, sequel_of}
use Rattle.gateway_answer.specs.Value.{history_of}
use Rattle.once_core.specs.Expired.{is_expired}
use Rattle.once_core.specs.Gateway.{Gateway}
use Rattle.once_core.specs.declared.message.Message.{Message}
use Rattle.replay_gateway.specs.Machine.{Machine, disarmed}

-- What a message that comes asks of the area: nothing, where it isn't delivered; a broken gateway opens its journal
-- again before it is asked whether the message is expired.
abbrev pub asked_by_message : Gateway → Message → Asked
asked_by_message g m =
    if g.is_down then AsksNothing
    else if not g.book.is_broken && is_expired (history_of g.book) m then AsksNothing
    else asked_to_ready g.book

-- What comes of it.

abbrev pub sequel_on : Machine → Asked → Sequel
sequel_on m asked = sequel_of asked m.armed m.at_last

-- a stop leaves the entries behind the firm ones or doesn't
abbrev pub entries_kept : Bool → Gateway → ℕ
entries_kept stands g = if stands then length (g.book.firm ++ g.book.rest) else 0

-- What the gateway runs on then: a failure leaves nothing armed for the area, and a stop nothing at all.

abbrev pub machine_with : Machine → Sequel → Machine
machine_with m (GoesOn armed) = record m { armed = armed; at_last = false }
machine_with m (Breaks last) = record m { armed = Nothing; at_last = last }
machine_with m (Stops stands) = disarmed m

-- where nothing was asked it is as before
abbrev pub machine_after : Asked → Machine → Machine
machine_after AsksNothing m = m
machine_after AsksCommit m = machine_with m (sequel_on m AsksCommit)
machine_after AsksReopening m = machine_with m (sequel_on m AsksReopening)

abbrev pub is_stop : Sequel → Bool
is_stop (GoesOn armed) = false
is_stop (Breaks last) = false
is_stop (Stops stands) = true
