-- The steps that the lines of a replay are made of: events of the world, and what changes the machines and the waiting
-- messages alone.
use Rattle.std.specs.Prelude.{ℕ, suc, ◌-◌, ◌==◌, not, Bool, false, List, [], ◌∷◌, ◌++◌, length, map, drop, filter, Option, Some, None, slice_get, slice_set}
use Rattle.std.specs.List.{enumerate_from}
use Rattle.std.specs.Option.{option_map_or}
use Rattle.area_disk.specs.Armed.{Armed}
use Rattle.gw_base.specs.declared.item.Item.{Item}
use Rattle.gateway_answer.specs.Items.{items_of}
use Rattle.gateway_book.specs.Up.{Sequel}
use Rattle.once_core.specs.Gateway.{Gateway}
use Rattle.once_core.specs.Turn.{Turn, calm, turns}
use Rattle.once_core.specs.World.{World}
use Rattle.once_core.specs.declared.event.Event.{Event}
use Rattle.once_core.specs.declared.event.Event.TheVariants as event
use Rattle.once_core.specs.declared.message.Message.{Message}
use Rattle.replay_world.specs.Events.{asked_of, place_asked, turn_with}
use Rattle.replay_gateway.specs.Device.{is_stop, machine_after, sequel_on}
use Rattle.replay_gateway.specs.Filing.{filing_then}
use Rattle.replay_world.specs.Notices.{Notice}
use Rattle.replay_gateway.specs.Setup.{files_in, rules_in}
use Rattle.replay_gateway.specs.Machine.{Machine, disarmed, shelf_armed, unarmed}
use Rattle.replay_world.specs.Value.{ReplayValue}

-- An event; a waiting message that is lost; what is armed for a gateway's area from now on, or for its shelf, or that
-- nothing is armed for either; files that are written of a gateway's firm entries; or something that is only told.
-- Gateways are places, but in events.
pub data Step : Type 0 where
  Plays : Event → Step
  Loses : (message : ℕ) → Step
  Arms : (gateway : ℕ) → Armed → Step
  ArmsShelf : (gateway : ℕ) → Armed → Step
  Disarms : (gateway : ℕ) → Step
  Writes : (gateway : ℕ) → Step
  Tells : Notice → Step

-- the gateway in a place, and what it runs on
pub record Site : Type 0 where
  pub place : ℕ
  pub gateway : Gateway
  pub machine : Machine

abbrev pub site_with : ℕ → Option Gateway → Option Machine → Option Site
site_with place None machine = None
site_with place (Some g) None = None
site_with place (Some g) (Some m) = Some (record { place = place; gateway = g; machine = m })

abbrev pub site_in : ReplayValue → ℕ → Option Site
site_in v place = site_with place (slice_get v.world.gateways place) (slice_get v.machines place)

-- the site whose area an event may need
abbrev pub site_of : ReplayValue → Event → Option Site
site_of v e = option_map_or (site_in v) (place_asked v.world e) None

-- What the device makes of an event.

abbrev pub sequel_at : ReplayValue → Event → Site → Sequel
sequel_at v e site = sequel_on site.machine (asked_of v.world site.gateway e)

abbrev pub turn_at : ReplayValue → Event → Site → Turn
turn_at v e site = turn_with site.gateway site.place e site.machine.at_last (sequel_at v e site)

-- the turn that an event is
abbrev pub turn_of : ReplayValue → Event → Turn
turn_of v e = option_map_or (turn_at v e) (site_of v e) (calm e)

-- the area stops the gateway in the event
abbrev pub is_stopped_in : ReplayValue → Event → Bool
is_stopped_in v e = option_map_or (λ site. is_stop (sequel_at v e site)) (site_of v e) false

-- What a step makes of the world.

abbrev pub step_turns : ReplayValue → Step → List Turn
step_turns v (Plays e) = turn_of v e ∷ []
step_turns v _ = []

abbrev pub world_after : ReplayValue → Step → World
world_after v step = turns (rules_in v.setup) v.world (step_turns v step)

-- the messages that it sends, with their numbers
abbrev pub sent_by : ReplayValue → Step → List (ℕ × Message)
sent_by v step =
    enumerate_from (suc (length v.world.messages)) (drop (length v.world.messages) (world_after v step).messages)

-- What it makes of the machines.

abbrev pub with_machine : ReplayValue → ℕ → (Machine → Machine) → List Machine
with_machine v place change =
    option_map_or (λ machine. slice_set v.machines place (change machine)) (slice_get v.machines place) v.machines

abbrev pub machines_at : ReplayValue → Event → Site → List Machine
machines_at v e site = with_machine v site.place (machine_after (asked_of v.world site.gateway e))

-- a gateway that stops between two calls is disarmed
abbrev pub machines_in : ReplayValue → Event → List Machine
machines_in v (event.Cut gateway keep) = with_machine v (gateway - 1) disarmed
machines_in v e = option_map_or (machines_at v e) (site_of v e) v.machines

-- the items that the firm entries of a gateway make
abbrev pub items_firm : ReplayValue → ℕ → List Item
items_firm v place = option_map_or (λ (g : Gateway). items_of g.book.firm) (slice_get v.world.gateways place) []

-- its files are written, as is armed for its shelf
abbrev pub files_written : ReplayValue → ℕ → Machine → Machine
files_written v place m = record m { filing = filing_then (files_in v.setup place) (items_firm v place) m.filing }

abbrev pub machines_after : ReplayValue → Step → List Machine
machines_after v (Plays e) = machines_in v e
machines_after v (Loses message) = v.machines
machines_after v (Arms place armed) = with_machine v place (λ m. record m { armed = armed })
machines_after v (ArmsShelf place armed) = with_machine v place (shelf_armed armed)
machines_after v (Disarms place) = with_machine v place unarmed
machines_after v (Writes place) = with_machine v place (files_written v place)
machines_after v (Tells notice) = v.machines

-- What it makes of the waiting messages: one that is delivered, or lost, waits no more, and those that are sent do.

abbrev pub without : ℕ → List ℕ → List ℕ
without number numbers = filter (λ n. not (n == number)) numbers

abbrev pub waiting_in : List ℕ → Event → List ℕ
waiting_in waiting (event.Deliver message) = without message waiting
waiting_in waiting _ = waiting

abbrev pub waiting_left : List ℕ → Step → List ℕ
waiting_left waiting (Plays e) = waiting_in waiting e
waiting_left waiting (Loses message) = without message waiting
waiting_left waiting _ = waiting

abbrev pub waiting_after : ReplayValue → Step → List ℕ
waiting_after v step = waiting_left v.waiting step ++ map (λ (sent : ℕ × Message). sent.0) (sent_by v step)

-- the replay after a step
abbrev pub after_step : ReplayValue → Step → ReplayValue
after_step v step = record {
  setup = v.setup;
  world = world_after v step;
  machines = machines_after v step;
  waiting = waiting_after v step;
}

-- the line ends with the step
abbrev pub ends_line : ReplayValue → Step → Bool
ends_line v (Plays e) = is_stopped_in v e
ends_line v _ = false
