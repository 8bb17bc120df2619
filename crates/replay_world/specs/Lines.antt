-- What a line of a replay is: whether the world allows it, its steps, and what they come to.
use Rattle.std.specs.Prelude.{ℕ, ◌-◌, ◌%◌, ◌==◌, if◌then◌else◌, List, [], ◌∷◌, ◌++◌, length, map, Option, None, Result, Ok, Err, slice_get}
use Rattle.std.specs.List.{flat_map, range_with_len}
use Rattle.std.specs.Option.{option_map_or}
use Rattle.area_disk.specs.Armed.{Came}
use Rattle.area_disk.specs.Armed.Armed.{Fail, Stop}
use Rattle.area_disk.specs.Armed.Came.{Ran, FailedAt, StoppedAt}
use Rattle.area_disk.specs.declared.plan.Outcome3.{Outcome3}
use Rattle.area_disk.specs.declared.plan.Outcome3.TheVariants.{Old, New, Rot}
use Rattle.gtpp_message.specs.Packet.{PacketForm}
use Rattle.node_core.specs.Drafts.{value_octets}
use Rattle.node_core.specs.declared.fault.DraftFault.{DraftFault}
use Rattle.once_core.specs.Turn.{Turn, is_down_in, no_running_gateway, refusal_of}
use Rattle.once_core.specs.declared.event.Event.TheVariants as event
use Rattle.once_core.specs.declared.event.WorldKind.{WorldKind}
use Rattle.rand_pcg.specs.Lcg.{Lcg}
use Rattle.rand_pcg.specs.Pcg.{pcg32}
use Rattle.replay_gateway.specs.Filing.{shelf_came}
use Rattle.replay_gateway.specs.Setup.{files_in}
use Rattle.replay_world.specs.Notices.{Notice, Refused, ShelfFaulted, Stopped, draft_fault_name}
use Rattle.replay_world.specs.Packets.{drafted}
use Rattle.replay_world.specs.Steps.{Step, Plays, Loses, Arms, ArmsShelf, Disarms, Writes, Tells, after_step, ends_line, items_firm, step_turns}
use Rattle.replay_world.specs.Telling.{step_notices}
use Rattle.replay_gateway.specs.Machine.{Machine}
use Rattle.replay_world.specs.Value.{ReplayValue}
use Rattle.world_script.specs.Sample.{seeded}
use Rattle.world_script.specs.declared.line.Line.{Line}
use Rattle.world_script.specs.declared.line.Line.TheVariants as line
use Rattle.world_script.specs.declared.mode.Mode.{Mode}
use Rattle.world_script.specs.declared.mode.Mode.TheVariants as mode

-- Why the world refuses a line, by the first reason that holds.
abbrev pub refusal_of_line : ReplayValue → Line → Option WorldKind
refusal_of_line v (line.At moment) = refusal_of v.world (event.Moment moment)
refusal_of_line v (line.Mark gateway) = refusal_of v.world (event.Mark gateway)
refusal_of_line v (line.Close gateway) = refusal_of v.world (event.Close gateway)
refusal_of_line v (line.Submit node format version records) = refusal_of v.world (event.Submit node [])
refusal_of_line v (line.Tick node) = refusal_of v.world (event.Tick node)
refusal_of_line v (line.Halt node) = refusal_of v.world (event.Halt node)
refusal_of_line v (line.Start node) = refusal_of v.world (event.Start node)
refusal_of_line v (line.Deliver message) = refusal_of v.world (event.Deliver message)
refusal_of_line v (line.Commit gateway) = refusal_of v.world (event.Commit gateway)
refusal_of_line v (line.Write gateway) = no_running_gateway v.world gateway
refusal_of_line v (line.Redirect gateway cause to) = refusal_of v.world (event.Redirect gateway cause to)
refusal_of_line v (line.Stop gateway) = refusal_of v.world (event.Cut gateway 0)
refusal_of_line v (line.Open gateway) = refusal_of v.world (event.Open gateway)
refusal_of_line v (line.Arm gateway call mode) = no_running_gateway v.world gateway
refusal_of_line v (line.Fail gateway call) = no_running_gateway v.world gateway
refusal_of_line v (line.ArmShelf gateway call mode) = no_running_gateway v.world gateway
refusal_of_line v (line.FailShelf gateway call) = no_running_gateway v.world gateway
refusal_of_line v _ = None

-- The steps of a line.

-- a packet that is no draft is refused by the reason of its first record that isn't taken
abbrev pub submit_steps : ℕ → Result PacketForm DraftFault → List Step
submit_steps node (Ok form) = Plays (event.Submit node (value_octets form)) ∷ []
submit_steps node (Err fault) = Tells (Refused (draft_fault_name fault)) ∷ []

abbrev pub delivers : ℕ → Step
delivers message = Plays (event.Deliver message)

-- a waiting message is lost, comes twice, waits on or comes, by its word
abbrev pub lot_steps : ℕ → ℕ → List Step
lot_steps lot message =
    if lot == 0 then Loses message ∷ []
    else if lot == 1 then delivers message ∷ delivers message ∷ []
    else if lot == 2 then []
    else delivers message ∷ []

-- each waiting message has a word of the generator, in their order
abbrev pub mixed_steps : Lcg → List ℕ → List Step
mixed_steps g [] = []
mixed_steps g (message ∷ later) = lot_steps ((pcg32 g).0 % 8) message ++ mixed_steps (pcg32 g).1 later

abbrev pub outcome_in : Mode → Outcome3
outcome_in mode.Old = Old
outcome_in mode.New = New
outcome_in mode.Rot = Rot

-- What follows a write whose shelf failed or stopped is told; and a stop of the shelf stops the gateway, which keeps
-- what is firm.
abbrev pub came_steps : ℕ → Came → List Step
came_steps gateway (Ran armed) = []
came_steps gateway (FailedAt call) = Tells (ShelfFaulted (gateway - 1)) ∷ []
came_steps gateway (StoppedAt call outcome) = Tells (Stopped (gateway - 1)) ∷ Plays (event.Cut gateway 0) ∷ []

-- what comes of the calls of its shelf
abbrev pub came_of_write : ReplayValue → ℕ → Machine → Came
came_of_write v place m = shelf_came (files_in v.setup place) (items_firm v place) m.filing

abbrev pub write_steps : ReplayValue → ℕ → List Step
write_steps v gateway =
    Writes (gateway - 1)
    ∷ option_map_or (λ m. came_steps gateway (came_of_write v (gateway - 1) m)) (slice_get v.machines (gateway - 1)) []

-- a gateway is opened where it is stopped; it commits, closes its files, commits again, and its files are written
abbrev pub settling_steps : ReplayValue → ℕ → List Step
settling_steps v gateway =
    (if is_down_in v.world gateway then Plays (event.Open gateway) ∷ [] else [])
    ++ Plays (event.Commit gateway) ∷ Plays (event.Close gateway) ∷ Plays (event.Commit gateway)
    ∷ Writes (gateway - 1) ∷ []

-- nothing is armed any more, and then each gateway settles
abbrev pub settle_steps : ReplayValue → List Step
settle_steps v =
    let gateways = range_with_len 1 (length v.world.gateways) in
    map (λ gateway. Disarms (gateway - 1)) gateways ++ flat_map (settling_steps v) gateways

-- of a setting, and of a line that no replay has, there are none
abbrev pub steps_of : ReplayValue → Line → List Step
steps_of v (line.At moment) = Plays (event.Moment moment) ∷ []
steps_of v (line.Mark gateway) = Plays (event.Mark gateway) ∷ []
steps_of v (line.Close gateway) = Plays (event.Close gateway) ∷ []
steps_of v (line.Submit node format version records) = submit_steps node (drafted format version records)
steps_of v (line.Tick node) = Plays (event.Tick node) ∷ []
steps_of v (line.Halt node) = Plays (event.Halt node) ∷ []
steps_of v (line.Start node) = Plays (event.Start node) ∷ []
steps_of v (line.Deliver message) = delivers message ∷ []
steps_of v line.Flow = map delivers v.waiting
steps_of v (line.Mix seed) = mixed_steps (seeded seed) v.waiting
steps_of v (line.Commit gateway) = Plays (event.Commit gateway) ∷ []
steps_of v (line.Write gateway) = write_steps v gateway
steps_of v (line.Redirect gateway cause to) = Plays (event.Redirect gateway cause to) ∷ []
steps_of v (line.Stop gateway) = Plays (event.Cut gateway 0) ∷ []
steps_of v (line.Open gateway) = Plays (event.Open gateway) ∷ []
steps_of v (line.Arm gateway call mode) = Arms (gateway - 1) (Stop (call - 1) (outcome_in mode)) ∷ []
steps_of v (line.Fail gateway call) = Arms (gateway - 1) (Fail (call - 1)) ∷ []
steps_of v (line.ArmShelf gateway call mode) = ArmsShelf (gateway - 1) (Stop (call - 1) (outcome_in mode)) ∷ []
steps_of v (line.FailShelf gateway call) = ArmsShelf (gateway - 1) (Fail (call - 1)) ∷ []
steps_of v line.Settle = settle_steps v
steps_of v line.End = settle_steps v
steps_of v _ = []

-- What steps come to: a stop ends them.

abbrev pub turns_by : ReplayValue → List Step → List Turn
turns_by v [] = []
turns_by v (step ∷ later) =
    step_turns v step ++ (if ends_line v step then [] else turns_by (after_step v step) later)

abbrev pub after_steps : ReplayValue → List Step → ReplayValue
after_steps v [] = v
after_steps v (step ∷ later) = if ends_line v step then after_step v step else after_steps (after_step v step) later

abbrev pub notices_of : ReplayValue → List Step → List Notice
notices_of v [] = []
notices_of v (step ∷ later) =
    step_notices v step ++ (if ends_line v step then [] else notices_of (after_step v step) later)

-- The line: the turns of the world that it is, the replay after it, and what is told of it.

abbrev pub turns_of : ReplayValue → Line → List Turn
turns_of v said = turns_by v (steps_of v said)

abbrev pub line_after : ReplayValue → Line → ReplayValue
line_after v said = after_steps v (steps_of v said)

abbrev pub line_notices : ReplayValue → Line → List Notice
line_notices v said = notices_of v (steps_of v said)

-- the same of settling alone
abbrev pub settled : ReplayValue → ReplayValue
settled v = after_steps v (settle_steps v)
