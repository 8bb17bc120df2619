-- What is told of each step of a line.
use Rattle.std.specs.Prelude.{ℕ, suc, ◌-◌, nat_lt, not, if◌then◌else◌, List, [], ◌∷◌, ◌++◌, length, map, Option, Some, None}
use Rattle.std.specs.Option.{option_map_or}
use Rattle.gateway_book.specs.Up.{Sequel, GoesOn, Breaks, Stops}
use Rattle.gtpp_message.specs.Packet.{PacketForm}
use Rattle.gtpp_message.specs.declared.reading.Why.{Why}
use Rattle.gw_base.specs.declared.packet.PacketId.{PacketId}
use Rattle.node_core.specs.Hearing.{heeds}
use Rattle.node_core.specs.Reached.{most_submissions}
use Rattle.node_core.specs.Submitting.{refusal}
use Rattle.node_core.specs.Value.{NodeValue}
use Rattle.node_core.specs.declared.fault.SubmitFault.{SubmitFault}
use Rattle.node_core.specs.declared.message.Heeded.{Heeded}
use Rattle.once_core.specs.Addresses.{gateway_address}
use Rattle.once_core.specs.Expired.{is_expired_at_node}
use Rattle.once_core.specs.World.{draft_of, log_at, node_value}
use Rattle.once_core.specs.declared.event.Event.{Event}
use Rattle.once_core.specs.declared.event.Event.TheVariants as event
use Rattle.once_core.specs.declared.message.Message.{Message}
use Rattle.replay_world.specs.Events.{message_numbered}
use Rattle.replay_world.specs.Notices.{Notice, Sent, Took, Refused, Resolved, Finished, Expired, Down, Dropped, Faulted, Stopped, submit_fault_name}
use Rattle.replay_gateway.specs.Setup.{rules_in}
use Rattle.replay_world.specs.Steps.{Site, Step, Plays, Tells, sent_by, sequel_at, site_of}
use Rattle.replay_gateway.specs.Taking.{ending_at}
use Rattle.replay_world.specs.Value.{ReplayValue}
use Rattle.replay_gateway.specs.declared.taking.Ending.{Ending}
use Rattle.replay_gateway.specs.declared.taking.Ending.TheVariants as ending

-- First, what the device did.

abbrev pub device_notices : ℕ → Sequel → List Notice
device_notices place (GoesOn armed) = []
device_notices place (Breaks last) = Faulted place ∷ []
device_notices place (Stops stands) = Stopped place ∷ []

abbrev pub notices_first : ReplayValue → Event → List Notice
notices_first v e = option_map_or (λ (site : Site). device_notices site.place (sequel_at v e site)) (site_of v e) []

-- Then the messages that are sent; and last, what became of a message or a packet.

-- At a gateway: that it is down, that the message is expired, or that it is dropped.

abbrev pub ending_notices : ℕ → Ending → List Notice
ending_notices number ending.Quiet = []
ending_notices number ending.Down = Down number ∷ []
ending_notices number ending.Expired = Expired number ∷ []
ending_notices number (ending.Dropped why) = Dropped number why ∷ []

abbrev pub delivery_notices : ReplayValue → ℕ → Message → Site → List Notice
delivery_notices v number m site =
    ending_notices number (ending_at (rules_in v.setup) site.gateway site.machine.at_last m
    (sequel_at v (event.Deliver number) site))

-- At a node: that it is halted, that the message is expired, that it is dropped, or which packets became resolved and
-- done.

abbrev pub drop_notices : ℕ → Option Why → List Notice
drop_notices number why = option_map_or (λ why. Dropped number why ∷ []) why []

abbrev pub packet_notices : (ℕ → Notice) → Option PacketId → List Notice
packet_notices told packet = option_map_or (λ (id : PacketId). told id.number ∷ []) packet []

abbrev pub heeded_notices : ℕ → ℕ → Heeded → List Notice
heeded_notices node number heeded =
    drop_notices number heeded.drop
    ++ (packet_notices (Resolved node) heeded.resolved ++ packet_notices (Finished node) heeded.done)

abbrev pub hearing_notices : ReplayValue → ℕ → Message → List Notice
hearing_notices v number m =
    let log = log_at v.world m.node in
    let node = node_value (length v.world.gateways) m.node log in
    if not node.is_running then Down number ∷ []
    else if is_expired_at_node log node m then Expired number ∷ []
    else heeded_notices m.node number (heeds node m.port (gateway_address m.gateway) m.octets)

abbrev pub message_notices : ReplayValue → ℕ → Message → List Notice
message_notices v number m =
    if m.to_gateway then option_map_or (delivery_notices v number m) (site_of v (event.Deliver number)) []
    else hearing_notices v number m

-- A packet that is submitted. Past the most packets of a node none is taken, and nothing is told.

abbrev pub submitted_notice : ℕ → NodeValue → Option SubmitFault → Notice
submitted_notice node value None = Took node (suc value.submissions)
submitted_notice node value (Some fault) = Refused (submit_fault_name fault)

abbrev pub submitted_notices : ℕ → NodeValue → Option SubmitFault → List Notice
submitted_notices node value fault =
    if nat_lt value.submissions most_submissions then submitted_notice node value fault ∷ [] else []

abbrev pub submit_notices : ReplayValue → ℕ → Option PacketForm → List Notice
submit_notices v node None = []
submit_notices v node (Some form) =
    let value = node_value (length v.world.gateways) node (log_at v.world node) in
    submitted_notices node value (refusal value form)

abbrev pub notices_last : ReplayValue → Event → List Notice
notices_last v (event.Deliver number) = option_map_or (message_notices v number) (message_numbered v.world number) []
notices_last v (event.Submit node packet) = submit_notices v (node - 1) (draft_of packet)
notices_last v _ = []

-- All that is told of a step.

abbrev pub sent_notices : List (ℕ × Message) → List Notice
sent_notices sent = map (λ (s : ℕ × Message). Sent s.0 s.1) sent

abbrev pub step_notices : ReplayValue → Step → List Notice
step_notices v (Plays e) = notices_first v e ++ (sent_notices (sent_by v (Plays e)) ++ notices_last v e)
step_notices v (Tells notice) = notice ∷ []
step_notices v _ = []
