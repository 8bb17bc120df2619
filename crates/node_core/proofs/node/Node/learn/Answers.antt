use Rattle.std.proofs.Common.{◌≡◌, ℕ, Bool, refl, Some, List, map, ap, ◌∙◌}
use Rattle.node_core.proofs.Names.{first_made, is_done, is_resolved, last_number, nearest, NodeValue, packet_hearing, PacketCopy, PacketState, Peer, value_of_node, while_open}
use Rattle.node_core.proofs.NodeLemmas.{sound_on, while_open-number}
use Rattle.node_core.proofs.node.Node.learn.Goals as goal

-- the numbers as they are read
numbers : (c : goal.After-hear) → c.new-numbers.result ≡ map (nearest (Some (last_number c.args.self.now.gateways c.args.gateway))) c.args.responded
numbers c =
    c.new-numbers.ensures
    ∙ ap (λ (n : ℕ). map (nearest (Some n)) c.args.responded)
    (c.last_number.ensures
    ∙ ap (λ (peers : List Peer). last_number peers c.args.gateway) (c.deref.ensures.value ∙ ap (λ (v : NodeValue). v.gateways) c.self.view_is))

packets : (c : goal.After-hear) → c.hear.new.self.packets
    ≡ map (while_open (packet_hearing c.args.port c.args.gateway c.args.cause
    (map (nearest (Some (last_number c.args.self.now.gateways c.args.gateway))) c.args.responded))) c.self.inside.packets.packets
packets c =
    c.hear.ensures.packets
    ∙ ap (λ (ns : List ℕ). map (while_open (packet_hearing c.args.port c.args.gateway c.args.cause ns)) c.self.inside.packets.packets) (numbers c)

made : (c : goal.After-hear) (test : List PacketCopy → Bool) → first_made test (while_open (packet_hearing c.args.port c.args.gateway c.args.cause c.new-numbers.result)) c.self.inside.packets.packets
    ≡ first_made test (while_open (packet_hearing c.args.port c.args.gateway c.args.cause
    (map (nearest (Some (last_number c.args.self.now.gateways c.args.gateway))) c.args.responded))) c.args.self.now.packets
made c test =
    ap (λ (ns : List ℕ). first_made test (while_open (packet_hearing c.args.port c.args.gateway c.args.cause ns)) c.self.inside.packets.packets) (numbers c)
    ∙ ap (λ (v : NodeValue). first_made test (while_open (packet_hearing c.args.port c.args.gateway c.args.cause
    (map (nearest (Some (last_number c.args.self.now.gateways c.args.gateway))) c.args.responded))) v.packets) c.self.view_is

pub invariant_of-self : goal.invariant_of-self
invariant_of-self c =
    let inside = c.self.inside in
    let sound = c.self.invariant in
    let hears : PacketState → PacketState = packet_hearing c.args.port c.args.gateway c.args.cause c.new-numbers.result in
    sound_on inside.counter (value_of_node inside) (while_open hears) (while_open-number hears (λ packet. refl)) sound
    inside.gateways.items inside.favourite inside.quiet c.hear.new.self.packets
    refl sound.within sound.quiet sound.numbers c.hear.ensures.packets

pub returns-clause-packets : goal.returns-clause-packets
returns-clause-packets c =
    let all : List PacketState → List PacketState = map (while_open (packet_hearing c.args.port c.args.gateway c.args.cause
    (map (nearest (Some (last_number c.args.self.now.gateways c.args.gateway))) c.args.responded))) in
    (λ i. record (value_of_node c.self.inside) { packets = packets c i })
    ∙ ap (λ (v : NodeValue). record v { packets = all v.packets }) c.self.view_is

pub returns-clause-resolved : goal.returns-clause-resolved
returns-clause-resolved c = c.hear.ensures.resolved ∙ made c is_resolved

pub returns-clause-done : goal.returns-clause-done
returns-clause-done c = c.hear.ensures.done ∙ made c is_done
