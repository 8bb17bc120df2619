use Rattle.std.proofs.Common.{◌≡◌, suc, ◌-◌, ◌<◌, min, List, map, length, sym, ap, ◌∙◌, arith}
use Rattle.std.specs.Prelude.{IfSome}
use Rattle.node_core.proofs.Names.{all_drawn, befallen, due_by, most_quiet, moved_at_tick, NodeValue, packet_after_all, quiet_by, Sending, tick_entries, value_of_node, while_open}
use Rattle.node_core.proofs.SettledLemmas.{length-replaced, replaced_is}
use Rattle.node_core.proofs.NodeLemmas.{after_all-number, sound_on, while_open-number}
use Rattle.node_core.proofs.PlanLemmas.{length-all_drawn, tick_result, within_by}
use Rattle.node_core.proofs.node.Node.tick.Goals as goal

pub replace-requires : goal.replace-requires
replace-requires c = search (arith, length-replaced)

-- the packets after the tick
replaced : (c : goal.After-drop-plan-2) → c.replace.new.self.packets
    ≡ map (while_open (packet_after_all (due_by c.favourite_by-favourite.result c.is_alive.result c.self.inside.paths c.deref.result.now c.self.inside.packets.packets)))
    c.self.inside.packets.packets
replaced c =
    replaced_is c.favourite_by-favourite.result c.is_alive.result c.self.inside.paths c.deref.result.now
    (c.self.inside.submissions - length c.self.inside.packets.packets) c.self.inside.packets c.in_ok-plan.plan.packets.items
    c.replace.new.self.packets c.self.invariant.numbered c.in_ok-plan.ensures.settled c.in_ok-plan.ensures.packets c.replace.ensures

pub invariant_of-self : goal.invariant_of-self
invariant_of-self c =
    let inside = c.self.inside in
    let sound = c.self.invariant in
    let sendings : List Sending = due_by c.favourite_by-favourite.result c.is_alive.result inside.paths c.deref.result.now inside.packets.packets in
    let peers : length c.in_ok-plan.plan.peers.items ≡ length inside.gateways.items =
    search (arith, length-all_drawn) in
    let moves : IfSome c.moved_at_tick-moved.result (λ place. place < length inside.gateways.items) = search arith in
    let within : c.favourite_by-favourite.result < length inside.gateways.items = search (arith, within_by) in
    sound_on inside.counter (value_of_node inside) (while_open (packet_after_all sendings))
    (while_open-number (packet_after_all sendings) (after_all-number sendings)) sound
    c.in_ok-plan.plan.peers.items c.favourite_by-favourite.result c.min-self-inside.result c.replace.new.self.packets
    peers within (omega (arith, c.min-self-inside.ensures)) c.in_ok-plan.ensures.numbers (replaced c)

pub returns-clause-node : goal.returns-clause-node
returns-clause-node c =
    let inside = c.self.inside in
    let node : NodeValue = value_of_node inside in
    let moved : c.moved_at_tick-moved.result ≡ moved_at_tick node = c.moved_at_tick-moved.ensures.moved ∙ ap moved_at_tick (sym c.self.view_is) in
    let sendings : List Sending = due_by c.favourite_by-favourite.result c.is_alive.result inside.paths inside.gateways.items inside.packets.packets in
    let quiet : c.min-self-inside.result ≡ min most_quiet (suc (quiet_by c.moved_at_tick-moved.result inside.quiet)) =
    omega (arith, c.min-self-inside.ensures, c.quiet_by.ensures) in
    let peers : c.in_ok-plan.plan.peers.items ≡ all_drawn sendings inside.gateways.items = search arith in
    let packets : c.replace.new.self.packets ≡ map (while_open (packet_after_all sendings)) inside.packets.packets =
    cc (replaced c) in
    tick_result node c.moved_at_tick-moved.result c.favourite_by-favourite.result c.is_alive.result c.min-self-inside.result
    c.in_ok-plan.plan.peers.items c.replace.new.self.packets moved c.favourite_by-favourite.ensures c.is_alive.ensures quiet peers packets
    ∙ ap (λ (v : NodeValue). befallen (tick_entries v) v) c.self.view_is
