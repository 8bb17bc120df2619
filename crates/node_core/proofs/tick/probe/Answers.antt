use Rattle.std.proofs.Common.{◌++◌, Bool, get_or, ap, ◌∙◌}
use Rattle.node_core.proofs.Names.{all_drawn, Peer, probe_of}
use Rattle.node_core.proofs.PlanLemmas.{probe_step}
use Rattle.node_core.proofs.tick.probe.Goals as goal

pub loop-i-preserved : goal.loop-i-preserved
loop-i-preserved c =
    let none : Peer = record { address = record { ip = 0; port = 0 }; path = 0; next = 0 } in
    let gateway : Peer = get_or c.args.gateways.now c.loop-i.i none in
    let so_far = c.loop-i.invariant in
    let probed = probe_step c.args.paths.now c.args.gateways.now c.args.sendings.now.items c.args.peers.now
    c.loop-i.sendings.items c.probe_one.new.sendings.items c.loop-i.peers c.probe_one.new.peers c.loop-i.i
    none c.loop-i-test.true
    (c.in_ok-probe_one.ensures.sendings ∙ ap (λ (b : Bool). c.loop-i.sendings.items ++ probe_of b c.loop-i.i gateway) c.is_alive.ensures)
    (c.in_ok-probe_one.ensures.peers ∙ ap (λ (b : Bool). all_drawn (probe_of b c.loop-i.i gateway) c.loop-i.peers) c.is_alive.ensures)
    (so_far.0, so_far.1) in
    (probed.0, probed.1, c.probe_one.ensures.numbers)
