use Rattle.std.proofs.Common.{◌≡◌, List, length, refl, ap, ◌∙◌, arith}
use Rattle.node_core.proofs.Names.{Peer, peers_anew, with_items_is}
use Rattle.std.specs.Vec.{with_items}
use Rattle.node_core.proofs.NodeLemmas.{length-anew, numbers_renewed}
use Rattle.node_core.proofs.node.Node.forget.Goals as goal

pub invariant_of-self : goal.invariant_of-self
invariant_of-self c =
    let inside = c.self.inside in
    let sound = c.self.invariant in
    let renewed : (with_items inside.gateways c.renew.new.peers).items ≡ peers_anew inside.gateways.items =
    with_items_is inside.gateways c.renew.new.peers (omega arith) ∙ c.renew.ensures ∙ ap peers_anew c.deref_mut.ensures.value in
    let size : length (with_items inside.gateways c.renew.new.peers).items ≡ length inside.gateways.items =
    ap (λ (ps : List Peer). length ps) renewed ∙ length-anew inside.gateways.items in
    record {
      some = omega (arith, size, sound.some);
      most = omega (arith, size, sound.most);
      within = omega (arith, size, sound.some);
      quiet = omega arith;
      numbers = rw renewed (numbers_renewed inside.gateways.items);
      numbered = rw c.clear.ensures tt;
      packets = rw c.clear.ensures (omega arith);
      forms = rw (c.clear-2.ensures.items, c.clear.ensures) refl;
      submissions = sound.submissions;
      resolved = rw c.clear.ensures (omega (arith, sound.resolved, c.tally-tally.ensures.resolved));
      done = rw c.clear.ensures (omega (arith, sound.done, c.tally-tally.ensures.done));
      counter = rw c.new-self-inside.ensures.node refl;
    }
