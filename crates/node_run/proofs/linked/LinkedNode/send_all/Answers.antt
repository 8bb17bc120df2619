use Rattle.std.proofs.Common.{arith, ◌∙◌}
use Rattle.node_run.proofs.SendLemmas.{have_sent_more, stays_both}
use Rattle.node_run.proofs.linked.LinkedNode.send_all.Goals as goal

pub loop-outgoing-preserved : goal.loop-outgoing-preserved
loop-outgoing-preserved g c = record {
  node = c.in_ok-send.ensures.node ∙ c.loop-outgoing.invariant.node;
  stays = stays_both g.L.Link c.args.self.now c.loop-outgoing.self c.send.new.self c.loop-outgoing.invariant.stays
      c.in_ok-send.ensures.stays;
  sent = have_sent_more g.L.Link c.args.all.now c.loop-outgoing.outgoing-index c.outgoing-item.result
      c.octets.result.now c.args.self.now
      c.loop-outgoing.self c.send.new.self (omega
      (arith, c.loop-outgoing-test.true)) c.outgoing-item.is c.octets.ensures
      c.loop-outgoing.invariant.sent c.in_ok-send.ensures.sent;
}
