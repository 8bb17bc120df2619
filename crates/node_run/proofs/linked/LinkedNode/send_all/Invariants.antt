use Rattle.std.proofs.Common.{◌≡◌, take}
use Rattle.node_core.specs.declared.port.Port.TheVariants.{First, Second}
use Rattle.node_run.specs.Outcomes.{StaysAt}
use Rattle.node_run.specs.Running.{sent_among}
use Rattle.node_run.specs.Steps.{HaveSent}
use Rattle.node_run.proofs.linked.LinkedNode.send_all.Given as goal

-- those in front were sent
abbrev pub invariant-loop-outgoing : goal.invariant-loop-outgoing
invariant-loop-outgoing g l = record {
  node : l.self.node ≡ l.initial.self.node;
  stays : StaysAt g.L.Link l.initial.self l.self;
  sent : HaveSent g.L.Link (sent_among First (take l.outgoing-index l.all))
      (sent_among Second (take l.outgoing-index l.all)) l.initial.self l.self;
}
