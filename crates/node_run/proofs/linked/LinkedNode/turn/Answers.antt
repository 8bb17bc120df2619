use Rattle.std.proofs.Common.{take, Some, arith, length-take}
use Rattle.node_run.proofs.TurnLemmas.{short_heard, turned_heard, waits_datagram}
use Rattle.node_run.proofs.linked.LinkedNode.turn.Goals as goal

pub slice_bounds-hear-end : goal.slice_bounds-hear-end
slice_bounds-hear-end g c =
    let short = short_heard g.L.Link c.args.port c.receive.new.buffer c.receive.result c.args.self.now
    c.receive.new.self
    c.receive.ensures.received c.in-Ok-Datagram.from c.in-Ok-Datagram.length (cc) in
    let kept = c.receive.auto.buffer in
    let long = c.requires.long in omega (arith, short, kept, long)

pub slice_bounds-hear-end-in-Ok-Datagram : goal.slice_bounds-hear-end-in-Ok-Datagram
slice_bounds-hear-end-in-Ok-Datagram g c =
    let within = slice_bounds-hear-end g c in
    omega (arith, within, length-take c.in-Ok-Datagram.length c.receive.new.buffer)

pub returns-in_ok-hear-in-Ok-Datagram-clause-turned : goal.returns-in_ok-hear-in-Ok-Datagram-clause-turned
returns-in_ok-hear-in-Ok-Datagram-clause-turned g c = (
  Some (record {
    peer = c.in-Ok-Datagram.from;
    octets = take c.in-Ok-Datagram.length c.receive.new.buffer;
  }),
  turned_heard g.L.Link c.args.packets c.args.port (record {
    peer = c.in-Ok-Datagram.from;
    octets = take c.in-Ok-Datagram.length c.receive.new.buffer;
  }) c.args.self.now c.receive.new.self c.hear.new.self c.receive.ensures.node
      (waits_datagram g.L.Link c.args.port c.receive.new.buffer c.receive.result c.args.self.now c.receive.new.self
      c.requires.can.few c.receive.ensures.received c.in-Ok-Datagram.from c.in-Ok-Datagram.length (cc))
      c.in_ok-hear-in-Ok-Datagram.ensures.heard,
)
