use Rattle.std.proofs.Common.{◌≡◌, refl, subst, sym}
use Rattle.net_link.specs.declared.link.LinkStop.TheVariants as stop
use Rattle.node_core.specs.declared.port.Port.TheVariants.{First}
use Rattle.node_run.specs.Outcomes.{EndsSo}
use Rattle.node_run.specs.declared.linked.NodeEnd.{NodeEnd}
use Rattle.node_run.proofs.RunLemmas.{ends_so, runs_first, stops_by}
use Rattle.node_run.proofs.linked.LinkedNode.run.Goals as goal

pub returns-in-Err-clause-ends : goal.returns-in-Err-clause-ends
returns-in-Err-clause-ends g c = subst
    (λ (how : NodeEnd). EndsSo g.L.Link c.args.work c.args.self.node c.tick.new.self how)
    (sym c.end_by.ensures)
    (stops_by g.L.Link c.args.work c.args.self.node c.tick.new.self c.in-Err.stop
    (λ (is : c.in-Err.stop ≡ stop.Failed). c.tick.ensures.stops (cc)))

pub returns-clause-ends : goal.returns-clause-ends
returns-clause-ends g c = ends_so g.L.Link c.args.work c.args.self.node c.take_turns-end.result.1
    c.take_turns-end.result.0
    (c.take_turns-end.ensures.ends c.args.self.node c.args.work.turns
    (runs_first g.L.Link c.args.work.packets c.args.work.turns c.args.self (record {
      linked = c.tick.new.self;
      port = First;
      left = c.args.work.turns;
    }) c.requires.new c.in_default-tick.ensures.ticked refl refl))
