use Rattle.std.proofs.Common.{◌-◌, arith, sym, ◌∙◌}
use Rattle.node_run.proofs.RunLemmas.{runs_on, turned_once}
use Rattle.node_run.proofs.SendLemmas.{stays_both}
use Rattle.node_run.proofs.running.take_turns.Goals as goal

pub loop-run-preserved : goal.loop-run-preserved
loop-run-preserved g c =
    let turned = c.in_default.ensures.turned in
    let once = turned_once g.L.Link c.args.packets c.loop-run.run.port turned.0 c.loop-run.run.linked c.turn.new.self
    turned.1 in
    let few = c.loop-run.invariant.few in
    let more = c.loop-run-test.true in
    record {
      runs = c.turn.ensures.runs;
      few = omega (arith, once, few, more);
      stays = stays_both g.L.Link c.args.run.linked c.loop-run.run.linked c.turn.new.self c.loop-run.invariant.stays
          c.turn.ensures.stays;
      on = λ first n was. runs_on g.L.Link c.args.packets first n turned.0 c.loop-run.run (record {
        linked = c.turn.new.self;
        port = c.other_port-run.result;
        left = c.loop-run.run.left - 1;
      }) (c.loop-run.invariant.on first n was) turned.1 (sym c.is_done.ensures ∙ c.if-is_done.false)
          c.other_port-run.ensures (omega (arith, more));
    }
