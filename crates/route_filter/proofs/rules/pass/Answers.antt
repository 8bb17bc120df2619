use Rattle.std.proofs.Common.{rules, ◌∙◌, arith}
use Rattle.std.proofs.lemmas.List.{length-set}
use Rattle.route_filter.proofs.StartLemmas.{one_moved, others_left}
use Rattle.route_filter.proofs.rules.pass.Goals as goal

pub loop-group-preserved : goal.loop-group-preserved
loop-group-preserved c =
    let inv = c.loop-group.invariant in
    record {
      groups = length-set c.loop-group.starts c.loop-group.group _ ∙ inv.groups;
      moved = one_moved c.args.starts.now c.loop-group.starts c.args.rule c.args.count c.loop-group.group _ c.start_after.result
          (omega (arith, inv.groups)) c.start_after.ensures (search rules) inv.moved inv.left;
      left = others_left c.args.starts.now c.loop-group.starts c.loop-group.group _ inv.left;
    }
