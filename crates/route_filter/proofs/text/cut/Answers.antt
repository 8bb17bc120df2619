use Rattle.std.proofs.Common.{sym}
use Rattle.route_filter.proofs.Cuts.{cut_found, cut_missing}
use Rattle.route_filter.proofs.text.cut.Goals as goal

pub returns-in_default-clause-parts : goal.returns-in_default-clause-parts
returns-in_default-clause-parts c = sym (cut_missing c.args.separator c.args.octets.now c.in_default.ensures)

pub returns-clause-parts : goal.returns-clause-parts
returns-clause-parts c =
    cut_found c.args.separator c.args.octets.now c.in-Some.place c.split_at.result.0.now c.split_at-2.result.1.now
    c.in-Some.ensures.0.high c.in-Some.ensures.0.before c.in-Some.ensures.1 c.split_at.ensures.front c.split_at-2.ensures.back
