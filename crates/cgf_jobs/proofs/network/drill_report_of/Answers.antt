use Rattle.std.proofs.Common.{◌∙◌, ap}
use Rattle.cgf_jobs.proofs.Names.{extent_of, refusal_of_lines}
use Rattle.cgf_jobs.proofs.network.drill_report_of.Goals as goal

-- the lines are those of a sample
pub drill-requires-clause-taken : goal.drill-requires-clause-taken
drill-requires-clause-taken g c =
    ap (λ (s : _). refusal_of_lines s.lines) c.in_ok-script.ensures.is
    ∙ c.no_line_of_a_sample_is_refused.ensures.lines c.args.of.seed (extent_of c.args.of)
