use Rattle.std.proofs.Common.{◌∙◌, sym, arith}
use Rattle.cgf_jobs.proofs.CommandLemmas.{file_value, other_values}
use Rattle.cgf_jobs.proofs.command.by_values.Goals as goal

pub returns-in-len1-clause-asked : goal.returns-in-len1-clause-asked
returns-in-len1-clause-asked c none =
    c.on_file.ensures.asked
    ∙ file_value (λ value. value.now) c.args.name.now c.args.values.now (omega (arith, c.in-len1.len_at_least, c.in-len1.len_below)) none

pub returns-in_default-2-clause-asked : goal.returns-in_default-2-clause-asked
returns-in_default-2-clause-asked c none =
    sym (other_values (λ value. value.now) c.args.name.now c.args.values.now (λ one. omega (arith, one, c.in_default.len_at_least))
    (λ four. omega (arith, four, c.in_default.len_below)))

pub returns-in_default-3-clause-asked : goal.returns-in_default-3-clause-asked
returns-in_default-3-clause-asked c none =
    sym (other_values (λ value. value.now) c.args.name.now c.args.values.now (λ one. omega (arith, one, c.in_default.len_at_least))
    (λ four. omega (arith, four, c.in_default.len_at_least)))
