use Rattle.std.proofs.Common.{◌∙◌, sym, map, string_bytes}
use Rattle.cgf_jobs.proofs.CommandLemmas.{option_asks}
use Rattle.cgf_jobs.proofs.WordLemmas.{any_of_map}
use Rattle.cgf_jobs.proofs.command.Command.of.Goals as goal

pub returns-then-has_option-clause-asked : goal.returns-then-has_option-clause-asked
returns-then-has_option-clause-asked c = option_asks string_bytes c.args.words.now (sym c.has_option.ensures ∙ c.if-has_option.true)

pub returns-in-Ok-clause-asked : goal.returns-in-Ok-clause-asked
returns-in-Ok-clause-asked c =
    c.asked_by.ensures.asked (map string_bytes c.args.words.now)
    (any_of_map string_bytes c.args.words.now ∙ sym c.has_option.ensures ∙ c.if-has_option.false) c.in-Ok.ensures.found
