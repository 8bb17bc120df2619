use Rattle.std.proofs.Common.{◌≡◌, ◌∙◌, ap, sym, Bor, ℕ, List, Some, map, option_map, codes}
use Rattle.clap.specs.Words.{found_of, matched_of, raw_values}
use Rattle.cgf_jobs.proofs.CommandLemmas.{both_said, no_name, no_values, values_plain}
use Rattle.cgf_jobs.proofs.command.asked_by.Goals as goal

abbrev text : Bor (List ℕ) → List ℕ
text s = s.now

abbrev texts : Bor (List (Bor (List ℕ))) → List (List ℕ)
texts s = map text s.now

pub returns-in_err-name-clause-asked : goal.returns-in_err-name-clause-asked
returns-in_err-name-clause-asked c words none found =
    c.from_residual.ensures
    ∙ no_name (found_of c.args.matches.now) words found (sym c.get_str.ensures ∙ ap (option_map text) c.in_err-name.was)

pub returns-in_err-values-clause-asked : goal.returns-in_err-values-clause-asked
returns-in_err-values-clause-asked c words none found =
    c.from_residual-in_err-values.ensures
    ∙ no_values (found_of c.args.matches.now) words found (sym c.get_strs.ensures ∙ ap (option_map texts) c.in_err-values.was)

pub returns-clause-asked : goal.returns-clause-asked
returns-clause-asked c words none found =
    let values_are : option_map raw_values (matched_of (found_of c.args.matches.now) (codes "VALUES")) ≡ Some (map text c.in_ok-values.values.now) =
    sym c.get_strs.ensures ∙ ap (option_map texts) c.in_ok-values.was in
    c.by_values.ensures.asked (values_plain (found_of c.args.matches.now) words text c.in_ok-values.values.now found none values_are)
    ∙ both_said (found_of c.args.matches.now) words c.in_ok-name.name.now (map text c.in_ok-values.values.now) found
    (sym c.get_str.ensures ∙ ap (option_map text) c.in_ok-name.was) values_are
