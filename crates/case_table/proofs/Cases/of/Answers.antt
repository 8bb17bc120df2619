use Rattle.std.proofs.Common.{◌≡◌, ◌∙◌, ap, sym, subst}
use Rattle.std.specs.Option.{is_none}
use Rattle.case_table.specs.declared.Twice.{Twice}
use Rattle.case_table.specs.Rows.{IsLeastDoubled, is_doubled}
use Rattle.case_table.proofs.Doubled.{least_of_doubled, none_is_doubled, none_pass, one_least}
use Rattle.case_table.proofs.Cases.of.Goals as goal

pub returns-in-Some-clause-distinct : goal.returns-in-Some-clause-distinct
returns-in-Some-clause-distinct g c =
    sym (none_pass (is_doubled c.args.rows) c.args.rows ∙ ap is_none (sym c.least_doubled.ensures ∙ c.in-Some.is))

pub returns-in-None-clause-distinct : goal.returns-in-None-clause-distinct
returns-in-None-clause-distinct g c =
    sym (none_pass (is_doubled c.args.rows) c.args.rows ∙ ap is_none (sym c.least_doubled.ensures ∙ c.in-None.is))

pub returns-in-Some-clause-twice : goal.returns-in-Some-clause-twice
returns-in-Some-clause-twice g c =
    let least = least_of_doubled c.args.rows c.in-Some.key (sym c.least_doubled.ensures ∙ c.in-Some.is) in
    λ key. (
      λ e.
          let twice : ◌≡◌ {A = Twice} (record { key = c.in-Some.key }) (record { key = key }) = cc in
          subst (IsLeastDoubled c.args.rows) (ap (λ (t : Twice). t.key) twice) least,
      λ other. let same = one_least c.args.rows c.in-Some.key key least other in cc,
    )

pub returns-in-None-clause-twice : goal.returns-in-None-clause-twice
returns-in-None-clause-twice g c =
    λ key. (
      λ e. cc,
      λ least. absurd (none_is_doubled c.args.rows key (sym c.least_doubled.ensures ∙ c.in-None.is) least),
    )
