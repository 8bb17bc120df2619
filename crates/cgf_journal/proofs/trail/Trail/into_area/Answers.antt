use Rattle.std.proofs.Common.{◌∙◌, rules}
use Rattle.cgf_journal.specs.Trail.{area_of}
use Rattle.cgf_journal.proofs.Trails.{at_rest, stop_is}
use Rattle.cgf_journal.proofs.trail.Trail.into_area.Goals as goal

pub returns-clause-rests : goal.returns-clause-rests
returns-clause-rests g c = search (rules, at_rest)

pub returns-clause-stop : goal.returns-clause-stop
returns-clause-stop g c = λ fate told outcome.
    let t = c.args.self in
    stop_is t told (λ e. (c.is_closed-closed.ensures.none_torn (c.is_closed-closed.ensures.closed ∙ e)).stops) _ (c.area_laws.ensures.same_size (area_of t) _ told.1 (c.area_laws.ensures.may_stop (area_of t) outcome fate)) outcome (c.is_closed-closed.ensures.stop fate told outcome)
