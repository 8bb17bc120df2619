use Rattle.std.proofs.Common.{ap, length, subst, sym, ◌∙◌}
use Rattle.loop_run.specs.Seats.{AllRan}
use Rattle.loop_run.proofs.ListLemmas.{lent_whole}
use Rattle.loop_run.proofs.running.run_seats.Goals as goal

pub returns-clause-ran : goal.returns-clause-ran
returns-clause-ran g c =
    let same = c.run_all.ensures.count ∙ ap (λ l. length l) c.as_mut_slice.ensures.value in
    subst (λ l. AllRan g.L.Link c.args.setup l)
    (lent_whole c.run_all.new.seats _ c.args.seats.len (c.args.seats.ok.0 ∙ sym same)) c.run_all.ensures.ran

pub returns-clause-count : goal.returns-clause-count
returns-clause-count g c =
    let same = c.run_all.ensures.count ∙ ap (λ l. length l) c.as_mut_slice.ensures.value in
    sym (ap (λ l. length l) (lent_whole c.run_all.new.seats _ c.args.seats.len (c.args.seats.ok.0 ∙ sym same))) ∙ same
