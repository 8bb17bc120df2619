use Rattle.std.proofs.Common.{◌≡◌, Ok, true, false, List, [], sym, subst, ◌∙◌, ap, arith}
use Rattle.cgf_journal.proofs.Names.{AllFit, AreFit, entries_in, HistoryEntry, IsJudged}
use Rattle.cgf_journal.proofs.Tallies.{entries_in-push}
use Rattle.cgf_journal.proofs.Listings.{last_content, one_more, too_dear}
use Rattle.cgf_journal.proofs.listing.Listing.take_fit.Goals as goal

pub returns-then-capacity-costs-clause-unfit : goal.returns-then-capacity-costs-clause-unfit
returns-then-capacity-costs-clause-unfit g c = λ some taken_in judged at is.
    let ok : c.take_in.result ≡ Ok true = c.in-Ok-true.is ∙ ap Ok c.in-Ok-true.field-0-test in
    let same : at ≡ c.args.gate = cc in (
      same,
      λ (are : AreFit g.J.Judge.fits c.args.size _).
          too_dear c.args.size c.args.gate some c.args.self.now.places c.args.self.now.tally taken_in c.args.content.now c.take_in.new.tally (c.take_in.ensures.tally ok) (omega (arith, c.capacity.ensures)) are.are_batches,
    )

pub returns-else-capacity-costs-clause-taken : goal.returns-else-capacity-costs-clause-taken
returns-else-capacity-costs-clause-taken g c = λ some taken_in judged.
    let ok : c.take_in.result ≡ Ok true = c.in-Ok-true.is ∙ ap Ok c.in-Ok-true.field-0-test in (
      one_more c.args.size c.args.gate some c.args.self.now.places c.args.self.now.tally taken_in c.args.content.now c.take_in.new.places c.take_in.new.tally
          (c.take_in.ensures.taken ok) (c.take_in.ensures.places ok) c.take_in.ensures.reserved (c.take_in.ensures.tally ok) (omega (arith, c.capacity.ensures)),
      subst (λ (h : List HistoryEntry). IsJudged g.J.Judge c.args.size c.take_in.new.judge h) (sym (entries_in-push some c.args.content.now)) (c.take_in.ensures.fit (entries_in some) ok judged),
    )

pub returns-in-Ok-false-clause-unfit : goal.returns-in-Ok-false-clause-unfit
returns-in-Ok-false-clause-unfit g c = λ some taken_in judged at is.
    let refused : c.take_in.result ≡ Ok false = c.in-Ok-false.is ∙ ap Ok c.in-Ok-false.field-0-test in
    let same : at ≡ c.args.gate = cc in (
      same,
      λ (are : AreFit g.J.Judge.fits c.args.size _).
          c.take_in.ensures.unfit refused (last_content some c.args.content.now are.are_batches.contents) (entries_in some) judged
          (subst (λ (h : List HistoryEntry). AllFit (g.J.Judge.fits c.args.size) [] h) (entries_in-push some c.args.content.now) are.fit),
    )
