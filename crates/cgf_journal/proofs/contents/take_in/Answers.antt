use Rattle.std.proofs.Common.{sym, ap, ◌∙◌, arith, Ok, rules}
use Rattle.std.proofs.lemmas.Bool.{not-true}
use Rattle.cgf_journal.proofs.Listings.{IsAllTaken, all_taken, costs_so_far, is_end, not_end, none_taken, one_taken}
use Rattle.cgf_journal.proofs.Meanings.{all_judged, begins_judging, one_judged, one_unfit}
use Rattle.cgf_journal.proofs.contents.take_in.Goals as goal

pub loop-rest-init : goal.loop-rest-init
loop-rest-init g c = search (rules, none_taken, begins_judging)

pub take_entry-requires-clause-costs : goal.take_entry-requires-clause-costs
take_entry-requires-clause-costs g c = omega (arith, c.requires.costs, costs_so_far c.loop-rest.invariant.taken)

pub returns-in_default-clause-unfit : goal.returns-in_default-clause-unfit
returns-in_default-clause-unfit g c = λ same is h before.
    one_unfit c.entries_divide.ensures c.loop-rest.invariant.judged (not_end c.loop-rest.rest.now (sym c.is_empty.ensures ∙ c.loop-rest-test.true))
    (c.take_entry.ensures.none (c.in_ok-count.was ∙ ap (λ x. Ok x) c.in_default.is)) is h before

pub loop-rest-preserved : goal.loop-rest-preserved
loop-rest-preserved g c = search (rules, one_taken, one_judged)

-- at the end all was taken in
all : (g : _) (c : goal.After-is_empty-2 g) → IsAllTaken c.args.content.now c.args.at c.args.places.now.items c.loop-rest.places.items c.args.tally.now c.loop-rest.tally
all g c = all_taken c.entries_are_read_back.ensures c.loop-rest.invariant.taken (is_end c.loop-rest.rest.now (sym c.is_empty.ensures ∙ c.loop-rest-test.false))

pub returns-clause-taken : goal.returns-clause-taken
returns-clause-taken g c = λ e. record {
  some = not_end c.args.content.now (sym c.is_empty-2.ensures ∙ not-true c.is_empty-2.result cc);
  are_entries = (all g c).are_entries;
}

pub returns-clause-places : goal.returns-clause-places
returns-clause-places g c = λ e. (all g c).placed

pub returns-clause-tally : goal.returns-clause-tally
returns-clause-tally g c = λ e. (all g c).counted

pub returns-clause-fit : goal.returns-clause-fit
returns-clause-fit g c = λ h same before.
    all_judged c.entries_are_read_back.ensures c.loop-rest.invariant.judged (is_end c.loop-rest.rest.now (sym c.is_empty.ensures ∙ c.loop-rest-test.false)) h before
