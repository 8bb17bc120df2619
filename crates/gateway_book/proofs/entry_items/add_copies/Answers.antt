use Rattle.std.proofs.Common.{ℕ, refl, sym, ap, subst, ◌∙◌}
use Rattle.gateway_book.proofs.Names.{AreBelow, false≢true, is_err, places_of}
use Rattle.gateway_book.proofs.CursorLemmas.{held_still}
use Rattle.gateway_book.proofs.ItemsLemmas.{released_end, released_on}
use Rattle.gateway_book.proofs.ReadLemmas.{read_on}
use Rattle.gateway_book.proofs.entry_items.add_copies.Goals as goal

pub returns-in_err-add_copy-clause-read : goal.returns-in_err-add_copy-clause-read
returns-in_err-add_copy-clause-read g c = read_on c.loop-number.invariant.read c.add_copy.ensures.read

pub loop-number-preserved : goal.loop-number-preserved
loop-number-preserved g c =
    let i = c.loop-number.invariant in
    record {
      below = subst (λ (n : ℕ). AreBelow n (places_of c.args.copies.now)) (sym c.add_copy.ensures.read.kept.firm_length) i.below;
      items = λ told before are.
          released_on before c.args.moment c.args.node c.args.numbers.now c.loop-number.number-index _ c.loop-number.into c.add_copy.new.into
          c.loop-number-test.true refl (c.in_ok-add_copy.ensures.items told before (held_still told i.read are)) ∙ i.items told before are;
      read = read_on i.read c.add_copy.ensures.read;
      faults = c.in_ok-add_copy.ensures.cause.still (λ e. false≢true (ap is_err e)) ∙ i.faults;
    }

pub returns-clause-items : goal.returns-clause-items
returns-clause-items g c = λ told before are.
    released_end before c.args.moment c.args.node c.args.numbers.now c.loop-number.number-index c.loop-number.into c.loop-number-test.false
    ∙ c.loop-number.invariant.items told before are
