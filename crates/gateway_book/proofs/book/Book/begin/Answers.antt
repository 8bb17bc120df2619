use Rattle.std.proofs.Common.{◌∙◌, arith}
use Rattle.gateway_book.proofs.Names.{area_of, firm_entries, started}
use Rattle.gateway_book.proofs.StandingLemmas.{stands_begun}
use Rattle.gateway_book.proofs.book.Book.begin.Goals as goal

pub invariant_of-book-clause-stands : goal.invariant_of-book-clause-stands
invariant_of-book-clause-stands g c = stands_begun c.new.ensures

pub invariant_of-book-clause-counts : goal.invariant_of-book-clause-counts
invariant_of-book-clause-counts g c = record { fewer = omega arith; within = omega arith }

pub returns : goal.returns
returns g c =
    let begun = c.start.ensures in
    let trail = c.args.trail in
    record {
      value = λ told. begun.value told ∙ (λ i. started (g.A.Area.size (area_of trail)) (record { firm = firm_entries trail; rest = c.requires.none i; cuts = 0; is_broken = c.requires.ready i }));
      whole = begun.whole;
      firm = record { crash = λ told o may. c.is_broken-broken.ensures.leaves.whole told begun.whole o may };
      uncut = begun.uncut;
      area = begun.area;
      named = begun.named;
      set = begun.set;
    }
