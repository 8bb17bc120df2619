use Rattle.std.proofs.Common.{arith}
use Rattle.cgf_journal.specs.Trail.{firm_entries}
use Rattle.gateway_book.proofs.StandingLemmas.{counting_on, stands_in, stands_read}
use Rattle.gateway_book.proofs.book.Book.items.Goals as goal

pub invariant_of-self-clause-stands : goal.invariant_of-self-clause-stands
invariant_of-self-clause-stands g c =
    let book = c.args.self.now in
    let now = c.items_from.ensures in
    stands_read now.read.kept now.within (λ told. now.at told (firm_entries book.trail) (stands_in book.stands told (book.followed.fit told)))

pub returns-clause-items : goal.returns-clause-items
returns-clause-items g c = λ told.
    let book = c.args.self.now in
    c.items_from.ensures.items told (firm_entries book.trail) (stands_in book.stands told (book.followed.fit told))

pub invariant_of-self-clause-counts : goal.invariant_of-self-clause-counts
invariant_of-self-clause-counts g c =
    let now = c.items_from.ensures in
    counting_on c.args.self.now.counts now.cause.later (omega (arith, now.read.kept.firm_length))
