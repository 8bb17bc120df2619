use Rattle.gateway_book.proofs.Names.{firm_entries, is_closed, size_of, waiting}
use Rattle.gateway_book.proofs.StandingLemmas.{front_few, history_knows_few}
use Rattle.gateway_book.proofs.laws.a_book_is_within_the_limits.Goals as goal

pub returns-clause-short : goal.returns-clause-short
returns-clause-short g c = λ book. book.followed.short

pub returns-clause-items : goal.returns-clause-items
returns-clause-items g c = λ told book.
    front_few c.items_are_fewer_than_octets.ensures.costs (size_of book) (firm_entries book.trail) (waiting book.trail)
    (book.followed.fit told)

pub returns-clause-nodes : goal.returns-clause-nodes
returns-clause-nodes g c = λ told book.
    history_knows_few (size_of book) (is_closed book.trail) (firm_entries book.trail) (waiting book.trail)
    (book.followed.fit told)
