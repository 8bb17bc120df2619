use Rattle.std.proofs.Common.{Bool, ap, ◌∙◌}
use Rattle.gateway_book.proofs.Names.{all_entries, firm_entries, history_of, is_closed, key_seen, observed_by, value_of}
use Rattle.gateway_book.proofs.Committing.{asked}
use Rattle.gateway_book.proofs.book.Book.key.Goals as goal

pub returns-clause-told : goal.returns-clause-told
returns-clause-told g c = λ told.
    let book = c.args.self.now in
    let firm = c.is_closed-firm.result in
    let h = history_of (value_of book) in
    let follows = asked (is_closed book.trail) firm book.index (firm_entries book.trail) (all_entries book.trail) c.is_closed-firm.ensures.closed (book.followed.firm told) (book.followed.live told) in
    c.key.ensures ∙ c.an_index_is_enough.ensures.keys firm book.index h c.args.node c.args.wire follows

pub returns-clause-counted : goal.returns-clause-counted
returns-clause-counted g c =
    let book = c.args.self.now in
    c.key.ensures ∙ ap (λ (firm : Bool). key_seen (observed_by firm book.index c.args.node) c.args.wire) c.is_closed-firm.ensures.closed
