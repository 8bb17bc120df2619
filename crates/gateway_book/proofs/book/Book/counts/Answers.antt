use Rattle.std.proofs.Common.{ap, ◌∙◌}
use Rattle.gateway_book.proofs.Names.{all_entries, firm_entries, history_of, is_closed, Totals, value_of}
use Rattle.gateway_book.proofs.Committing.{asked}
use Rattle.gateway_book.proofs.book.Book.counts.Goals as goal

pub returns-clause-told : goal.returns-clause-told
returns-clause-told g c = λ told.
    let book = c.args.self.now in
    let follows = asked (is_closed book.trail) c.is_closed-of_firm_side.result book.index (firm_entries book.trail) (all_entries book.trail) c.is_closed-of_firm_side.ensures.closed (book.followed.firm told) (book.followed.live told) in
    let h = history_of (value_of book) in
    λ i. record {
      entries = c.length.ensures.length told i;
      firm = c.firm.ensures.length told i;
      held = (c.held.ensures ∙ c.an_index_tells_its_history.ensures.held c.is_closed-of_firm_side.result book.index h follows ∙ c.held_keys_are_as_many_as_held_copies.ensures h) i;
      stranded = ap (λ (t : Totals). t.stranded) (c.totals.ensures ∙ c.an_index_tells_its_history.ensures.totals c.is_closed-of_firm_side.result book.index h follows) i;
      free = c.free.ensures.free told i;
    }
