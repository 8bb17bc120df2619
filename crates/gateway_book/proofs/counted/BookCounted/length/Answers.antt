use Rattle.std.proofs.Common.{◌≤◌, Bool, true, false, [], ◌++◌, if◌then◌else◌, refl, sym, ◌∙◌, arith}
use Rattle.gateway_book.proofs.Names.{and_parts, append-nil, Begins, BookValue, firm_length, history_of, length_at, value_of}
use Rattle.gateway_book.proofs.StandingLemmas.{at_most}
use Rattle.gateway_book.proofs.counted.BookCounted.length.Goals as goal

begins_firm : (v : BookValue) → Begins v.firm (history_of v)
begins_firm v = by_state v.is_broken
  where
    by_state : (b : Bool) → Begins v.firm (if b then v.firm else v.firm ++ v.rest)
    by_state true = ([], sym (append-nil v.firm))
    by_state false = (v.rest, refl)

pub returns-clause-sound : goal.returns-clause-sound
returns-clause-sound g c =
    let book = c.args.self.now in
    let most : length_at book.cuts (firm_length book.trail) book.kept ≤ firm_length book.trail =
    at_most book.cuts (firm_length book.trail) book.kept book.counts.within in
    let count = c.firm.ensures.counted in
    record {
      cut = book.counts.fewer;
      within = omega (arith, most, c.firm.ensures.bound, count);
      counted = λ told. sym c.length-entries.ensures.counted
          ∙ c.length-entries.ensures.length (and_parts g.A.Area.tells_octets g.A.Area.tells_crash told);
      begins = λ told. begins_firm (value_of book);
      firm = λ told.
          omega (arith, most, count, c.firm.ensures.length (and_parts g.A.Area.tells_octets g.A.Area.tells_crash told));
    }
