use Rattle.std.proofs.Common.{◌≡◌, Bool, true, sym, ap, subst, ◌∙◌}
use Rattle.gateway_book.proofs.Names.{all_entries, Close, fit_is_within, history_of, is_close_due, IsLeft, made_if, Mark, Marked, marked_at, size_of, value_of}
use Rattle.gateway_book.specs.declared.outcome.Marked.TheVariants as marked
use Rattle.gateway_book.proofs.TakingLemmas.{close_made, history_is}
use Rattle.gateway_book.proofs.book.Book.close_if_due.Goals as goal

-- a Close that is due is made by a book whose trail has room for it
pub returns-in_default-clause-left : goal.returns-in_default-clause-left
returns-in_default-clause-left g c = λ told.
    let book = c.args.self.now in
    let all = all_entries book.trail in
    let due : is_close_due all ≡ true = sym (c.is_close_due.ensures told) ∙ c.if-not-is_close_due.false in
    let room = c.a_due_close_has_room.ensures all (size_of book) (fit_is_within (size_of book) all (book.followed.fit told)) due in
    subst (λ (m : Mark). IsLeft book c.mark.new.self (marked_at (value_of book) c.args.now c.args.who m) c.mark.result)
    (close_made (history_of (value_of book)) all (history_is book.trail book.cuts c.requires.ready) (size_of book) due room) (c.mark.ensures.left told)

pub returns-in-NoRoom-clause-left : goal.returns-in-NoRoom-clause-left
returns-in-NoRoom-clause-left g c = λ told.
    let book = c.args.self.now in
    let all = all_entries book.trail in
    let due : is_close_due all ≡ true = sym (c.is_close_due.ensures told) ∙ c.if-not-is_close_due.false in
    let room = c.a_due_close_has_room.ensures all (size_of book) (fit_is_within (size_of book) all (book.followed.fit told)) due in
    let left = c.mark.ensures.left told in
    let made : ◌≡◌ {A = Marked} marked.NoRoom (marked_at (value_of book) c.args.now c.args.who (made_if true Close)).answer =
    sym c.in-NoRoom.is ∙ left.answer ∙ ap (λ (b : Bool). (marked_at (value_of book) c.args.now c.args.who (made_if b Close)).answer) room in
    absurd (cc made)
