use Rattle.std.proofs.Common.{rules, ◌≡◌, ℕ, Bool, arith, ap, length, subst, ◌∙◌}
use Rattle.node_session.proofs.Names.{and_parts, AreNext, false≢true, HasTakenOf, IsWriterOf, items_between, KeepsFiles, taken_of, tells_lists, value_of, WhereTold}
use Rattle.node_session.proofs.GivenLemmas.{given_some, next_ones, room_within}
use Rattle.node_session.proofs.settling.give_some.Goals as goal
use Rattle.node_session.proofs.settling.give_some.Goals.{After-give}

-- what the writer was given are the next items
next : (g : _) (c : After-give g) → AreNext (tells_lists g.A.Area) (value_of c.args.book.now).firm (taken_of c.args.writer.now) c.deref.result.now
next g c =
    subst (λ (n : ℕ). AreNext (tells_lists g.A.Area) (value_of c.args.book.now).firm n c.deref.result.now) c.taken.ensures
    (next_ones (tells_lists g.A.Area) (value_of c.args.book.now).firm c.taken.result 4096 c.deref.result.now
    (λ told. c.deref.ensures.value ∙ c.in-Ok.ensures.items (and_parts _ _ told)))

writer : (g : _) (c : After-give g) → IsWriterOf (tells_lists g.A.Area) (value_of c.args.book.now).firm c.give.new.writer
writer g c = c.give.ensures.writer (tells_lists g.A.Area) (value_of c.args.book.now).firm c.requires.writer (next g c)

files : (g : _) (c : After-give g)
    → WhereTold (tells_lists g.A.Area) (KeepsFiles g.F.Shelf (value_of c.args.book.now).firm c.args.writer.now c.give.new.writer)
files g c = λ told it_is all begins holds.
    c.give.ensures.files it_is (value_of c.args.book.now).firm all
    (subst (λ (b : Bool). IsWriterOf b (value_of c.args.book.now).firm c.args.writer.now) told c.requires.writer) (λ x. next g c told) begins holds

pub returns-in-Ok-give-clause-writer : goal.returns-in-Ok-give-clause-writer
returns-in-Ok-give-clause-writer g c = writer g (goal.at.returns-in-Ok-give-clause-writer g c).After-give

pub returns-in-Ok-give-clause-files : goal.returns-in-Ok-give-clause-files
returns-in-Ok-give-clause-files g c = files g (goal.at.returns-in-Ok-give-clause-files g c).After-give

pub returns-in-Err-Device-give-clause-writer : goal.returns-in-Err-Device-give-clause-writer
returns-in-Err-Device-give-clause-writer g c = writer g (goal.at.returns-in-Err-Device-give-clause-writer g c).After-give

pub returns-in-Err-Device-give-clause-files : goal.returns-in-Err-Device-give-clause-files
returns-in-Err-Device-give-clause-files g c = files g (goal.at.returns-in-Err-Device-give-clause-files g c).After-give

pub returns-clause-writer : goal.returns-clause-writer
returns-clause-writer g c = writer g (goal.at.returns-clause-writer g c).After-give

pub returns-clause-files : goal.returns-clause-files
returns-clause-files g c = files g (goal.at.returns-clause-files g c).After-give

pub returns-in-Ok-give-clause-some : goal.returns-in-Ok-give-clause-some
returns-in-Ok-give-clause-some g c =
    given_some (tells_lists g.A.Area) (value_of c.args.book.now).firm c.args.writer.now c.give.new.writer 4096 c.deref.result.now c.len-in-Ok-give.result
    (let n = c.len-in-Ok-give.ensures in let v = ap (λ xs. length xs) c.deref.ensures.value in omega (arith, n, v)) (λ told. subst (λ (n : ℕ). c.deref.result.now ≡ items_between n 4096 (value_of c.args.book.now).firm) c.taken.ensures
    (c.deref.ensures.value ∙ c.in-Ok.ensures.items (and_parts _ _ told)))
    c.in-Ok-give.ensures.count.0 c.in-Ok-give.ensures.count.1 c.in-Ok-give.ensures.count.2
    (writer g (goal.at.returns-in-Ok-give-clause-some g c).After-give) (omega arith)

pub returns-in-Ok-give-clause-still : goal.returns-in-Ok-give-clause-still
returns-in-Ok-give-clause-still g c =
    let w = c.requires.writer c.requires.ready in c.in-Ok-give.ensures.still w.items w.at

pub returns-in-Ok-give-clause-faults : goal.returns-in-Ok-give-clause-faults
returns-in-Ok-give-clause-faults g c = let w = c.requires.writer c.requires.ready in record {
  later = search rules;
  shelf_later = c.give.ensures.later w.items w.at;
  area = search rules;
  shelf = search rules;
}

pub returns-in-Err-Device-give-clause-faults : goal.returns-in-Err-Device-give-clause-faults
returns-in-Err-Device-give-clause-faults g c = let w = c.requires.writer c.requires.ready in record {
  later = search rules;
  shelf_later = c.give.ensures.later w.items w.at;
  area = search rules;
  shelf = search rules;
}

pub returns-clause-faults : goal.returns-clause-faults
returns-clause-faults g c = let w = c.requires.writer c.requires.ready in record {
  later = search rules;
  shelf_later = c.give.ensures.later w.items w.at;
  area = search rules;
  shelf = search rules;
}

pub returns-then-taken-gt-MOST_TAKEN-clause-some : goal.returns-then-taken-gt-MOST_TAKEN-clause-some
returns-then-taken-gt-MOST_TAKEN-clause-some g c = record {
  ready = c.requires.ready;
  moves = λ more. absurd (false≢true more);
  all = λ less told.
      let both = and_parts _ _ told in
      let few = room_within (value_of c.args.book.now).firm c.args.writer.now 4096 c.in-Ok.items.items
      (subst (λ (b : Bool). HasTakenOf b (value_of c.args.book.now).firm c.args.writer.now) told (c.requires.writer c.requires.ready))
      (◌∙◌ {b = items_between c.taken.result 4096 (value_of c.args.book.now).firm} (c.in-Ok.ensures.items both)
      (ap (λ (n : ℕ). items_between n 4096 (value_of c.args.book.now).firm) c.taken.ensures))
      (omega (arith, c.a_book_is_within_the_limits.ensures.items both c.args.book.now, c.a_book_is_within_the_limits.ensures.short c.args.book.now)) in
      absurd (omega (arith, few, c.if-taken-gt-MOST_TAKEN.true));
}
