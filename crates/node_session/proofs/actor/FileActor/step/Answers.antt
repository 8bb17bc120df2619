use Rattle.std.proofs.Common.{◌≤◌, Err, arith, rules, ap, sym, ◌∙◌, refl, subst}
use Rattle.node_session.proofs.Names.{AreNext, Begins, HoldsFilesOf, IsWriterOf, KeepsFiles, KeepsListing, knowledge_of, Rose, shelf_of, taken_of, tells_lists, WhereTold, Writer, writer_of}
use Rattle.node_session.proofs.GivenLemmas.{failed_in, keeps_one, known_grows, later_by, listed_count, listed_in, listed_next, listed_room, listed_writer}
use Rattle.node_session.proofs.actor.FileActor.step.Goals as goal
use Rattle.node_session.proofs.actor.FileActor.step.Goals.{After-give, After-list}

-- the book was listed in a turn
grows : (g : _) (c : After-list g) → WhereTold (tells_lists g.A.Area) (Begins (knowledge_of c.args.self.now).known (knowledge_of c.list.new.self).known)
grows g c =
    known_grows g.A.Area _ _ (λ items. items.items) (knowledge_of c.args.self.now) (knowledge_of c.list.new.self) c.list.result c.list.ensures.lists

turns : (g : _) (c : After-list g) → KeepsListing (knowledge_of c.args.self.now) (knowledge_of c.list.new.self)
turns g c = keeps_one g.A.Area _ _ (λ items. items.items) (knowledge_of c.args.self.now) (knowledge_of c.list.new.self) c.list.result c.list.ensures.lists

writer : (g : _) (c : After-list g) → IsWriterOf (tells_lists g.A.Area) (knowledge_of c.list.new.self).known (writer_of c.list.new.self)
writer g c =
    listed_writer c.filed_records_stay.ensures.items g.A.Area _ (λ items. items.items) (knowledge_of c.args.self.now) (knowledge_of c.list.new.self) c.list.result
    c.list.ensures.lists c.make_ready.new.writer (writer_of c.list.new.self) c.list.ensures.rest
    (c.make_ready.ensures.writer (tells_lists g.A.Area) (knowledge_of c.args.self.now).known c.requires.writer)

-- the writer was given what was listed
next : (g : _) (c : After-give g) → AreNext (tells_lists g.A.Area) (knowledge_of c.list.new.self).known (taken_of (writer_of c.list.new.self)) c.deref.result.now
next g c =
    listed_next c.filed_records_stay.ensures.items g.A.Area _ (λ items. items.items) (knowledge_of c.args.self.now) (knowledge_of c.list.new.self) c.list.result
    c.list.ensures.lists c.make_ready.new.writer (writer_of c.list.new.self) c.list.ensures.rest
    (c.make_ready.ensures.writer (tells_lists g.A.Area) (knowledge_of c.args.self.now).known c.requires.writer) _ c.in-Ok-list.is c.deref.result.now c.deref.ensures.value refl

given : (g : _) (c : After-give g) → IsWriterOf (tells_lists g.A.Area) (knowledge_of c.list.new.self).known (writer_of c.list.new.self)
    → IsWriterOf (tells_lists g.A.Area) (knowledge_of c.list.new.self).known c.give.new.writer
given g c before = c.give.ensures.writer (tells_lists g.A.Area) (knowledge_of c.list.new.self).known before (next g c)

files : (g : _) (c : After-give g) → IsWriterOf (tells_lists g.A.Area) (knowledge_of c.list.new.self).known (writer_of c.list.new.self)
    → WhereTold (tells_lists g.A.Area) (KeepsFiles g.F.Shelf (knowledge_of c.list.new.self).known (writer_of c.args.self.now) c.give.new.writer)
files g c before = λ told it_is all begins holds.
    c.give.ensures.files it_is (knowledge_of c.list.new.self).known all
    (subst (λ b. IsWriterOf b (knowledge_of c.list.new.self).known (writer_of c.list.new.self)) told before) (λ x. next g c told) begins
    (subst (λ w. HoldsFilesOf all w) (sym c.list.ensures.rest) (c.make_ready.ensures.files it_is all holds))

later : (g : _) (c : After-give g) → IsWriterOf (tells_lists g.A.Area) (knowledge_of c.list.new.self).known (writer_of c.list.new.self)
    → g.F.Shelf.faults (shelf_of (writer_of c.args.self.now)) ≤ g.F.Shelf.faults (shelf_of c.give.new.writer)
later g c before =
    let has = before (search rules) in
    later_by _ _ _ _ c.make_ready.ensures.later (ap (λ (w : Writer _ _). g.F.Shelf.faults (shelf_of w)) c.list.ensures.rest)
    (c.give.ensures.later has.items has.at)

pub returns-in-Err-Device-clause-writer : goal.returns-in-Err-Device-clause-writer
returns-in-Err-Device-clause-writer g c = writer g (goal.at.returns-in-Err-Device-clause-writer g c).After-list

pub returns-in-Err-Device-clause-turns : goal.returns-in-Err-Device-clause-turns
returns-in-Err-Device-clause-turns g c = turns g (goal.at.returns-in-Err-Device-clause-turns g c).After-list

pub returns-in-Err-Device-clause-grows : goal.returns-in-Err-Device-clause-grows
returns-in-Err-Device-clause-grows g c = grows g (goal.at.returns-in-Err-Device-clause-grows g c).After-list

pub returns-in-Err-NoMemory-clause-writer : goal.returns-in-Err-NoMemory-clause-writer
returns-in-Err-NoMemory-clause-writer g c = writer g (goal.at.returns-in-Err-NoMemory-clause-writer g c).After-list

pub returns-in-Err-NoMemory-clause-turns : goal.returns-in-Err-NoMemory-clause-turns
returns-in-Err-NoMemory-clause-turns g c = turns g (goal.at.returns-in-Err-NoMemory-clause-turns g c).After-list

pub returns-in-Err-NoMemory-clause-grows : goal.returns-in-Err-NoMemory-clause-grows
returns-in-Err-NoMemory-clause-grows g c = grows g (goal.at.returns-in-Err-NoMemory-clause-grows g c).After-list

pub returns-then-taken-gt-MOST_TAKEN-clause-writer : goal.returns-then-taken-gt-MOST_TAKEN-clause-writer
returns-then-taken-gt-MOST_TAKEN-clause-writer g c = writer g (goal.at.returns-then-taken-gt-MOST_TAKEN-clause-writer g c).After-list

pub returns-then-taken-gt-MOST_TAKEN-clause-turns : goal.returns-then-taken-gt-MOST_TAKEN-clause-turns
returns-then-taken-gt-MOST_TAKEN-clause-turns g c = turns g (goal.at.returns-then-taken-gt-MOST_TAKEN-clause-turns g c).After-list

pub returns-then-taken-gt-MOST_TAKEN-clause-grows : goal.returns-then-taken-gt-MOST_TAKEN-clause-grows
returns-then-taken-gt-MOST_TAKEN-clause-grows g c = grows g (goal.at.returns-then-taken-gt-MOST_TAKEN-clause-grows g c).After-list

pub returns-in-Ok-give-clause-turns : goal.returns-in-Ok-give-clause-turns
returns-in-Ok-give-clause-turns g c = turns g (goal.at.returns-in-Ok-give-clause-turns g c).After-list

pub returns-in-Ok-give-clause-grows : goal.returns-in-Ok-give-clause-grows
returns-in-Ok-give-clause-grows g c = grows g (goal.at.returns-in-Ok-give-clause-grows g c).After-list

pub returns-in-Ok-give-clause-writer : goal.returns-in-Ok-give-clause-writer
returns-in-Ok-give-clause-writer g c =
    let at = goal.at.returns-in-Ok-give-clause-writer g c in given g at.After-give (writer g at.After-list)

pub returns-in-Ok-give-clause-files : goal.returns-in-Ok-give-clause-files
returns-in-Ok-give-clause-files g c =
    let at = goal.at.returns-in-Ok-give-clause-files g c in files g at.After-give (writer g at.After-list)

pub returns-in-Ok-give-clause-later : goal.returns-in-Ok-give-clause-later
returns-in-Ok-give-clause-later g c =
    let at = goal.at.returns-in-Ok-give-clause-later g c in later g at.After-give (writer g at.After-list)

pub returns-in-Err-Device-give-clause-grows : goal.returns-in-Err-Device-give-clause-grows
returns-in-Err-Device-give-clause-grows g c = grows g (goal.at.returns-in-Err-Device-give-clause-grows g c).After-list

pub returns-in-Err-Device-give-clause-writer : goal.returns-in-Err-Device-give-clause-writer
returns-in-Err-Device-give-clause-writer g c =
    let at = goal.at.returns-in-Err-Device-give-clause-writer g c in given g at.After-give (writer g at.After-list)

pub returns-in-Err-Device-give-clause-files : goal.returns-in-Err-Device-give-clause-files
returns-in-Err-Device-give-clause-files g c =
    let at = goal.at.returns-in-Err-Device-give-clause-files g c in files g at.After-give (writer g at.After-list)

pub returns-in-Err-Device-give-clause-later : goal.returns-in-Err-Device-give-clause-later
returns-in-Err-Device-give-clause-later g c =
    let at = goal.at.returns-in-Err-Device-give-clause-later g c in later g at.After-give (writer g at.After-list)

pub returns-clause-grows : goal.returns-clause-grows
returns-clause-grows g c = grows g (goal.at.returns-clause-grows g c).After-list

pub returns-clause-writer : goal.returns-clause-writer
returns-clause-writer g c =
    let at = goal.at.returns-clause-writer g c in given g at.After-give (writer g at.After-list)

pub returns-clause-files : goal.returns-clause-files
returns-clause-files g c =
    let at = goal.at.returns-clause-files g c in files g at.After-give (writer g at.After-list)

pub returns-clause-later : goal.returns-clause-later
returns-clause-later g c =
    let at = goal.at.returns-clause-later g c in later g at.After-give (writer g at.After-list)

pub returns-in-Err-Device-clause-tells : goal.returns-in-Err-Device-clause-tells
returns-in-Err-Device-clause-tells g c =
    failed_in g.A.Area _ _ (λ items. items.items) (knowledge_of c.args.self.now) (knowledge_of c.list.new.self) c.list.result c.list.ensures.lists
    (c.in-Err-Device.is ∙ ap (λ f. Err f) c.in-Err-Device.field-0-is)

pub returns-in-Ok-give-clause-tells : goal.returns-in-Ok-give-clause-tells
returns-in-Ok-give-clause-tells g c =
    record {
      turn = _;
      listed = listed_in g.A.Area _ _ (λ items. items.items) (knowledge_of c.args.self.now) (knowledge_of c.list.new.self) c.list.result c.list.ensures.lists;
      count = listed_count c.filed_records_stay.ensures.items g.A.Area _ (λ items. items.items) (knowledge_of c.args.self.now) (knowledge_of c.list.new.self) c.list.result
          c.list.ensures.lists c.make_ready.new.writer (writer_of c.list.new.self) c.list.ensures.rest
          (c.make_ready.ensures.writer (tells_lists g.A.Area) (knowledge_of c.args.self.now).known c.requires.writer) _ c.in-Ok-list.is c.deref.result.now c.deref.ensures.value
          _ _ (search rules) c.in-Ok.ensures.taken;
      taken = search rules;
      ready = c.in-Ok-give.ensures.count.0;
    }

pub returns-in-Err-Device-give-clause-tells : goal.returns-in-Err-Device-give-clause-tells
returns-in-Err-Device-give-clause-tells g c =
    let has = writer g (goal.at.returns-in-Err-Device-give-clause-tells g c).After-list (search rules) in
    subst (λ n. Rose n (g.F.Shelf.faults (shelf_of c.give.new.writer)))
    (ap (λ (w : Writer _ _). g.F.Shelf.faults (shelf_of w)) c.list.ensures.rest ∙ c.in-Ok.ensures.still)
    (c.give.ensures.shelf (c.in-Err-Device-give.is ∙ ap (λ f. Err f) c.in-Err-Device-give.field-0-is) has.items has.at)

pub returns-then-taken-gt-MOST_TAKEN-clause-tells : goal.returns-then-taken-gt-MOST_TAKEN-clause-tells
returns-then-taken-gt-MOST_TAKEN-clause-tells g c =
    let few = listed_room c.filed_records_stay.ensures.items g.A.Area _ (λ items. items.items) (knowledge_of c.args.self.now) (knowledge_of c.list.new.self) c.list.result
    c.list.ensures.lists c.make_ready.new.writer (writer_of c.list.new.self) c.list.ensures.rest
    (c.make_ready.ensures.writer (tells_lists g.A.Area) (knowledge_of c.args.self.now).known c.requires.writer)
    (λ book told. omega (arith, c.a_book_is_within_the_limits.ensures.items told book, c.a_book_is_within_the_limits.ensures.short book))
    _ c.in-Ok-list.is c.in-Ok-list.items.items refl refl (search rules) in
    record {
      turn = _;
      listed = listed_in g.A.Area _ _ (λ items. items.items) (knowledge_of c.args.self.now) (knowledge_of c.list.new.self) c.list.result c.list.ensures.lists;
      count = λ told. absurd (omega (arith, few told, c.if-taken-gt-MOST_TAKEN.true));
      taken = search rules;
      ready = search rules;
    }
