use Rattle.std.proofs.Common.{◌∷◌, List, length, take, drop, true, sym, ap, ◌∙◌, arith, rules}
use Rattle.std.proofs.lemmas.List.Edits.{length-insert}
use Rattle.cgf_journal.proofs.Names.{All-append, All-cons, All-drop, All-take, HeldKey}
use Rattle.cgf_journal.proofs.Changes.{changed_grows, firm_more, grows_more, length_more, live_after, live_more, new_key}
use Rattle.cgf_journal.proofs.KeysLemmas.{counted_le}
use Rattle.cgf_journal.proofs.Orders.{UpTo, ascending-insert}
use Rattle.cgf_journal.proofs.sorted.SortedKeys.hold.Goals as goal

pub returns-in-Ok-clause-ok : goal.returns-in-Ok-clause-ok
returns-in-Ok-clause-ok c =
    live_after c.args.self.now c.change.new.self c.in-Ok.at true c.args.node c.args.number c.change.ensures
    (rw c.deref.ensures.value at c.in-Ok.ensures.found)

pub returns-in-Ok-clause-grows : goal.returns-in-Ok-clause-grows
returns-in-Ok-clause-grows c =
    grows_more 1 c.args.self.now c.change.new.self (changed_grows c.args.self.now c.change.new.self c.in-Ok.at true
    c.change.ensures (rw c.deref.ensures.value at c.in-Ok.ensures.found).inside)

pub overflow_add-self : goal.overflow_add-self
overflow_add-self c = search (rules, counted_le)

pub invariant_of-self : goal.invariant_of-self
invariant_of-self c =
    let old = c.args.self.now in
    let absent = rw c.deref.ensures.value at c.in-Err.ensures.absent in
    let key = new_key c.args.node c.args.number old.round in
    let P = UpTo old.round in
    record {
      enough = omega (arith, old.enough, c.insert.ensures.capacity);
      ascending = rw c.in-Ok-insert.ensures.items (ascending-insert old.keys.items c.in-Err.at key absent.before absent.later old.ascending);
      up_to = rw c.in-Ok-insert.ensures.items
          (All-append P (take c.in-Err.at old.keys.items) (key ∷ drop c.in-Err.at old.keys.items) (All-take P c.in-Err.at old.keys.items old.up_to)
          (All-cons P key (drop c.in-Err.at old.keys.items) (omega arith, omega (arith, c.ranges.number.fits)) (All-drop P c.in-Err.at old.keys.items old.up_to)));
      firm_counted = old.firm_counted ∙ ap (λ (l : List HeldKey). length l) (sym (firm_more c.args.node c.args.number old.round old.keys.items c.insert.new.self.items c.in-Err.at c.in-Ok-insert.ensures.items));
      live_counted = omega (arith, old.live_counted, length_more c.args.node c.args.number old.round old.keys.items c.insert.new.self.items c.in-Err.at absent c.in-Ok-insert.ensures.items);
    }

pub returns-in-Ok-insert-clause-ok : goal.returns-in-Ok-insert-clause-ok
returns-in-Ok-insert-clause-ok c = search (rules, live_more)

pub returns-in-Ok-insert-clause-grows : goal.returns-in-Ok-insert-clause-grows
returns-in-Ok-insert-clause-grows c = search (rules, firm_more, length-insert)
