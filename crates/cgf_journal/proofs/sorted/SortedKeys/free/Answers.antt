use Rattle.std.proofs.Common.{false, sym}
use Rattle.cgf_journal.proofs.Changes.{absent_stay, changed_grows, live_after}
use Rattle.cgf_journal.proofs.sorted.SortedKeys.free.Goals as goal

pub returns-in-Ok-clause-live : goal.returns-in-Ok-clause-live
returns-in-Ok-clause-live c =
    live_after c.args.self.now c.change.new.self c.in-Ok.at false c.args.node c.args.number c.change.ensures
    (rw c.deref.ensures.value at c.in-Ok.ensures.found)

pub returns-in-Ok-clause-grows : goal.returns-in-Ok-clause-grows
returns-in-Ok-clause-grows c =
    changed_grows c.args.self.now c.change.new.self c.in-Ok.at false c.change.ensures
    (rw c.deref.ensures.value at c.in-Ok.ensures.found).inside

pub returns-in_default-clause-live : goal.returns-in_default-clause-live
returns-in_default-clause-live c =
    sym (absent_stay c.args.node c.args.number false c.args.self.now.round c.args.self.now.keys.items c.in_default.field-0
    (rw c.deref.ensures.value at c.in_default.ensures.absent))
