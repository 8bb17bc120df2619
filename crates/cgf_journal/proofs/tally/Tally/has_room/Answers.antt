use Rattle.std.proofs.Common.{◌+◌, ◌*◌, if◌then◌else◌, nat_le, sym, ◌∙◌}
use Rattle.cgf_journal.proofs.Names.{capacity_of, entry_view}
use Rattle.cgf_journal.proofs.KeptLemmas.{counted_room, room_for_all}
use Rattle.cgf_journal.proofs.tally.Tally.has_room.Goals as goal

pub returns-then-fits : goal.returns-then-fits
returns-then-fits c =
    room_for_all c.args.behind_firm c.self.inside.keys c.self.inside.firm c.self.inside.live c.of-sum.result c.args.self.now (entry_view c.args.entry.now) c.args.size c.count-held.result
    c.self.view_is c.of-sum.ensures c.count-held.ensures
    ((λ i. nat_le (c.of-sum.result.costs + sym c.cost-cost.ensures i + (76 * (c.count-held.result + 1) + (if sym c.due_after-due.ensures i then 30 else 0))) (capacity_of c.args.size))
    ∙ sym c.fits.ensures ∙ c.if-fits.true)

pub returns : goal.returns
returns c =
    c.fits-2.ensures
    ∙ (λ i. nat_le (c.of-sum.result.costs + c.cost-cost.ensures i + (76 * (c.count_staying-staying.ensures i + c.count_added.ensures i) + (if c.due_after-due.ensures i then 30 else 0))) (capacity_of c.args.size))
    ∙ counted_room c.args.behind_firm c.self.inside.keys c.self.inside.firm c.self.inside.live c.of-sum.result c.args.self.now (entry_view c.args.entry.now) c.args.size c.self.view_is c.of-sum.ensures
