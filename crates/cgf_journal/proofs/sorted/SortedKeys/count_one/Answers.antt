use Rattle.std.proofs.Common.{List, ◌∙◌, ap}
use Rattle.cgf_journal.proofs.Names.{KeptKey, slice_index_or}
use Rattle.cgf_journal.proofs.Changes.{found_gone, none_gone}
use Rattle.cgf_journal.proofs.sorted.SortedKeys.count_one.Goals as goal

pub returns-in-Ok : goal.returns-in-Ok
returns-in-Ok c =
    let s = c.args.self.now in
    rw (c.one_if.ensures, c.counts.ensures) (found_gone c.args.node c.args.number c.args.firm s.round s.keys.items c.in-Ok.at (rw c.deref.ensures.value at c.in-Ok.ensures.found) c.kept_at.result
    (c.kept_at.ensures c.kept_at.result ∙ ap (λ (l : List KeptKey). slice_index_or l c.in-Ok.at c.kept_at.result) c.deref-in-Ok.ensures.value))

pub returns-in-Err : goal.returns-in-Err
returns-in-Err c =
    let s = c.args.self.now in
    none_gone c.args.node c.args.number c.args.firm s.round s.keys.items c.in-Err.field-0 (rw c.deref.ensures.value at c.in-Err.ensures.absent)
