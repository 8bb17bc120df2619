use Rattle.std.proofs.Common.{◌∙◌, List, ap, sym}
use Rattle.std.specs.List.{count_by}
use Rattle.dup_buffer.specs.Stored.{HaveSame, all_held}
use Rattle.dup_buffer.specs.declared.copy.HeldCopy.{HeldCopy}
use Rattle.dup_buffer.proofs.HeldLemmas.{merged_all, settled_all, settled_stored}
use Rattle.dup_buffer.proofs.OrderLemmas.{from-filter}
use Rattle.dup_buffer.proofs.held.settle.Goals as goal

pub merge-requires-clause-copies : goal.merge-requires-clause-copies
merge-requires-clause-copies c = rw c.drop_taken.ensures.items (from-filter (λ (k : HeldCopy). k.held) 0 c.args.kept.now.items c.requires.stored.kept_order)

pub merge-requires-clause-once : goal.merge-requires-clause-once
merge-requires-clause-once c = rw (c.drop_taken.ensures.items, c.deref.ensures.value) c.requires.stored.once

pub returns-clause-stored : goal.returns-clause-stored
returns-clause-stored c =
    let kept = c.args.kept.now.items in
    let late = c.args.late.now.items in
    let new = c.merge.new.copies.items in
    rw c.clear.ensures.items (settled_stored kept late new c.requires.stored c.merge.ensures.order
    (merged_all kept late c.drop_taken.new.copies.items c.deref.result.now new c.drop_taken.ensures.items c.deref.ensures.value c.merge.ensures.same))

pub returns-clause-same : goal.returns-clause-same
returns-clause-same c p =
    let kept = c.args.kept.now.items in
    let late = c.args.late.now.items in
    let new = c.merge.new.copies.items in
    let same : HaveSame (all_held kept late) new = merged_all kept late c.drop_taken.new.copies.items c.deref.result.now new c.drop_taken.ensures.items c.deref.ensures.value c.merge.ensures.same in
    same p ∙ ap (λ (l : List HeldCopy). count_by p l) (sym (settled_all kept late new c.requires.stored.held same) ∙ ap (λ (l : List HeldCopy). all_held new l) (sym c.clear.ensures.items))
