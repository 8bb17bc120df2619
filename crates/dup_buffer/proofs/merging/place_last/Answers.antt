use Rattle.std.proofs.Common.{◌+◌, ◌-◌, refl, subst, sym}
use Rattle.std.specs.Prelude.{slice_set}
use Rattle.dup_buffer.specs.Stored.{IsMerging}
use Rattle.dup_buffer.specs.declared.copy.HeldCopy.{HeldCopy}
use Rattle.dup_buffer.proofs.MergeLemmas.{last_apart, place_kept, place_late}
use Rattle.dup_buffer.proofs.merging.place_last.Goals as goal

pub returns-then-late_is_last-clause-placed : goal.returns-then-late_is_last-clause-placed
returns-then-late_is_last-clause-placed c kept once is =
    let copies = c.args.copies.now in
    let late = c.args.late.now in
    let i = c.args.i in
    let j = c.args.j in
    let d : HeldCopy = c.copy_at.result in
    subst (λ (k : HeldCopy). IsMerging kept late i (j - 1) (slice_set copies (i + j - 1) k)) (sym (c.copy_at.ensures d))
    (place_late kept late copies i j d c.requires.some c.requires.order is
    (λ some_i. c.if-late_is_last.ensures.late refl d some_i (last_apart kept late copies i j d some_i c.requires.some once is)))

pub returns-clause-placed : goal.returns-clause-placed
returns-clause-placed c kept once is =
    let copies = c.args.copies.now in
    let late = c.args.late.now in
    let i = c.args.i in
    let j = c.args.j in
    let d : HeldCopy = c.copy_at-2.result in
    subst (λ (k : HeldCopy). IsMerging kept late (i - 1) j (slice_set copies (i + j - 1) k)) (sym (c.copy_at-2.ensures d))
    (place_kept kept late copies i j d (c.if-late_is_last.ensures.some refl) c.requires.some is (c.if-late_is_last.ensures.kept refl d))
