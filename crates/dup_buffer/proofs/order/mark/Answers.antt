use Rattle.std.proofs.Common.{◌≡◌, ◌∙◌, ◌∷◌, Bool, if◌then◌else◌, List, Option, None, Some, ap, sym}
use Rattle.std.proofs.lemmas.Bool.{not-false, not-true}
use Rattle.std.specs.List.{count_by}
use Rattle.std.specs.Prelude.{slice_index_or, slice_set}
use Rattle.dup_buffer.specs.Stored.{IsFound, held_in, is_copy_of, rank}
use Rattle.dup_buffer.specs.declared.copy.HeldCopy.{HeldCopy}
use Rattle.dup_buffer.proofs.HeldLemmas.{from-set, held_found, mark_same, none_held}
use Rattle.dup_buffer.proofs.order.mark.Goals as goal

pub returns-in_default-clause-none : goal.returns-in_default-clause-none
returns-in_default-clause-none c _ = none_held (is_copy_of c.args.node.0 c.args.number) c.args.copies.now.items (rw c.deref.ensures.value at c.in_default.ensures.absent).none

pub returns-then-not-copy-clause-none : goal.returns-then-not-copy-clause-none
returns-then-not-copy-clause-none c _ =
    let items = c.args.copies.now.items in
    let is : IsFound items c.in-Ok.at c.args.node.0 c.args.number = rw c.deref.ensures.value at c.in-Ok.ensures.found in
    let one : HeldCopy = c.copy_at-copy.result in
    let here : one ≡ slice_index_or items c.in-Ok.at one = c.copy_at-copy.ensures one ∙ ap (λ (l : List HeldCopy). slice_index_or l c.in-Ok.at one) c.deref-2.ensures.value in
    held_found c.args.node.0 c.args.number items c.in-Ok.at one is
    ∙ ap (λ (k : HeldCopy). if k.held then Some k else None) (sym here)
    ∙ ap {B = Option HeldCopy} (λ (b : Bool). if b then Some one else None) (not-true one.held c.if-not-copy.true)

-- the copy that is marked
found : (c : goal.After-copies-1) → IsFound c.args.copies.now.items c.in-Ok.at c.args.node.0 c.args.number
found c = rw c.deref.ensures.value at c.in-Ok.ensures.found

here : (c : goal.After-copies-1) →
    c.copy_at-copy.result ≡ slice_index_or c.args.copies.now.items c.in-Ok.at c.copy_at-copy.result
here c =
    c.copy_at-copy.ensures c.copy_at-copy.result ∙ ap (λ (l : List HeldCopy).
    slice_index_or l c.in-Ok.at c.copy_at-copy.result) c.deref-2.ensures.value

pub returns-clause-order : goal.returns-clause-order
returns-clause-order c =
    from-set 0 c.args.copies.now.items c.in-Ok.at c.taken.result c.copy_at-copy.result c.requires
    (c.taken.ensures.rank ∙ ap (λ (k : HeldCopy). rank k) (here c)) (found c).inside

pub returns-clause-named : goal.returns-clause-named
returns-clause-named c =
    ap (is_copy_of c.args.node.0 c.args.number) (here c) ∙ (found c).named c.copy_at-copy.result

pub returns-clause-same : goal.returns-clause-same
returns-clause-same c p =
    mark_same c.args.copies.now.items c.in-Ok.at c.taken.result c.copy_at-copy.result (found c).inside
    (ap (λ (k : HeldCopy). k.held) (sym (here c))
    ∙ not-false c.copy_at-copy.result.held c.if-not-copy.false) c.taken.ensures.taken p
    ∙ ap (λ (k : HeldCopy). count_by p (k ∷ held_in (slice_set c.args.copies.now.items c.in-Ok.at c.taken.result)))
    (sym (here c))
