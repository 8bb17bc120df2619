use Rattle.std.proofs.Common.{◌∙◌, Some, None, if◌then◌else◌, ap, sym}
use Rattle.dup_buffer.specs.Stored.{is_copy_of}
use Rattle.dup_buffer.specs.declared.copy.HeldCopy.{HeldCopy}
use Rattle.dup_buffer.proofs.HeldLemmas.{held_found, none_held}
use Rattle.dup_buffer.proofs.order.find_held.Goals as goal

pub returns-in-Ok : goal.returns-in-Ok
returns-in-Ok c =
    c.if_held.ensures
    ∙ ap (λ (k : HeldCopy). if k.held then Some k else None) (c.copy_at.ensures c.copy_at.result)
    ∙ sym (held_found c.args.node.0 c.args.number c.args.copies.now c.in-Ok.at c.copy_at.result c.in-Ok.ensures.found)

pub returns-in-Err : goal.returns-in-Err
returns-in-Err c = sym (none_held (is_copy_of c.args.node.0 c.args.number) c.args.copies.now c.in-Err.ensures.absent.none)
