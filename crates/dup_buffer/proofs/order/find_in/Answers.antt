use Rattle.std.proofs.Common.{◌∙◌, Some, ap, sym}
use Rattle.dup_buffer.specs.declared.copy.HeldCopy.{HeldCopy}
use Rattle.dup_buffer.proofs.StoredLemmas.{found_is}
use Rattle.dup_buffer.proofs.order.find_in.Goals as goal

pub returns-in-Ok : goal.returns-in-Ok
returns-in-Ok c =
    ap (λ (k : HeldCopy). Some k) (c.copy_at.ensures c.copy_at.result)
    ∙ sym (found_is c.args.node.0 c.args.number c.args.copies.now c.in-Ok.at c.copy_at.result c.in-Ok.ensures.found)

pub returns-in-Err : goal.returns-in-Err
returns-in-Err c = sym c.in-Err.ensures.absent.none
