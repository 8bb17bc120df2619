use Rattle.std.proofs.Common.{ℕ, ◌+◌, ◌^◌, ◌++◌, List, append_assoc, ap, subst, sym, ◌∙◌, arith}
use Rattle.loop_run.proofs.Names.{open_at, open_of, PacketId, UpTo}
use Rattle.loop_run.proofs.OpenLemmas.{open_upto, up_to_more, upto_more}
use Rattle.loop_run.proofs.ending.with_node.Goals as goal

pub with_number-found-requires : goal.with_number-found-requires
with_number-found-requires c = up_to_more (2 ^ 62 + c.loop-place.place) (2 ^ 63) c.loop-place.found
    (let range = c.ranges.packets.fits in let less = c.loop-place-test.true in omega (arith, range, less))
    (c.loop-place.invariant.few (2 ^ 62) c.requires)

pub loop-place-preserved : goal.loop-place-preserved
loop-place-preserved c = record {
  found = λ before is. c.with_number-found.ensures.found (before ++ open_upto c.args.node.now c.loop-place.place)
      (c.loop-place.invariant.found before is)
      ∙ ap (λ (l : List PacketId). open_of l)
      (append_assoc before (open_upto c.args.node.now c.loop-place.place) _
      ∙ ap (λ (l : List PacketId). before ++ l)
      (ap (λ (n : ℕ). open_upto c.args.node.now c.loop-place.place ++ open_at c.args.node.now (n + 1)) c.from.ensures
      ∙ sym (upto_more c.args.node.now c.loop-place.place)));
  few = λ n up. subst (λ (m : ℕ). UpTo m c.with_number-found.result) (omega arith)
      (c.with_number-found.ensures.few (n + c.loop-place.place) (c.loop-place.invariant.few n up));
}
