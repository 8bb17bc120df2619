use Rattle.std.proofs.Common.{List, count_by, sym, ap, ◌∙◌, arith}
use Rattle.node_core.specs.Counting.{copies_among}
use Rattle.node_core.specs.declared.copy.PacketCopy.{PacketCopy}
use Rattle.loop_audit.specs.Audit.{stands_at}
use Rattle.loop_audit.specs.Standing.{histories_of}
use Rattle.loop_audit.proofs.StandLemmas.{all_in_front, at_most_one, count_all, count_next, told_at}
use Rattle.loop_audit.proofs.auditing.count_places.Goals as goal

pub returns-in_default : goal.returns-in_default
returns-in_default g c = λ told.
    c.loop-k.invariant.counted told
    ∙ ap (λ (l : List PacketCopy). count_by (stands_at (histories_of c.args.books.now) c.args.node.now) l)
    (all_in_front (copies_among c.args.node.now.packets c.args.number) c.loop-k.k (sym c.in_default.is
    ∙ c.copy.ensures))

pub overflow_add-places : goal.overflow_add-places
overflow_add-places g c =
    let few = c.loop-k.invariant.few in
    let one = at_most_one c.stands.result c.from-places.result c.from-places.ensures in
    let more = c.loop-k-test.true in omega (arith, few, one, more)

pub loop-k-preserved : goal.loop-k-preserved
loop-k-preserved g c =
    let few = c.loop-k.invariant.few in
    let one = at_most_one c.stands.result c.from-places.result c.from-places.ensures in
    record {
      few = omega (arith, few, one);
      counted = λ told.
          let at = told_at (copies_among c.args.node.now.packets c.args.number) c.loop-k.k c.in-Some.copy
          (sym c.in-Some.is ∙ c.copy.ensures) in
          count_next (stands_at (histories_of c.args.books.now) c.args.node.now)
          (copies_among c.args.node.now.packets c.args.number) c.loop-k.k c.loop-k.places c.from-places.result at.copy
          c.stands.result at.below at.is (c.loop-k.invariant.counted told) (c.stands.ensures told at.copy at.told_is)
          c.from-places.ensures;
    }

pub returns : goal.returns
returns g c = λ told.
    count_all (stands_at (histories_of c.args.books.now) c.args.node.now)
    (copies_among c.args.node.now.packets c.args.number) c.loop-k.k c.loop-k.places
    (omega (arith, c.requires, c.loop-k-test.false)) (c.loop-k.invariant.counted told)
