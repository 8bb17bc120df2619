use Rattle.std.proofs.Common.{◌+◌, sym, ap, ◌∙◌, arith}
use Rattle.node_core.specs.declared.counts.NodeCounts.{NodeCounts}
use Rattle.loop_audit.specs.Standing.{histories_of}
use Rattle.loop_audit.proofs.NumberLemmas.{few_among, none_of_all, right_there, wrong_there}
use Rattle.loop_audit.proofs.auditing.first_wrong.Goals as goal

pub wrong_packet-requires : goal.wrong_packet-requires
wrong_packet-requires g c = few_among c.args.node.now.packets (c.loop-before.before + 1) c.requires.few

pub returns-in-Some : goal.returns-in-Some
returns-in-Some g c = λ told.
    let count = ap (λ (n : NodeCounts). n.packets) c.counts-before-end.ensures in
    let more = c.loop-before-test.true in
    wrong_there (histories_of c.args.books.now) c.args.node.now c.requires c.loop-before.before c.in-Some.wrong
    (omega (arith, count, more)) (c.loop-before.invariant told)
    (λ packet is. sym c.in-Some.is ∙ c.wrong_packet.ensures told packet is)

pub loop-before-preserved : goal.loop-before-preserved
loop-before-preserved g c = λ told.
    let count = ap (λ (n : NodeCounts). n.packets) c.counts-before-end.ensures in
    let more = c.loop-before-test.true in
    right_there (histories_of c.args.books.now) c.args.node.now c.requires c.loop-before.before
    (omega (arith, count, more)) (c.loop-before.invariant told)
    (λ packet is. sym c.in_default.is ∙ c.wrong_packet.ensures told packet is)

pub returns : goal.returns
returns g c = λ told.
    let count = ap (λ (n : NodeCounts). n.packets) c.counts-before-end.ensures in
    let all = c.loop-before-test.false in
    none_of_all (histories_of c.args.books.now) c.args.node.now c.requires c.loop-before.before
    (omega (arith, count, all)) (c.loop-before.invariant told)
