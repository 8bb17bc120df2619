use Rattle.std.proofs.Common.{◌≡◌, List, None, Option, sym, ap, ◌∙◌, arith}
use Rattle.std.specs.List.{find}
use Rattle.std.specs.Option.{option_map_or}
use Rattle.std.proofs.lemmas.List.{take_all}
use Rattle.node_core.specs.Value.{NodeValue}
use Rattle.loop_audit.specs.Audit.{Looked, all_looked, audit_of, is_wrong, wrong_at}
use Rattle.loop_audit.specs.Standing.{histories_of}
use Rattle.loop_audit.specs.declared.audited.Audited.TheVariants.{Fine}
use Rattle.loop_audit.proofs.FindLemmas.{verdict_next, verdict_wrong}
use Rattle.loop_audit.proofs.auditing.audit.Goals as goal

pub returns-in-Some-clause-verdict : goal.returns-in-Some-clause-verdict
returns-in-Some-clause-verdict g c = λ told.
    let verdict : c.in-Some.wrong ≡ audit_of (histories_of c.args.books.now) c.args.nodes.now =
    verdict_wrong (histories_of c.args.books.now) c.args.nodes.now c.loop-node.node-index c.node-item.result
    c.in-Some.wrong
    c.loop-node-test.true c.node-item.is (c.loop-node.invariant told) (sym c.in-Some.is ∙ c.first_wrong.ensures told) in
    cc

pub loop-node-preserved : goal.loop-node-preserved
loop-node-preserved g c = λ told.
    verdict_next (histories_of c.args.books.now) c.args.nodes.now c.loop-node.node-index c.node-item.result
    c.loop-node-test.true c.node-item.is (c.loop-node.invariant told) (sym c.in_default.is ∙ c.first_wrong.ensures told)

pub returns-clause-verdict : goal.returns-clause-verdict
returns-clause-verdict g c = λ told.
    let none : find is_wrong (all_looked (histories_of c.args.books.now) c.args.nodes.now) ≡ None =
    ap (λ (l : List NodeValue). find is_wrong (all_looked (histories_of c.args.books.now) l))
    (sym (take_all c.loop-node.node-index c.args.nodes.now (omega (arith, c.loop-node-test.false))))
    ∙ c.loop-node.invariant told in
    let fine : Fine ≡ audit_of (histories_of c.args.books.now) c.args.nodes.now =
    sym (ap (λ (o : Option Looked). option_map_or wrong_at o Fine) none) in
    cc
