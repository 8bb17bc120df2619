use Rattle.std.proofs.Common.{inl, refl, ap, subst, arith, rules}
use Rattle.gate_journal.proofs.Names.{header, IsScanned, length-header, LiesIn}
use Rattle.gate_journal.specs.declared.faults.OpenFault.TheVariants.{NotOurs}
use Rattle.gate_journal.proofs.Openings.{scanned_listed, scanned_broken, shut_or_broken}
use Rattle.gate_journal.proofs.Apart.{one_broken}
use Rattle.gate_journal.proofs.opening.list.Goals as goal

pub over-requires-clause-listed : goal.over-requires-clause-listed
over-requires-clause-listed g c = λ told. search (rules, scanned_listed, length-header)

pub returns-in-Ok-Broken-clause-broken : goal.returns-in-Ok-Broken-clause-broken
returns-in-Ok-Broken-clause-broken g c = λ told at is. search (rules, scanned_broken, length-header)

pub returns-in_default-clause-foreign : goal.returns-in_default-clause-foreign
returns-in_default-clause-foreign g c = λ told at broken.
    let h = header (g.A.Area.size c.args.area) c.args.address c.args.generation in
    let o = g.A.Area.octets c.args.area in
    let scanned = subst (λ s. IsScanned o s) c.in-Ok-End.field-0-is (c.in-Ok-End.ensures.reads told) in
    let inside = subst (λ s. LiesIn (g.A.Area.size c.args.area) s) c.in-Ok-End.field-0-is c.in-Ok-End.ensures.inside in
    absurd (shut_or_broken h (length-header (g.A.Area.size c.args.area) c.args.address c.args.generation) c.in-Ok-End.gate o (c.requires.same told) inside.0 scanned.0 (omega (arith, c.area_laws.ensures.whole c.args.area told, inside.1)) scanned.1 at broken)

pub returns-in-Ok-clause-foreign : goal.returns-in-Ok-clause-foreign
returns-in-Ok-clause-foreign g c = λ told at broken.
    let h = header (g.A.Area.size c.args.area) c.args.address c.args.generation in
    let o = g.A.Area.octets c.args.area in
    let scanned = subst (λ s. IsScanned o s) c.in-Ok-End.field-0-is (c.in-Ok-End.ensures.reads told) in
    let inside = subst (λ s. LiesIn (g.A.Area.size c.args.area) s) c.in-Ok-End.field-0-is c.in-Ok-End.ensures.inside in
    shut_or_broken h (length-header (g.A.Area.size c.args.area) c.args.address c.args.generation) c.in-Ok-End.gate o (c.requires.same told) inside.0 scanned.0 (omega (arith, c.area_laws.ensures.whole c.args.area told, inside.1)) scanned.1 at broken

pub returns-in-Ok-Broken-clause-foreign : goal.returns-in-Ok-Broken-clause-foreign
returns-in-Ok-Broken-clause-foreign g c = λ told at broken.
    let h = header (g.A.Area.size c.args.area) c.args.address c.args.generation in
    let o = g.A.Area.octets c.args.area in
    let here = returns-in-Ok-Broken-clause-broken g c told c.in-Ok-Broken.at refl in
    inl (ap (λ n. NotOurs n) (one_broken h (length-header (g.A.Area.size c.args.area) c.args.address c.args.generation) o c.in-Ok-Broken.at at here broken))
