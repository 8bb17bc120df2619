use Rattle.std.proofs.Common.{ℕ, List, sym, ◌∙◌, ap, subst, arith, rules}
use Rattle.gate_journal.proofs.Names.{big_bytes, Fits, IsBehind, IsTrue, kept_refl, kept_trans, runs_on, Whole}
use Rattle.gate_journal.proofs.Openings.{none_below, one_more}
use Rattle.gate_journal.proofs.Turns.{other_bool}
use Rattle.gate_journal.proofs.reading.scan.Goals as goal

pub batches-init : goal.batches-init
batches-init g c = search (rules, none_below, kept_refl)

pub batches-preserved : goal.batches-preserved
batches-preserved g c =
    let i = c.batches.invariant in
    let read = c.in_ok-read_gate.ensures in
    let fits = subst (λ b. Fits (g.A.Area.size c.batches.area) c.batches.at b) c.in-Whole.is read.fits in
    let reads = λ (told : IsTrue g.A.Area.tells_octets).
    subst (λ (o : List ℕ). IsBehind o c.batches.at (Whole c.in-Whole.length)) i.kept.octets (subst (λ b. IsBehind (g.A.Area.octets c.batches.area) c.batches.at b) c.in-Whole.is (read.reads told)) in
    record {
      low = omega arith;
      high = omega (arith, i.kept.size, fits.1);
      below = λ told.
          one_more c.batches.at c.from.result (g.A.Area.octets c.args.area.now) i.low (omega (arith, c.area_laws.ensures.whole c.args.area.now told, i.kept.size, fits.1)) (reads told).0
          ((reads told).2 ∙ ap (λ n. big_bytes 4 n) (sym c.from.ensures)) (omega (arith, fits.0)) (i.below told);
      kept = kept_trans g.A.Area _ c.batches.area _ i.kept read.kept;
      faults = read.cause.ok ∙ i.faults;
    }

pub returns-in_err-read_gate-clause-runs : goal.returns-in_err-read_gate-clause-runs
returns-in_err-read_gate-clause-runs g c = λ told runs. absurd (other_bool (c.in_err-read_gate.ensures.runs told (runs_on _ _ (c.batches.invariant.kept.planned told) runs)))
