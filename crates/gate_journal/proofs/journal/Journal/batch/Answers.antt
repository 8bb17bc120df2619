use Rattle.std.proofs.Common.{◌≡◌, ◌≤◌, ◌+◌, ℕ, List, [], ◌∷◌, ◌++◌, length, refl, sym, ◌∙◌, ap, subst, arith}
use Rattle.gate_journal.proofs.Names.{batches, batches_below, before_end, IfSome, is_some, longest_batch, next_gate, Option, unwrap_or}
use Rattle.gate_journal.specs.Reading.{IsBatch}
use Rattle.gate_journal.proofs.Kept.{kept_journal}
use Rattle.gate_journal.proofs.Finding.{content_inside, found_at, if_some, next, there}
use Rattle.gate_journal.proofs.States.{settled}
use Rattle.gate_journal.proofs.Turns.{other_bool}
use Rattle.gate_journal.proofs.journal.Journal.batch.Goals as goal

pub returns-then-gate-self-clause-found : goal.returns-then-gate-self-clause-found
unfolding batches
returns-then-gate-self-clause-found g c = λ told some batch more is at.
    let j = c.args.self.now in
    let place = (settled g.A.Area c.area_laws.ensures j c.requires.ready).place told in
    absurd (omega (arith, place, at, before_end (batches_below j.gate (g.A.Area.octets j.area)) some batch more is))

pub returns-in-Ok-clause-found : goal.returns-in-Ok-clause-found
unfolding batches
returns-in-Ok-clause-found g c = λ told some batch more is at. c.content_behind.ensures ∙ found_at g.A.Area c.area_laws.ensures c.args.self.now told c.args.gate c.in-Ok.behind (c.in-Ok.ensures.reads told.0) some batch more is at

pub returns-in-Ok-clause-some : goal.returns-in-Ok-clause-some
unfolding batches
returns-in-Ok-clause-some g c =
    let inside = subst (λ r. IfSome r (λ content. (content.0 ≡ c.args.gate + 5) × (content.0 + content.1 ≤ c.args.self.now.gate) × (content.1 ≤ longest_batch))) (sym c.content_behind.ensures)
    (content_inside (g.A.Area.size c.args.self.now.area) c.in-Ok.behind c.args.gate c.args.self.now.gate c.in-Ok.ensures.fits) in
    if_some c.content_behind.result (λ content. (content.0 ≡ c.args.gate + 5) × (content.0 + content.1 ≤ c.args.self.now.gate) × (content.1 ≤ longest_batch)) _ inside (λ x answer p. record {
      batch = λ told.
          let behind = c.requires.gate.behind told in
          let here = next g.A.Area c.area_laws.ensures c.args.self.now told c.args.gate c.in-Ok.behind (c.in-Ok.ensures.reads told.0) c.requires.ready c.requires.gate (omega arith) in
          subst (λ r. IfSome r (λ content. IsBatch c.args.self.now c.args.gate content.0 content.1)) (sym (c.content_behind.ensures ∙ there g.A.Area c.area_laws.ensures c.args.self.now told c.args.gate c.in-Ok.behind (c.in-Ok.ensures.reads told.0) c.requires.ready c.requires.gate (omega arith)) ∙ answer)
          (record { before = behind.0; content = here.0; behind = here.1; listed = here.2; gate_is = behind.3; place = refl; size = refl });
      place = p.0;
      inside = p.1;
      short = p.2;
      next = record {
        low = omega (arith, p.0, c.requires.gate.low);
        high = p.1;
        behind = λ told.
            let j = c.args.self.now in
            let behind = c.requires.gate.behind told in
            let here = next g.A.Area c.area_laws.ensures c.args.self.now told c.args.gate c.in-Ok.behind (c.in-Ok.ensures.reads told.0) c.requires.ready c.requires.gate (omega arith) in
            let same : x ≡ (c.args.gate + 5, length here.0) = ap (λ (o : Option (ℕ × ℕ)). unwrap_or o x) (sym answer ∙ c.content_behind.ensures ∙ there g.A.Area c.area_laws.ensures c.args.self.now told c.args.gate c.in-Ok.behind (c.in-Ok.ensures.reads told.0) c.requires.ready c.requires.gate (omega arith)) in
            let goes = next_gate (batches_below j.gate (g.A.Area.octets j.area)) behind.0 here.0 here.1 c.args.gate here.2 behind.3 in
            (behind.0 ++ here.0 ∷ [], here.1, ap (λ (o : List ℕ). batches_below j.gate o) c.read_gate.ensures.kept.octets ∙ goes.0, ap (λ (q : ℕ × ℕ). q.0 + q.1) same ∙ goes.1);
      };
    })

pub returns-in-Ok-clause-none : goal.returns-in-Ok-clause-none
returns-in-Ok-clause-none g c = λ told.
    ((λ none. absurd (other_bool (sym (ap is_some (c.content_behind.ensures ∙ there g.A.Area c.area_laws.ensures c.args.self.now told c.args.gate c.in-Ok.behind (c.in-Ok.ensures.reads told.0) c.requires.ready c.requires.gate (omega arith))) ∙ none))), λ at. absurd (omega arith))

pub returns-in-Ok-clause-kept : goal.returns-in-Ok-clause-kept
returns-in-Ok-clause-kept g c = kept_journal _ _ (record { buffer = refl; gate = refl; torn_length = refl; is_torn = refl; front = refl; address = refl; generation = refl }) c.read_gate.ensures.kept

pub returns-in-Err-clause-kept : goal.returns-in-Err-clause-kept
returns-in-Err-clause-kept g c = kept_journal _ _ (record { buffer = refl; gate = refl; torn_length = refl; is_torn = refl; front = refl; address = refl; generation = refl }) c.read_gate.ensures.kept
