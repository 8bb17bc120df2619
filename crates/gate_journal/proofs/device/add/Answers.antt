use Rattle.std.proofs.Common.{◌≡◌, ◌+◌, ◌≤◌, List, ℕ, length, ap, subst, arith, rules}
use Rattle.gate_journal.proofs.Names.{is_err, join, Outcome3, Torn, widen}
use Rattle.gate_journal.proofs.Laying.{staged, length-staged, behind_gate, at_gate, gate_opened}
use Rattle.gate_journal.proofs.Plans.{append_stopped, append_ended}
use Rattle.gate_journal.proofs.Counts.{more_calls}
use Rattle.gate_journal.proofs.device.add.Goals as goal

pub returns-in_err-put-clause-any_moment : goal.returns-in_err-put-clause-any_moment
returns-in_err-put-clause-any_moment g c = λ told shut only.
    let fits : c.args.gate + 1 + length c.args.frame.now ≤ length (g.A.Area.octets c.args.area.now) = omega (arith, c.area_laws.ensures.whole c.args.area.now told.0) in
    widen g.A.Area _ _ _ _ (behind_gate c.args.gate c.args.frame.now _ fits shut) (c.put.ensures.any_moment only)

pub returns-clause-added : goal.returns-clause-added
returns-clause-added g c = λ told. search (rules, gate_opened)

pub returns-clause-any_moment : goal.returns-clause-any_moment
returns-clause-any_moment g c = λ told shut only.
    let fits : c.args.gate + 1 + length c.args.frame.now ≤ length (g.A.Area.octets c.args.area.now) = omega (arith, c.area_laws.ensures.whole c.args.area.now told.0) in
    let is_staged : g.A.Area.octets c.put.new.area ≡ staged c.args.gate c.args.frame.now (g.A.Area.octets c.args.area.now) fits = c.in_ok-put.ensures.written told.0 in
    join g.A.Area _ c.put.new.area _ _ (widen g.A.Area _ _ _ _ (behind_gate c.args.gate c.args.frame.now _ fits shut) (c.put.ensures.any_moment only))
    (widen g.A.Area _ _ _ _
    (λ d torn. at_gate c.args.gate c.args.frame.now _ fits d (subst (λ (o : List ℕ). Torn c.args.gate 1 o d) is_staged torn))
    (c.put-2.ensures.any_moment (c.in_ok-put.ensures.durable told.1)))

pub returns-clause-calls : goal.returns-clause-calls
returns-clause-calls g c = λ told.
    more_calls 2 2 _ _ _ c.put-2.result (c.in_ok-put.ensures.calls told).ok (c.put-2.ensures.calls told)

pub returns-in_err-put-clause-planned : goal.returns-in_err-put-clause-planned
returns-in_err-put-clause-planned g c = λ fate told shut only.
    let o = g.A.Area.octets c.args.area.now in
    let inside : c.args.gate + 1 ≤ length (g.A.Area.octets c.args.area.now) = omega (arith, c.area_laws.ensures.whole c.args.area.now told.0, c.requires.inside) in
    let same = λ (outcome : Outcome3). only ((g.A.Area.fate c.args.area.now).leaves outcome) (c.area_laws.ensures.may_stop c.args.area.now outcome fate) in
    append_stopped (g.A.Area.fate c.args.area.now) c.args.gate c.args.frame.now o inside shut same c.put.result c.from_residual.result (g.A.Area.fate c.put.new.area) (c.put.ensures.planned fate) (ap is_err c.in_err-put.was) c.from_residual.ensures.0

pub returns-clause-planned : goal.returns-clause-planned
returns-clause-planned g c = λ fate told shut only.
    let o = g.A.Area.octets c.args.area.now in
    let inside : c.args.gate + 1 ≤ length (g.A.Area.octets c.args.area.now) = omega (arith, c.area_laws.ensures.whole c.args.area.now told.0, c.requires.inside) in
    let same = λ (outcome : Outcome3). only ((g.A.Area.fate c.args.area.now).leaves outcome) (c.area_laws.ensures.may_stop c.args.area.now outcome fate) in
    let fits : c.args.gate + 1 + length c.args.frame.now ≤ length (g.A.Area.octets c.args.area.now) = omega (arith, c.area_laws.ensures.whole c.args.area.now told.0, c.requires.inside) in
    append_ended (g.A.Area.fate c.args.area.now) c.args.gate c.args.frame.now o inside shut same c.put.result c.put-2.result (g.A.Area.fate c.put.new.area) (g.A.Area.fate c.put-2.new.area) (c.put.ensures.planned fate) (ap is_err c.in_ok-put.was)
    (c.put-2.ensures.planned fate) (omega (arith, length-staged c.args.gate c.args.frame.now o fits))
