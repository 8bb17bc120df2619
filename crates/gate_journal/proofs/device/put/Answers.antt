use Rattle.gate_journal.proofs.Counts.{one_call, more_calls}
use Rattle.std.proofs.Common.{ℕ, List, length, ap, subst, sym, rules}
use Rattle.gate_journal.proofs.Names.{begin, is_err, step, Torn, torn_write}
use Rattle.area_disk.specs.Octets.{torn_same}
use Rattle.gate_journal.proofs.Plans.{put_failed, put_synced}
use Rattle.gate_journal.proofs.device.put.Goals as goal

pub returns-clause-calls : goal.returns-clause-calls
returns-clause-calls g c = λ told.
    more_calls 1 1 _ _ _ c.sync.result (c.write_at.ensures.calls told) (one_call _ _ c.sync.result (c.sync.ensures.calls told))

pub returns-in_err-write_at-clause-planned : goal.returns-in_err-write_at-clause-planned
returns-in_err-write_at-clause-planned g c = λ told. put_failed (g.A.Area.fate c.args.area.now) c.args.at c.args.from.now c.write_at.result c.from_residual.result (g.A.Area.fate c.write_at.new.self) (c.write_at.ensures.planned told) (ap is_err c.in_err-write_at.was) c.from_residual.ensures.0

pub returns-clause-planned : goal.returns-clause-planned
returns-clause-planned g c = λ told. search (rules, put_synced)

pub returns-in_err-write_at-clause-any_moment : goal.returns-in_err-write_at-clause-any_moment
returns-in_err-write_at-clause-any_moment g c = λ only. search (rules, begin, torn_same, step, torn_write)

pub returns-clause-any_moment : goal.returns-clause-any_moment
returns-clause-any_moment g c = λ only.
    let area = g.A.Area in
    let old = c.args.area.now in
    let mid = c.write_at.new.self in
    let n = length c.args.from.now in
    let IsTorn : List ℕ → Type 0 = Torn c.args.at n (area.octets old) in
    let torn = torn_write area old mid c.args.at n only c.write_at.ensures.crash in
    let before = begin area c.area_laws.ensures.only_now old IsTorn (λ o left. subst (λ (d : List ℕ). IsTorn d) (sym (only o left)) (torn_same c.args.at n (area.octets old))) in
    let written = step area old old mid IsTorn before c.write_at.ensures.time torn in
    step area old mid c.sync.new.self IsTorn written c.sync.ensures.time (λ o left. torn o (c.sync.ensures.crash o left))
