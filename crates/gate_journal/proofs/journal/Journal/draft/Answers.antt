use Rattle.std.proofs.Common.{inl, arith, rules}
use Rattle.gate_journal.proofs.Plans.{looked, put_on}
use Rattle.gate_journal.proofs.Openings.{calls_behind, calls_made, drafted, none_told, rose_on, starts_told}
use Rattle.area_disk.specs.MomentLaws.{widen}
use Rattle.gate_journal.proofs.journal.Journal.draft.Goals as goal

pub returns-in-Ok-Starts-clause-ok : goal.returns-in-Ok-Starts-clause-ok
returns-in-Ok-Starts-clause-ok g c = search (rules, starts_told, drafted)

pub returns-in-Ok-Starts-clause-counted : goal.returns-in-Ok-Starts-clause-counted
returns-in-Ok-Starts-clause-counted g c = record {
  cause = rose_on c.lay.result c.args.area c.look.new.area c.in-Ok-Starts.ensures.cause.ok c.lay.ensures.cause;
  calls = λ tells. calls_behind 2 c.lay.result (g.A.Area.calls c.args.area) c.look.new.area (c.look.ensures.calls tells) (c.lay.ensures.calls tells);
  calls_any = λ tells. calls_made 2 c.lay.result (g.A.Area.calls c.args.area) c.look.new.area (omega arith) (c.look.ensures.calls tells) (c.lay.ensures.calls tells) c.lay.ensures.fault (c.lay.ensures.calls_device tells);
}

pub returns-in-Ok-Starts-clause-planned : goal.returns-in-Ok-Starts-clause-planned
returns-in-Ok-Starts-clause-planned g c = λ tells calm. put_on c.lay.result _ _ _ (looked _ _ (c.in-Ok-Starts.ensures.planned tells) calm.runs) (c.lay.ensures.planned tells)

pub returns-in-Ok-Same-clause-err : goal.returns-in-Ok-Same-clause-err
returns-in-Ok-Same-clause-err g c = search (rules, none_told)

pub returns-in-Ok-Other-clause-any_moment : goal.returns-in-Ok-Other-clause-any_moment
returns-in-Ok-Other-clause-any_moment g c = λ told. widen g.A.Area _ _ _ _ (λ d left. inl left) c.look.ensures.any_moment
