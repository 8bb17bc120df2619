use Rattle.std.proofs.Common.{refl, sym, arith, subst, rules}
use Rattle.gate_journal.specs.Format.{IsBroken, header}
use Rattle.gate_journal.proofs.Plans.{append_on, looked}
use Rattle.gate_journal.proofs.Openings.{found_told, starts_told, none_told, foreign_none, foreign_broken, foreign_differs, opened_anew, opened_same, rose_on, calls_behind, calls_made, calls_one, calls_few, leaves_unmade, planned_unmade}
use Rattle.gate_journal.proofs.journal.Journal.open.Goals as goal

pub returns-in-Ok-Starts-clause-ok : goal.returns-in-Ok-Starts-clause-ok
returns-in-Ok-Starts-clause-ok g c = search (rules, starts_told, opened_anew)

pub returns-in-Ok-Starts-clause-foreign : goal.returns-in-Ok-Starts-clause-foreign
returns-in-Ok-Starts-clause-foreign g c = λ told at foreign.
    let starts = starts_told g.A.Area c.args.area c.args.address c.args.generation c.length.ensures
    c.header_of-header.ensures c.in-Ok-Starts.field-0-is c.in-Ok-Starts.ensures.verdict refl in
    absurd (foreign_none g.A.Area c.args.area c.args.address c.args.generation at foreign (starts told))

pub returns-in-Ok-Starts-clause-counted : goal.returns-in-Ok-Starts-clause-counted
returns-in-Ok-Starts-clause-counted g c =
    let starts = starts_told g.A.Area c.args.area c.args.address c.args.generation c.length.ensures
    c.header_of-header.ensures c.in-Ok-Starts.field-0-is c.in-Ok-Starts.ensures.verdict refl in
    record {
      cause = rose_on c.make_anew.result c.args.area c.look.new.area c.in-Ok-Starts.ensures.cause.ok c.make_anew.ensures.cause;
      calls = λ tells told none. absurd (none (starts told));
      calls_anew = λ tells told is. calls_behind 4 c.make_anew.result (g.A.Area.calls c.args.area) c.look.new.area (c.look.ensures.calls tells) (c.make_anew.ensures.calls tells);
      calls_any = λ tells. calls_made 4 c.make_anew.result (g.A.Area.calls c.args.area) c.look.new.area (omega arith) (c.look.ensures.calls tells) (c.make_anew.ensures.calls tells) c.make_anew.ensures.fault (c.make_anew.ensures.calls_device tells);
    }

pub returns-in-Ok-Starts-clause-planned : goal.returns-in-Ok-Starts-clause-planned
returns-in-Ok-Starts-clause-planned g c = λ tells.
    let starts = starts_told g.A.Area c.args.area c.args.address c.args.generation c.length.ensures
    c.header_of-header.ensures c.in-Ok-Starts.field-0-is c.in-Ok-Starts.ensures.verdict refl in
    record {
      unmade = λ told none. absurd (none (starts told));
      anew = λ told is calm. append_on c.make_anew.result _ _ _ (looked _ _ (c.in-Ok-Starts.ensures.planned tells) calm.runs) (c.make_anew.ensures.planned tells);
    }

pub returns-in-Ok-Same-clause-ok : goal.returns-in-Ok-Same-clause-ok
returns-in-Ok-Same-clause-ok g c =
    let none = none_told g.A.Area c.args.area c.args.address c.args.generation c.length.ensures
    c.header_of-header.ensures c.in-Ok-Same.field-0-is c.in-Ok-Same.ensures.verdict refl in
    opened_same g.A.Area c.args.area c.args.address c.args.generation c.look.new.area c.look.ensures.size c.list.result
    c.list.ensures.ok c.list.ensures.kept (λ told. c.in-Ok-Same.ensures.octets told.0) none

pub returns-in-Ok-Same-clause-foreign : goal.returns-in-Ok-Same-clause-foreign
returns-in-Ok-Same-clause-foreign g c = λ told at foreign.
    let same = found_told g.A.Area c.args.area c.args.address c.args.generation c.length.ensures
    c.header_of-header.ensures c.in-Ok-Same.field-0-is c.in-Ok-Same.ensures.verdict refl told in
    let broken = foreign_broken g.A.Area c.args.area c.args.address c.args.generation same at foreign in
    c.list.ensures.foreign told.0 at
    (subst (λ n. IsBroken (header n c.args.address c.args.generation) (g.A.Area.octets c.look.new.area) at)
    (sym c.look.ensures.size) (rw (c.in-Ok-Same.ensures.octets told.0) broken))

pub returns-in-Ok-Same-clause-any_moment : goal.returns-in-Ok-Same-clause-any_moment
returns-in-Ok-Same-clause-any_moment g c =
    let none = none_told g.A.Area c.args.area c.args.address c.args.generation c.length.ensures
    c.header_of-header.ensures c.in-Ok-Same.field-0-is c.in-Ok-Same.ensures.verdict refl in
    leaves_unmade c.list.result c.args.area c.look.new.area _ c.look.ensures.any_moment c.list.ensures.kept none

pub returns-in-Ok-Same-clause-counted : goal.returns-in-Ok-Same-clause-counted
returns-in-Ok-Same-clause-counted g c = search (rules, none_told, rose_on, calls_one, calls_few)

pub returns-in-Ok-Same-clause-planned : goal.returns-in-Ok-Same-clause-planned
returns-in-Ok-Same-clause-planned g c = λ tells. search (rules, none_told, planned_unmade)

pub returns-in-Ok-Other-clause-foreign : goal.returns-in-Ok-Other-clause-foreign
returns-in-Ok-Other-clause-foreign g c = λ told at foreign. search (rules, found_told, foreign_differs)
