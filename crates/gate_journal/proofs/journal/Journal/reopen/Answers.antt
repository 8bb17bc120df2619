use Rattle.std.proofs.Common.{false, sym, ◌∙◌, ap, arith, rules}
use Rattle.gate_journal.proofs.Names.{batches, closed_by, front_after, open_gate, stop_stands, torn, torn_stands, widen, ◌&&◌, ◌==◌}
use Rattle.gate_journal.proofs.Turns.{other_bool}
use Rattle.gate_journal.proofs.States.{settled, ready_of, open_after, length-last, gate_moves, moves_or_stays, keeps_any, kept, reopened_over}
use Rattle.gate_journal.proofs.journal.Journal.reopen.Goals as goal

pub invariant_of-self : goal.invariant_of-self
invariant_of-self g c =
    let j = c.args.self.now in
    record {
      sound = rw (c.next_gate-self.ensures, c.next_front-self.ensures)
          (reopened_over g.A.Area c.area_laws.ensures j c.see.new.area c.see.ensures.size c.in-Ok.ensures.octets
          c.in-Ok.ensures.durable c.in-Ok.ends.first c.in-Ok.ends.gate c.in-Ok.ensures.seen).0;
      room = omega (arith, j.room, c.see.ensures.size);
    }

pub invariant_of-self-in-Err : goal.invariant_of-self-in-Err
invariant_of-self-in-Err g c = search (rules, kept)

pub returns-in-Ok-clause-ok : goal.returns-in-Ok-clause-ok
unfolding batches torn torn_stands
returns-in-Ok-clause-ok g c =
    let j = c.args.self.now in
    let ready = ap (λ f. closed_by f false) c.next_front-self.ensures ∙ open_after j.front c.in-Ok.ends.first in
    record {
      ready = ready;
      settled = settled g.A.Area c.area_laws.ensures _ ready;
      front = λ told. c.next_front-self.ensures ∙ ap (λ n. front_after j.front n) (c.in-Ok.ensures.seen told.0).0;
      batches = λ told. rw (c.next_gate-self.ensures, ← (c.in-Ok.ensures.seen told.0).1)
          ((reopened_over g.A.Area c.area_laws.ensures j c.see.new.area c.see.ensures.size c.in-Ok.ensures.octets
          c.in-Ok.ensures.durable c.in-Ok.ends.first c.in-Ok.ends.gate c.in-Ok.ensures.seen).1 told);
      place = λ told.
          rw (← (c.in-Ok.ensures.seen told.0).1, length-last g.A.Area c.area_laws.ensures j)
          (c.next_gate-self.ensures ∙ gate_moves j.is_torn j.gate j.torn_length c.in-Ok.ends.gate);
      end =
          rw (
            c.next_gate-self.ensures ∙ gate_moves j.is_torn j.gate j.torn_length c.in-Ok.ends.gate,
            length-last g.A.Area c.area_laws.ensures j,
          )
          (moves_or_stays (j.is_torn && (c.in-Ok.ends.gate == open_gate)) j.gate j.torn_length);
    }

pub returns-in-Ok-clause-any_moment : goal.returns-in-Ok-clause-any_moment
returns-in-Ok-clause-any_moment g c =
    let j = c.args.self.now in
    record {
      any = λ told. widen g.A.Area _ _ _ _ (keeps_any g.A.Area c.area_laws.ensures j told) c.see.ensures.any_moment;
      ready = λ told open'. widen g.A.Area _ _ _ _ (λ d. (settled g.A.Area c.area_laws.ensures j open').crash told d) c.see.ensures.any_moment;
    }

pub returns-in-Err-clause-any_moment : goal.returns-in-Err-clause-any_moment
returns-in-Err-clause-any_moment g c =
    let j = c.args.self.now in
    record {
      any = λ told. widen g.A.Area _ _ _ _ (keeps_any g.A.Area c.area_laws.ensures j told) c.see.ensures.any_moment;
      ready = λ told open'. widen g.A.Area _ _ _ _ (λ d. (settled g.A.Area c.area_laws.ensures j open').crash told d) c.see.ensures.any_moment;
    }

pub returns-in-Ok-clause-stays : goal.returns-in-Ok-clause-stays
returns-in-Ok-clause-stays g c = search (rules, ready_of)

pub returns-in-Err-clause-err : goal.returns-in-Err-clause-err
unfolding batches torn
returns-in-Err-clause-err g c = search (rules, kept)

pub returns-in-Ok-clause-planned : goal.returns-in-Ok-clause-planned
returns-in-Ok-clause-planned g c = λ told. record { planned = c.in-Ok.ensures.planned told; stands = λ err. absurd (other_bool (sym err)) }

pub returns-in-Err-clause-planned : goal.returns-in-Err-clause-planned
unfolding stop_stands
returns-in-Err-clause-planned g c = λ told. search rules
