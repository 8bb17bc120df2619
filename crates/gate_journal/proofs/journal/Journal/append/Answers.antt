use Rattle.std.proofs.Common.{inl, refl, ◌∙◌, arith, rules}
use Rattle.gate_journal.proofs.Names.{batches, begin, stop_stands, torn}
use Rattle.gate_journal.proofs.Turns.{other_bool}
use Rattle.gate_journal.proofs.Kept.{as_before}
use Rattle.gate_journal.proofs.States.{closed_when_torn, settled, grown, left_or, only_octets, shut_gate, torn_over}
use Rattle.gate_journal.proofs.journal.Journal.append.Goals as goal

pub returns-then-free-length-clause-any_moment : goal.returns-then-free-length-clause-any_moment
returns-then-free-length-clause-any_moment g c = λ told.
    begin g.A.Area c.area_laws.ensures.only_now _ _ (λ d left. inl ((settled g.A.Area c.area_laws.ensures c.args.self.now c.requires.ready).crash told d left))

pub returns-then-free-length-clause-unchanged : goal.returns-then-free-length-clause-unchanged
returns-then-free-length-clause-unchanged g c = λ free is. record { area = refl; same = as_before _ _ (record { buffer = refl; gate = refl; torn_length = refl; is_torn = refl; front = refl; address = refl; generation = refl }) refl refl (λ fate outcome. refl) }

pub returns-then-free-length-clause-planned : goal.returns-then-free-length-clause-planned
returns-then-free-length-clause-planned g c = λ fate told fits. absurd (omega (arith, c.length.ensures))

pub invariant_of-self-in-Ok : goal.invariant_of-self-in-Ok
invariant_of-self-in-Ok g c = record {
  sound = (grown g.A.Area c.area_laws.ensures c.args.self.now c.requires.ready c.args.batch.now _
      c.fill.new.buffer.items c.add.new.area c.requires.short (c.as_slice.ensures.value ∙ c.fill.ensures.framed)
      c.fill.ensures.held c.fill.ensures.size (omega (arith, c.length.ensures)) c.add.ensures.size c.in-Ok.ensures.added
      c.in-Ok.ensures.durable).0;
  room = omega (arith, c.args.self.now.room, c.add.ensures.size, c.fill.ensures.capacity);
}

pub invariant_of-self-in-Err : goal.invariant_of-self-in-Err
invariant_of-self-in-Err g c = record {
  sound = (torn_over g.A.Area c.area_laws.ensures c.args.self.now c.requires.ready c.args.batch.now _
      c.fill.new.buffer.items c.add.new.area c.requires.short (c.as_slice.ensures.value ∙ c.fill.ensures.framed)
      c.fill.ensures.held c.fill.ensures.size (omega (arith, c.length.ensures)) c.add.ensures.size
      c.add.ensures.any_moment).0;
  room = omega (arith, c.args.self.now.room, c.add.ensures.size, c.fill.ensures.capacity);
}

pub returns-in-Ok-clause-ok : goal.returns-in-Ok-clause-ok
unfolding batches
returns-in-Ok-clause-ok g c = search (rules, settled, grown)

pub returns-in-Ok-clause-any_moment : goal.returns-in-Ok-clause-any_moment
unfolding batches
returns-in-Ok-clause-any_moment g c = left_or g.A.Area c.area_laws.ensures c.args.self.now c.requires.ready c.args.batch.now _ c.fill.new.buffer.items c.add.new.area c.requires.short (c.as_slice.ensures.value ∙ c.fill.ensures.framed) c.fill.ensures.held c.fill.ensures.size (omega (arith, c.length.ensures)) c.add.ensures.size c.add.ensures.any_moment

pub returns-in-Err-clause-torn : goal.returns-in-Err-clause-torn
unfolding batches torn
returns-in-Err-clause-torn g c = λ is. record {
  closed = closed_when_torn c.args.self.now.front;
  batches = (torn_over g.A.Area c.area_laws.ensures c.args.self.now c.requires.ready c.args.batch.now _
      c.fill.new.buffer.items c.add.new.area c.requires.short (c.as_slice.ensures.value ∙ c.fill.ensures.framed)
      c.fill.ensures.held c.fill.ensures.size (omega (arith, c.length.ensures)) c.add.ensures.size
      c.add.ensures.any_moment).1;
  end = refl;
  torn = c.fill.ensures.held;
}

pub returns-in-Err-clause-any_moment : goal.returns-in-Err-clause-any_moment
unfolding batches
returns-in-Err-clause-any_moment g c = left_or g.A.Area c.area_laws.ensures c.args.self.now c.requires.ready c.args.batch.now _ c.fill.new.buffer.items c.add.new.area c.requires.short (c.as_slice.ensures.value ∙ c.fill.ensures.framed) c.fill.ensures.held c.fill.ensures.size (omega (arith, c.length.ensures)) c.add.ensures.size c.add.ensures.any_moment

pub returns-in-Ok-clause-planned : goal.returns-in-Ok-clause-planned
unfolding stop_stands
returns-in-Ok-clause-planned g c = λ fate told room. search (rules, shut_gate, only_octets, other_bool)

pub returns-in-Err-clause-planned : goal.returns-in-Err-clause-planned
unfolding stop_stands
returns-in-Err-clause-planned g c = λ fate told room.
    let planned = c.in-Err.ensures.planned fate told (shut_gate g.A.Area c.area_laws.ensures c.args.self.now c.requires.ready told) (only_octets g.A.Area c.area_laws.ensures c.args.self.now c.requires.ready told) in
    record { fails = planned.fails; course = planned.course; stands = λ err outcome. planned.opened outcome }
