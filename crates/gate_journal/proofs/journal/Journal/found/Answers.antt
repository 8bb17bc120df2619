use Rattle.std.proofs.Common.{arith, rules}
use Rattle.gate_journal.specs.Journal.{batches, torn, torn_stands}
use Rattle.gate_journal.proofs.States.{settled, ready_of, founding_leaves, founding_over, founded_over}
use Rattle.gate_journal.proofs.journal.Journal.found.Goals as goal

pub invariant_of-self : goal.invariant_of-self
invariant_of-self g c = search (rules, founded_over)

pub invariant_of-self-in-Err : goal.invariant_of-self-in-Err
invariant_of-self-in-Err g c = record {
  sound = (founding_over g.A.Area c.area_laws.ensures c.args.self.now c.requires.ready c.put.new.area c.put.ensures.size
      c.put.ensures.any_moment).0;
  room = omega (arith, c.args.self.now.room, c.put.ensures.size);
}

pub returns-in-Ok-clause-any_moment : goal.returns-in-Ok-clause-any_moment
returns-in-Ok-clause-any_moment g c = search (rules, founding_leaves)

pub returns-in-Ok-clause-stays : goal.returns-in-Ok-clause-stays
unfolding batches torn torn_stands
returns-in-Ok-clause-stays g c = search (rules, founding_over, ready_of)

pub returns-in-Err-clause-any_moment : goal.returns-in-Err-clause-any_moment
returns-in-Err-clause-any_moment g c = search (rules, founding_leaves)

pub returns-in-Err-clause-stays : goal.returns-in-Err-clause-stays
unfolding batches torn torn_stands
returns-in-Err-clause-stays g c = search (rules, founding_over, ready_of)

pub returns-in-Ok-clause-ok : goal.returns-in-Ok-clause-ok
returns-in-Ok-clause-ok g c = search (rules, ready_of, settled)
