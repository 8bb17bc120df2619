use Rattle.std.proofs.Common.{None, [], subst, inl, inr, arith}
use Rattle.node_session.proofs.Names.{drops_of, facts_of, firm_length, fortune_of, IsToldAt, Settled, tells_lists, value_of}
use Rattle.node_session.proofs.SettledLemmas.{has_asked, has_committed, told_at, unchanged}
use Rattle.node_session.proofs.committing.CommittingTurnBook.run.Goals as goal

pub returns-in_default : goal.returns-in_default
returns-in_default g c =
    let book = c.args.value.now in
    let turn = c.a_turn_owes.ensures.items book book None (unchanged book) (omega arith) in
    let told = told_at c.args.self.front c.args.self.faults book c.settled-told.result c.settled-told.ensures.told c.settled-told.ensures.counted in
    record {
      owes = turn.owes;
      does = (
        drops_of (fortune_of book book) (value_of book),
        [],
        turn.adds,
        inl (has_asked c.args.self.front c.args.self.faults book book c.settled-told.result told c.in_default.not-NotYet),
      );
    }

pub returns-clause-owes : goal.returns-clause-owes
returns-clause-owes g c =
    let old = c.args.value.now in let new = c.commit-committed.new.self in
    (c.a_turn_owes.ensures.commit old new c.commit-committed.result None c.commit-committed.ensures.stays c.commit-committed.ensures.cause c.commit-committed.ensures.left).owes

pub returns-clause-does : goal.returns-clause-does
returns-clause-does g c =
    let old = c.args.value.now in let new = c.commit-committed.new.self in
    let asked = told_at c.args.self.front c.args.self.faults old c.settled-told.result c.settled-told.ensures.told c.settled-told.ensures.counted in
    let waited = subst (λ (s : Settled). IsToldAt (tells_lists g.A.Area) c.args.self.front c.args.self.faults (facts_of old) (firm_length old.trail) s) c.in-NotYet.is asked in (
      drops_of (fortune_of old new) (value_of old),
      [],
      (c.a_turn_owes.ensures.commit old new c.commit-committed.result None c.commit-committed.ensures.stays c.commit-committed.ensures.cause c.commit-committed.ensures.left).adds,
      inr (has_committed c.args.self.front c.args.self.faults old new c.settled.result c.commit-committed.result
          c.commit-committed.ensures.left c.commit-committed.ensures.everywhere c.commit-committed.ensures.broken c.commit-committed.ensures.cause
          c.in-NotYet.firm waited c.settled.ensures.told c.settled.ensures.counted),
    )
