use Rattle.std.proofs.Common.{◌≡◌, [], refl, sym, ap, ◌∙◌, arith, rules}
use Rattle.cgf_journal.proofs.Names.{Act, act_view, count_held, held_after, held_by, Hold, vec_capacity}
use Rattle.cgf_journal.proofs.InOrder.{none_up}
use Rattle.cgf_journal.proofs.KeptLemmas.{keeps_so, ready_held, ready_let_go, held_fits, seen, seen_kept, seen_live}
use Rattle.cgf_journal.proofs.kept.KeptKeys.note.Goals as goal

pub invariant_of-self-in-Hold : goal.invariant_of-self-in-Hold
invariant_of-self-in-Hold c = search (rules, ready_held)

pub invariant_of-self-in-Start : goal.invariant_of-self-in-Start
invariant_of-self-in-Start c =
    let none : count_held (act_view c.args.act.now) ≡ 0 = search rules in
    ready_let_go (act_view c.args.act.now) 0 c.self.inside.early c.self.inside.late c.let_go.new.early c.let_go.new.late (vec_capacity c.self.inside.spare) c.let_go.ensures c.self.invariant none

pub returns-in_ok-make_room-in-Hold-clause-ok : goal.returns-in_ok-make_room-in-Hold-clause-ok
returns-in_ok-make_room-in-Hold-clause-ok c =
    seen_live (Hold c.in-Hold.node c.in-Hold.number c.in-Hold.packet.now) 1 c.self.inside.early c.self.inside.late c.make_room.new.early c.make_room.new.late
    c.hold.new.early c.hold.new.late c.args.self.now c.self.view_is c.in_ok-make_room-in-Hold.ensures.ok.held
    c.in_ok-make_room-in-Hold.ensures.ok.count c.in_ok-make_room-in-Hold.ensures.ok.reserved c.hold.ensures.noted
    (held_fits c.in-Hold.node c.in-Hold.number c.in-Hold.packet.now c.hold.ensures.small)
    ∙ ap (λ (a : Act). held_after (act_view a) c.args.self.now.live) (sym c.in-Hold.is)

pub returns-in_ok-make_room-in-Hold-clause-grows : goal.returns-in_ok-make_room-in-Hold-clause-grows
returns-in_ok-make_room-in-Hold-clause-grows c =
    keeps_so 1 (count_held (act_view c.args.act.now)) c.args.self.now (seen c.hold.new.early c.hold.new.late)
    (seen_kept (Hold c.in-Hold.node c.in-Hold.number c.in-Hold.packet.now) 1 c.self.inside.early c.self.inside.late c.make_room.new.early c.make_room.new.late
    c.hold.new.early c.hold.new.late c.args.self.now c.self.view_is c.in_ok-make_room-in-Hold.ensures.ok.held
    c.in_ok-make_room-in-Hold.ensures.ok.count c.in_ok-make_room-in-Hold.ensures.ok.reserved c.hold.ensures.noted)
    (ap (λ (a : Act). count_held (act_view a)) c.in-Hold.is)

pub returns-in-Start : goal.returns-in-Start
returns-in-Start c =
    let none : count_held (act_view c.args.act.now) ≡ 0 = search rules in
    record {
      ok = seen_live (act_view c.args.act.now) 0 c.self.inside.early c.self.inside.late c.self.inside.early c.self.inside.late
          c.let_go.new.early c.let_go.new.late c.args.self.now c.self.view_is (λ firm p. refl) (omega arith) refl
          c.let_go.ensures (none_up (held_by (act_view c.args.act.now) []) none);
      grows = keeps_so 0 (count_held (act_view c.args.act.now)) c.args.self.now (seen c.let_go.new.early c.let_go.new.late)
          (seen_kept (act_view c.args.act.now) 0 c.self.inside.early c.self.inside.late c.self.inside.early c.self.inside.late
          c.let_go.new.early c.let_go.new.late c.args.self.now c.self.view_is (λ firm p. refl) (omega arith) refl
          c.let_go.ensures) none;
      err = tt;
      full = tt;
    }
