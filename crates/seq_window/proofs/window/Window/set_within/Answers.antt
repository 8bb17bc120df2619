use Rattle.std.proofs.Common.{ℕ, List, ap, sym, ◌∙◌, take, arith}
use Rattle.std.proofs.lemmas.List.{take_all, take_more}
use Rattle.seq_window.specs.Seen.{with_states}
use Rattle.seq_window.specs.Stored.{seen_of}
use Rattle.seq_window.proofs.SeenLemmas.{none_after, one_after}
use Rattle.seq_window.proofs.window.Window.set_within.Goals as goal
use Rattle.seq_window.proofs.window.Window.set_within.Goals.{then-holds, else-holds}

pub loop-number-preserved : goal.loop-number-preserved
loop-number-preserved g c =
    let xs = c.args.numbers.now in
    let longer = take_more xs c.loop-number.number-index 0 c.loop-number-test.true in
    elim c.if-holds.branch [
      | then-holds w ↦ rw w.self-is (one_after g.row.HALF (take c.loop-number.number-index xs) _ c.args.state (seen_of g.row.HALF c.args.self.now) _ _
          c.loop-number.invariant (sym c.holds.ensures ∙ w.if-holds.true) w.put.ensures
          ∙ ap (λ (ys : List ℕ). with_states g.row.HALF ys c.args.state (seen_of g.row.HALF c.args.self.now)) (sym longer))
      | else-holds w ↦ rw w.self-is (none_after g.row.HALF (take c.loop-number.number-index xs) _ c.args.state (seen_of g.row.HALF c.args.self.now) _
          c.loop-number.invariant (sym c.holds.ensures ∙ w.if-holds.false)
          ∙ ap (λ (ys : List ℕ). with_states g.row.HALF ys c.args.state (seen_of g.row.HALF c.args.self.now)) (sym longer))
    ]

pub returns : goal.returns
returns g c =
    c.loop-number.invariant
    ∙ ap (λ (ys : List ℕ). with_states g.row.HALF ys c.args.state (seen_of g.row.HALF c.args.self.now)) (take_all c.loop-number.number-index c.args.numbers.now (omega arith))
