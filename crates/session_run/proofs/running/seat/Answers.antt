use Rattle.std.proofs.Common.{◌≡◌, List, [], ◌∷◌}
use Rattle.turn_cell.specs.declared.cell.Pass.{Pass}
use Rattle.session_run.proofs.BegunLemmas.{last_of_three, last_of_two, numbers, without_last}
use Rattle.session_run.proofs.running.seat.Goals as goal

pub next_desk-c-requires-clause-number : goal.next_desk-c-requires-clause-number
next_desk-c-requires-clause-number g c = λ d.
    let four : List Pass = c.pop.new.self.items in
    let three : List Pass = c.next_desk-d.new.passes.items in
    let are_four : numbers four ≡ 0 ∷ 1 ∷ 2 ∷ 3 ∷ [] =
    without_last (0 ∷ 1 ∷ 2 ∷ 3 ∷ []) 4 c.args.passes.items four c.in-Some.pass c.in-Some.ensures.items c.requires.passes.1 in
    last_of_three three 0 1 2 d
    (without_last (0 ∷ 1 ∷ 2 ∷ []) 3 four three c.next_desk-d.ensures.pass.0 c.next_desk-d.ensures.pass.2.items are_four)

pub next_desk-b-requires-clause-number : goal.next_desk-b-requires-clause-number
next_desk-b-requires-clause-number g c = λ d.
    let four : List Pass = c.pop.new.self.items in
    let three : List Pass = c.next_desk-d.new.passes.items in
    let two : List Pass = c.next_desk-c.new.passes.items in
    let are_four : numbers four ≡ 0 ∷ 1 ∷ 2 ∷ 3 ∷ [] =
    without_last (0 ∷ 1 ∷ 2 ∷ 3 ∷ []) 4 c.args.passes.items four c.in-Some.pass c.in-Some.ensures.items c.requires.passes.1 in
    let are_three : numbers three ≡ 0 ∷ 1 ∷ 2 ∷ [] =
    without_last (0 ∷ 1 ∷ 2 ∷ []) 3 four three c.next_desk-d.ensures.pass.0 c.next_desk-d.ensures.pass.2.items are_four in
    last_of_two two 0 1 d
    (without_last (0 ∷ 1 ∷ []) 2 three two c.next_desk-c.ensures.pass.0 c.next_desk-c.ensures.pass.2.items are_three)
