use Rattle.std.proofs.Common.{◌≡◌, drop}
use Rattle.std.specs.List.{list_all}
use Rattle.gw_base.specs.HeldKeys.{is_held}
use Rattle.gateway_answer.proofs.fit.are_held.Given as goal

-- all numbers are held just where those that are left are
abbrev pub invariant-loop-number : goal.invariant-loop-number
invariant-loop-number g l =
    list_all (λ y. is_held ((g.O.Observe.seen l.seen l.node).state y)) (drop l.number-index l.numbers) ≡ list_all (λ y. is_held ((g.O.Observe.seen l.seen l.node).state y)) l.numbers
