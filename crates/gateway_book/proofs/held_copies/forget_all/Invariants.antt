use Rattle.std.proofs.Common.{◌≡◌, drop}
use Rattle.gateway_book.specs.HeldCopies.{hold_in, without_holds}
use Rattle.gateway_book.proofs.held_copies.forget_all.Given as goal

-- without the numbers that are left, too, the copies are those without all
abbrev pub invariant-loop-number : goal.invariant-loop-number
invariant-loop-number l = without_holds l.node (drop l.number-index l.numbers) (hold_in l.holds) ≡ without_holds l.node l.numbers (hold_in l.fn.holds)
