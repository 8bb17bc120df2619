use Rattle.std.proofs.Common.{◌≡◌, ◌++◌, drop}
use Rattle.gateway_answer.specs.Filed.{released_by}
use Rattle.gateway_answer.proofs.filing.release.Given as goal

-- the records so far, and those of the numbers that are left, are those of all the numbers
abbrev pub invariant-loop-number : goal.invariant-loop-number
invariant-loop-number l =
    l.into.items ++ released_by l.before l.moment l.node (drop l.number-index l.numbers) ≡ l.fn.into.items ++ released_by l.before l.moment l.node l.numbers
