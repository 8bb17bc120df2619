use Rattle.std.proofs.Common.{◌≡◌, ◌++◌}
use Rattle.once_core.proofs.due.joined.Given as goal

-- the messages so far stand behind the first ones
abbrev pub invariant-loop-message : goal.invariant-loop-message
invariant-loop-message l = l.all.items ≡ l.fn.first.items ++ l.yielded
