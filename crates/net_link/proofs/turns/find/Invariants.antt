use Rattle.std.proofs.Common.{◌≢◌}
use Rattle.std.specs.List.{AllWithin}
use Rattle.net_link.specs.declared.turns.Tally.{Tally}
use Rattle.net_link.proofs.turns.find.Given as goal

-- no tally so far is one for the address
abbrev pub invariant-loop-i : goal.invariant-loop-i
invariant-loop-i l = AllWithin (λ (tally : Tally). tally.at ≢ l.at) l.tallies 0 l.i
