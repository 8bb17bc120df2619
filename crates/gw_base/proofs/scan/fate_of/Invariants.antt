use Rattle.std.proofs.Common.{◌≡◌, drop}
use Rattle.gw_base.specs.History.{fate_of}
use Rattle.gw_base.proofs.scan.fate_of.Given as goal

-- what is left decides
abbrev pub invariant-loop-entry : goal.invariant-loop-entry
invariant-loop-entry l = fate_of l.node.0 l.number (drop l.entry-index l.later) ≡ fate_of l.node.0 l.number l.later
