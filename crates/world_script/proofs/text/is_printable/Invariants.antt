use Rattle.std.proofs.Common.{◌≡◌, ◌&&◌, drop}
use Rattle.world_script.specs.Text.{is_printable}
use Rattle.world_script.proofs.text.is_printable.Given as goal

-- all octets are, if those so far and the rest are
abbrev pub invariant-loop-octet : goal.invariant-loop-octet
invariant-loop-octet l = (l.printable && is_printable (drop l.octet-index l.content)) ≡ is_printable l.content
