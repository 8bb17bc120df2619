use Rattle.std.proofs.Common.{◌≡◌, take}
use Rattle.world_script.specs.Printing.{lines_text}
use Rattle.world_script.proofs.printing.print.Given as goal

abbrev pub invariant-loop-line : goal.invariant-loop-line
invariant-loop-line l = l.text.items ≡ lines_text l.fn.script.kind (take l.line-index l.fn.script.lines)
