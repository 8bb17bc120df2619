use Rattle.std.proofs.Common.{◌≡◌, take}
use Rattle.seq_window.specs.Seen.{with_states}
use Rattle.seq_window.specs.Stored.{seen_of}
use Rattle.seq_window.proofs.window.Window.set_within.Given as goal

abbrev pub invariant-loop-number : goal.invariant-loop-number
invariant-loop-number g l = seen_of g.row.HALF l.self ≡ with_states g.row.HALF (take l.number-index l.numbers) l.state (seen_of g.row.HALF l.fn.self)
