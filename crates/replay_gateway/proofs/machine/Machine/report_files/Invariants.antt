use Rattle.std.proofs.Common.{◌≡◌, ◌++◌}
use Rattle.replay_gateway.proofs.Names.{Gateway, Machine, MachineStands, Setup}
use Rattle.replay_gateway.proofs.ReportLemmas.{lines_below}
use Rattle.replay_gateway.proofs.machine.Machine.report_files.Given as goal

-- the files of the streams so far were printed
abbrev pub invariant-loop-stream : goal.invariant-loop-stream
invariant-loop-stream l = (setup : Setup) (g : Gateway) (m : Machine) → MachineStands setup l.place g m l.self →
    l.out ≡ l.fn.out ++ lines_below setup l.place g m l.stream
