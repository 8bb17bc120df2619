use Rattle.std.proofs.Common.{◌≡◌, ◌++◌, ◌-◌, ◌<◌, take}
use Rattle.replay_gateway.proofs.Names.{file_line, files_in, flat_map, Gateway, items_of, Machine, MachineStands, Setup, stream_count}
use Rattle.replay_gateway.proofs.FileLemmas.{first_files}
use Rattle.replay_gateway.proofs.machine.Machine.report_stream.Given as goal

-- the files so far were printed
abbrev pub invariant-loop-sequence : goal.invariant-loop-sequence
invariant-loop-sequence l = (setup : Setup) (g : Gateway) (m : Machine) → l.stream < stream_count →
    MachineStands setup l.place g m l.self → l.out ≡ l.fn.out ++ flat_map (file_line l.place) (take (l.sequence - 1)
    (first_files (files_in setup l.place) l.stream (m.filing.sealed l.stream) (items_of g.book.firm)))
