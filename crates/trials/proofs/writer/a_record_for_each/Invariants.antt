use Rattle.std.proofs.Common.{◌≡◌, length}
use Rattle.std.specs.List.{All}
use Rattle.file_writer.specs.AllStreams.{IsFit}
use Rattle.trials.proofs.writer.a_record_for_each.Given as goal

-- the records so far can be written, one for each number so far
abbrev pub invariant-loop-n : goal.invariant-loop-n
invariant-loop-n g l = record { fit : All IsFit l.items.items; count : length l.items.items ≡ l.n }
