use Rattle.std.proofs.Common.{◌≡◌, ℕ, ◌<◌, length, slice_index, slice_index_or}
use Rattle.file_writer.specs.declared.stream.Stream.{Stream}
use Rattle.file_writer.proofs.writer.Writer.closed.Given as goal

abbrev pub invariant-loop-s : goal.invariant-loop-s
invariant-loop-s g l = (length l.closed ≡ 16)
    × ((t : ℕ) (d : Stream) → t < l.s → slice_index l.closed t ≡ (slice_index_or l.self.streams t d).file.closed)
