use Rattle.std.proofs.Common.{◌≡◌, drop}
use Rattle.entry_codec.specs.Reading.{exactly}
use Rattle.entry_codec.proofs.reading.exactly.Given as goal

-- what is read of the rest is what is read of the whole
abbrev pub invariant-loop-want : goal.invariant-loop-want
invariant-loop-want l = exactly (drop l.want-index l.wanted) l.rest ≡ exactly l.wanted l.octets
