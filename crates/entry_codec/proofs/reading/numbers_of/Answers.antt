use Rattle.std.proofs.Common.{arith}
use Rattle.std.proofs.lemmas.List.{length-take}
use Rattle.entry_codec.proofs.Loops.{numbers_given}
use Rattle.entry_codec.proofs.reading.numbers_of.Goals as goal

pub returns : goal.returns
returns c = numbers_given c.args.count c.args.octets.now c.split_at.result.0.now c.split_at.result.1.now c.read_u64_into.new.dst c.if-octets-count.false c.split_at.ensures.front c.split_at.ensures.back (omega (arith, length-take c.args.count c.args.into.now)) c.read_u64_into.ensures
