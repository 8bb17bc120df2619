use Rattle.std.proofs.Common.{arith, ap, length, take, length-append, List, ℕ}
use Rattle.std.proofs.lemmas.List.{length-take}
use Rattle.std.specs.List.{flat_map}
use Rattle.byteorder.specs.Endian.{big_bytes}
use Rattle.entry_codec.proofs.Fields.{length_numbers}
use Rattle.entry_codec.proofs.writing.put_numbers.Goals as goal

pub put_u64-requires : goal.put_u64-requires
put_u64-requires c =
    let before = take c.loop-number.number-index c.args.numbers.now in
    omega (arith, c.requires, c.loop-number.invariant.capacity, ap (λ (t : List ℕ). length t) c.loop-number.invariant.octets, length-append c.args.into.now.octets (flat_map (big_bytes 8) before), length_numbers before, length_numbers c.args.numbers.now, length-take c.loop-number.number-index c.args.numbers.now, c.loop-number-test.true)
