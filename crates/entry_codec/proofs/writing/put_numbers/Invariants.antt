use Rattle.std.proofs.Common.{◌≡◌, ◌++◌, take}
use Rattle.std.specs.List.{flat_map}
use Rattle.byteorder.specs.Endian.{big_bytes}
use Rattle.entry_codec.proofs.writing.put_numbers.Given as goal

-- the numbers so far were appended
abbrev pub invariant-loop-number : goal.invariant-loop-number
invariant-loop-number l = record {
  octets : l.into.octets ≡ l.fn.into.octets ++ flat_map (big_bytes 8) (take l.number-index l.numbers);
  capacity : l.into.capacity ≡ l.fn.into.capacity;
}
