use Rattle.std.proofs.Common.{arith}
use Rattle.cdr_file.proofs.NumberLemmas.{length_of_part}
use Rattle.cdr_file.proofs.reading.fields_of.Goals as goal

pub copy_from_slice-requires : goal.copy_from_slice-requires
copy_from_slice-requires c = rw c.part.ensures (omega (arith, length_of_part 27 20 c.args.octets.now, c.requires))
