use Rattle.gate_journal.specs.Format.{header}
use Rattle.gate_journal.proofs.format.header_of.Goals as goal

pub returns : goal.returns
unfolding header
returns c = rw (c.write_u32-2.ensures, c.write_u32.ensures, c.write_u64.ensures, c.copy_from_slice.ensures.after)
