use Rattle.std.proofs.Common.{append_assoc}
use Rattle.entry_codec.proofs.writing.put_head.Goals as goal

pub returns : goal.returns
returns c =
    rw (c.put_u64-2.ensures, c.put_u32-2.ensures, c.put_u64.ensures, c.put_octet.ensures.octet, c.put_u32.ensures)
    (simp append_assoc)
