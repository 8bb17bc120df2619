use Rattle.cdr_file.proofs.FileLemmas.{plain_header-is}
use Rattle.cdr_file.proofs.file_header.least_octets.Goals as goal

-- what each write left, from the last back to the first: all 52 octets compute then
pub returns : goal.returns
returns c =
    rw (plain_header-is, c.copy_from_slice.ensures.after, c.write_u32-6.ensures, c.write_u32-5.ensures, c.write_u32-4.ensures, c.write_u32-3.ensures, c.octet_of-2.ensures, c.octet_of.ensures, c.write_u32-2.ensures, c.write_u32.ensures)
