use Rattle.cdr_file.proofs.cdr_header.least_octets.Goals as goal

pub returns : goal.returns
returns c = rw (c.to_be_bytes.ensures, c.octet_of.ensures, c.octet_of-2.ensures)
