use Rattle.cdr_file.specs.CdrFile.{FileSettings, header_length, header_of}
use Rattle.cdr_file.specs.declared.run.RunFacts.{RunFacts}
use Rattle.cdr_file.proofs.FileLemmas.{length-header_octets, length-node_address}
use Rattle.cdr_file.proofs.RunLemmas.{low_header}
use Rattle.cdr_file.proofs.run.run_header.Goals as goal

pub returns-clause-octets : goal.returns-clause-octets
returns-clause-octets c =
    let run : RunFacts = c.args.run in
    let settings : FileSettings = record { offset = c.args.offset; address = c.args.address } in
    rw (c.write_header.ensures, c.node_address.ensures, c.code.ensures, c.low_32_bits-3.ensures, c.stamp-2.ensures, c.stamp.ensures, c.low_32_bits-2.ensures, c.low_32_bits.ensures, c.header_length-header_length.ensures.length)
    (low_header (header_of run c.args.sequence c.args.reason settings) (header_length run.kind) run.octets run.count)

pub returns-clause-length : goal.returns-clause-length
returns-clause-length c = rw (c.write_header.ensures, c.node_address.ensures) (length-header_octets _ (length-node_address c.args.address))
