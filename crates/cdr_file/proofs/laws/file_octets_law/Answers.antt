use Rattle.std.proofs.Common.{sym}
use Rattle.cdr_file.specs.CdrFile.{file_header}
use Rattle.cdr_file.proofs.FileLemmas.{first_octets, length-file_octets, length-header_octets, length-node_address, run_octets-append}
use Rattle.cdr_file.proofs.laws.file_octets_law.Goals as goal

pub returns : goal.returns
returns c = record {
  file_length = λ run sequence reason settings. sym (length-file_octets run sequence reason settings);
  header_length = λ run sequence reason settings. sym (length-header_octets (file_header run sequence reason settings) (length-node_address settings.address));
  first_octets = first_octets;
  growth = run_octets-append;
}
