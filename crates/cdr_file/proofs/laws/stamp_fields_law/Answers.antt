use Rattle.cdr_file.proofs.StampLemmas.{fields_again, stamp_again}
use Rattle.cdr_file.proofs.laws.stamp_fields_law.Goals as goal

pub returns : goal.returns
returns c = record { again = stamp_again; fields = fields_again }
