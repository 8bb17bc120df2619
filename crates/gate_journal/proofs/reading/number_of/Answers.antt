use Rattle.gate_journal.proofs.Seen.{field_read}
use Rattle.gate_journal.proofs.reading.number_of.Goals as goal

pub returns-clause-spelled : goal.returns-clause-spelled
returns-clause-spelled c = field_read c.args.field.now c.read_u32.result c.told-field c.fits-field c.read_u32.ensures
