use Rattle.cdr_file.proofs.CountedDates.{stamp_of-fits}
use Rattle.cdr_file.proofs.laws.each_stamp_fits.Goals as goal

pub returns : goal.returns
returns c = stamp_of-fits
