use Rattle.ber_frame.proofs.Checks.{checked_fails}
use Rattle.ber_frame.proofs.Octets.{all_octets}
use Rattle.ber_frame.proofs.laws.what_fails_is_told.Goals as goal

pub returns : goal.returns
returns c = λ octets fault small. checked_fails octets (all_octets octets small) fault
