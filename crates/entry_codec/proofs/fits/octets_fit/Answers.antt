use Rattle.std.proofs.Common.{arith}
use Rattle.entry_codec.proofs.Lists.{AreBelow-places}
use Rattle.entry_codec.proofs.fits.octets_fit.Goals as goal

pub returns : goal.returns
returns c = AreBelow-places 256 c.args.octets.now (λ i. omega (arith, c.type_inv.octets i))
