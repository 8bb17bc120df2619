use Rattle.std.proofs.Common.{◌^◌, arith}
use Rattle.entry_codec.proofs.Lists.{AreBelow-places}
use Rattle.entry_codec.proofs.fits.numbers_fit.Goals as goal

pub returns : goal.returns
returns c = AreBelow-places (2 ^ 64) c.args.numbers.now (λ i. omega (arith, c.type_inv.numbers i))
