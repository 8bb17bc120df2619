use Rattle.std.proofs.Common.{arith}
use Rattle.route_filter.proofs.HexadecimalLemmas.{both_digits, no_high, no_low}
use Rattle.route_filter.proofs.hexadecimal.pair.Goals as goal
use Rattle.route_filter.proofs.hexadecimal.pair.Goals.{else-high-lt16-via-then-high-lt16+else-low-lt16, else-high-lt16-via-else-high-lt16}

pub returns-then-low-lt16 : goal.returns-then-low-lt16
returns-then-low-lt16 c place = search (arith, both_digits)

pub returns-else-high-lt16 : goal.returns-else-high-lt16
returns-else-high-lt16 c place =
    search (
      arith,
      else-high-lt16-via-then-high-lt16+else-low-lt16,
      no_low,
      else-high-lt16-via-else-high-lt16,
      no_high,
    )
