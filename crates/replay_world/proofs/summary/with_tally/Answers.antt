use Rattle.std.proofs.Common.{arith}
use Rattle.replay_world.proofs.summary.with_tally.Goals as goal

pub returns-clause-few : goal.returns-clause-few
returns-clause-few c = λ most few. record {
  records = omega (arith, c.plus.ensures.few);
  held = omega (arith, c.plus-2.ensures.few);
  stranded = omega (arith, c.plus-3.ensures.few);
}
