use Rattle.std.proofs.Common.{arith}
use Rattle.replay_world.proofs.summary.with_counts.Goals as goal

pub returns-clause-few : goal.returns-clause-few
returns-clause-few c = λ most few. record {
  packets = omega (arith, c.plus.ensures.few);
  resolved = omega (arith, c.plus-2.ensures.few);
  done = omega (arith, c.plus-3.ensures.few);
}
