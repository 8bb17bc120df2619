use Rattle.replay_world.proofs.Names.{AreUnarmed, ReplayValue, Stands}
use Rattle.replay_world.proofs.SettleLemmas.{SettledTo}
use Rattle.replay_world.proofs.replay.Replay.settle_each.Given as goal

-- the gateways so far have settled
abbrev pub invariant-loop-index : goal.invariant-loop-index
invariant-loop-index l = (v : ReplayValue) → Stands v l.fn.self → AreUnarmed v →
    SettledTo v l.index l.fn.out l.out l.self
