use Rattle.std.proofs.Common.{drop, map}
use Rattle.replay_world.proofs.Names.{delivers, ReplayValue, Stands, WereSent}
use Rattle.replay_world.proofs.StepsLemmas.{SoFar}
use Rattle.replay_world.proofs.replay.Replay.deliver_all.Given as goal

-- the first messages came, and the line went on
abbrev pub invariant-loop-number : goal.invariant-loop-number
invariant-loop-number l = (v : ReplayValue) → Stands v l.fn.self → WereSent v l.numbers →
    SoFar v (map delivers l.numbers) (map delivers (drop l.number-index l.numbers)) l.fn.out l.out l.self
