use Rattle.std.proofs.Common.{drop}
use Rattle.replay_world.proofs.Names.{mixed_steps, ReplayValue, Stands, WereSent}
use Rattle.replay_world.proofs.StepsLemmas.{SoFar}
use Rattle.replay_world.proofs.replay.Replay.draw_all.Given as goal

-- the first messages were drawn, and the line went on
abbrev pub invariant-loop-number : goal.invariant-loop-number
invariant-loop-number l = (v : ReplayValue) → Stands v l.fn.self → WereSent v l.numbers →
    SoFar v (mixed_steps l.fn.rng l.numbers) (mixed_steps l.rng (drop l.number-index l.numbers)) l.fn.out l.out l.self
