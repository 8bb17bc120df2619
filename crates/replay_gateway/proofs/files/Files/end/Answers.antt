use Rattle.std.proofs.Common.{refl}
use Rattle.replay_gateway.proofs.Names.{shelf_of, shelf_tells}
use Rattle.replay_gateway.proofs.WriterLemmas.{kept_holds, rests}
use Rattle.replay_gateway.proofs.files.Files.end.Goals as goal

pub returns : goal.returns
returns c = λ settings sealed items running holds.
    rests _ refl refl
    (rw c.arm.ensures.plan
    (c.arms_nothing.ensures c.calm.result (shelf_tells.plan (shelf_of c.args.self.now.writer)) running
    c.calm.ensures.read_fail c.calm.ensures.fail c.calm.ensures.stop))
    (kept_holds _ c.arm.ensures.settings (cc c.arm.ensures.kept.0) (λ s. cc c.arm.ensures.kept.0) holds)
