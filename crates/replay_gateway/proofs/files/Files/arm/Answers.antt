use Rattle.std.proofs.Common.{refl}
use Rattle.replay_gateway.proofs.Names.{shelf_of, shelf_tells}
use Rattle.replay_gateway.proofs.OpeningLemmas.{arms_armed}
use Rattle.replay_gateway.proofs.WriterLemmas.{kept_stands}
use Rattle.replay_gateway.proofs.files.Files.arm.Goals as goal

pub returns : goal.returns
returns c = λ settings armed f items arms stands.
    kept_stands f _ c.arm.ensures.settings (cc c.arm.ensures.kept.0) (λ s. cc c.arm.ensures.kept.0) c.arm.ensures.sealed
    c.arm.ensures.at refl
    (rw (← c.arm.ensures.plan) at
    (arms_armed armed c.args.plan (shelf_tells.plan (shelf_of c.args.self.now.writer)) c.arms_nothing.ensures
    c.arms_fail.ensures c.arms_stop.ensures stands.writes.is_armed.running arms)) stands
