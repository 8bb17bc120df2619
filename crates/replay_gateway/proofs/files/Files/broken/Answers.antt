use Rattle.std.proofs.Common.{◌∙◌, refl, sym}
use Rattle.replay_gateway.proofs.WriterLemmas.{kept_holds}
use Rattle.replay_gateway.proofs.files.Files.broken.Goals as goal

pub returns-then-not-stopped : goal.returns-then-not-stopped
returns-then-not-stopped c =
    let running = sym c.stopped.ensures ∙ c.if-not-stopped.true in
    record {
      cause = c.in-Device.is;
      failed = λ runs. (refl, refl);
      stopped = λ stopped. cc;
      rests = λ settings sealed items stopped holds. cc;
    }

pub returns : goal.returns
returns c =
    let stopped = sym c.stopped.ensures ∙ c.if-not-stopped.false in
    record {
      cause = c.in-Device.is;
      failed = λ runs. cc;
      stopped = λ is. refl;
      rests = λ settings sealed items is holds. c.end.ensures settings sealed items (cc c.revive.ensures.running)
          (kept_holds _ c.revive.ensures.settings (cc c.revive.ensures.kept.0) (λ s. cc c.revive.ensures.kept.0) holds);
    }
