use Rattle.std.proofs.Common.{refl, Some}
use Rattle.replay_gateway.proofs.Names.{files_in, IfOk-weaker}
use Rattle.replay_gateway.specs.declared.machine.Machine as real
use Rattle.replay_gateway.proofs.CallLemmas.{site_set, writes_files}
use Rattle.replay_gateway.proofs.machine.Machine.write_anew.Goals as goal

pub returns-in-Some : goal.returns-in-Some
returns-in-Some c = λ setup place g m stands runs.
    let old = c.args.self.now in
    let told : real.Machine = record old { site = Some c.begin.new.site } in
    IfOk-weaker _ _ _ (λ wrote made. writes_files _ (site_set {new = told} stands made.1 refl) runs refl made.0)
    (c.begin.ensures setup place g m (files_in setup place) m.filing runs (rw c.in-Some.is at stands.site)
    stands.writes)

pub returns-in-None : goal.returns-in-None
returns-in-None c = λ setup place g m stands runs. absurd (rw c.in-None.is at stands.site)
