use Rattle.std.proofs.Common.{ℕ, List, ap, sym, ◌∙◌}
use Rattle.world_script.specs.Script.{script_in}
use Rattle.world_script.specs.declared.kind.ScriptKind.TheVariants as kind
use Rattle.cgf_jobs.proofs.NetworkLemmas.{replayed_is_report}
use Rattle.cgf_jobs.proofs.network.replay_report_of.Goals as goal

pub returns-in_ok-replay-in-Ok-clause-report : goal.returns-in_ok-replay-in-Ok-clause-report
returns-in_ok-replay-in-Ok-clause-report g c =
    replayed_is_report c.args.text.items c.in-Ok.script.lines c.in_ok-replay-in-Ok.field-0
    (ap (λ (text : List ℕ). script_in kind.Replay text) (sym c.deref.ensures.value) ∙ c.in-Ok.ensures.read.1)
    c.in_ok-replay-in-Ok.ensures
