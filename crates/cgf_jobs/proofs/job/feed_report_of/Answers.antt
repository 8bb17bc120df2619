use Rattle.std.proofs.Common.{ℕ, List, ap, sym, ◌∙◌}
use Rattle.world_script.specs.Script.{script_of}
use Rattle.cgf_jobs.proofs.FeedLemmas.{fed_is_report}
use Rattle.cgf_jobs.proofs.job.feed_report_of.Goals as goal

pub returns-in_ok-report-in-Ok-clause-report : goal.returns-in_ok-report-in-Ok-clause-report
returns-in_ok-report-in-Ok-clause-report c =
    fed_is_report c.args.text.items c.in-Ok.script.lines c.in_ok-report-in-Ok.field-0
    (ap (λ (text : List ℕ). script_of text) (sym c.deref.ensures.value) ∙ c.in-Ok.ensures.read.1) c.in_ok-report-in-Ok.ensures
