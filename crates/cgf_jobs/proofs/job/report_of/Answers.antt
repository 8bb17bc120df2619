use Rattle.std.proofs.Common.{sym, subst}
use Rattle.cgf_jobs.proofs.Names.{Command, IsReport}
use Rattle.cgf_jobs.proofs.job.report_of.Goals as goal

-- A command that has a seed has a report whatever octets there are.

pub returns-in_ok-sample_report_of-in-Sample-clause-report : goal.returns-in_ok-sample_report_of-in-Sample-clause-report
returns-in_ok-sample_report_of-in-Sample-clause-report g c =
    subst (λ (command : Command). IsReport command c.args.octets.items c.in_ok-sample_report_of-in-Sample.field-0)
    (sym c.in-Sample.is) (c.in_ok-sample_report_of-in-Sample.ensures c.args.octets.items)

pub returns-in_ok-drill_report_of-in-Drill-clause-report : goal.returns-in_ok-drill_report_of-in-Drill-clause-report
returns-in_ok-drill_report_of-in-Drill-clause-report g c =
    subst (λ (command : Command). IsReport command c.args.octets.items c.in_ok-drill_report_of-in-Drill.field-0)
    (sym c.in-Drill.is) (c.in_ok-drill_report_of-in-Drill.ensures c.args.octets.items)
