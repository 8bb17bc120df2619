use Rattle.session_run.proofs.TeamLemmas.{by_twos, of_all}
use Rattle.session_run.proofs.round.work_all.Goals as goal

pub work_four-requires-clause-own : goal.work_four-requires-clause-own
work_four-requires-clause-own g c κs within =
    by_twos c.args.cell.now _ _ _ _ c.args.inboxes.now c.args.first c.args.second c.requires.own c.one-item.is
    c.two-item.is
    c.three-item.is c.four-item.is

pub returns-clause-own : goal.returns-clause-own
returns-clause-own g c =
    of_all c.args.cell.now _ _ _ _ c.args.inboxes.now c.args.first c.args.second c.work_four.result.0
    c.work_four.result.1
    c.requires.own c.one-item.is c.two-item.is c.three-item.is c.four-item.is c.work_four.ensures.own
