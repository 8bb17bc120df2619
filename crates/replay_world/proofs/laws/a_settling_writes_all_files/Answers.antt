use Rattle.replay_world.specs.Value.{begun}
use Rattle.replay_world.proofs.BeginningLemmas.{begun_has, lines_have}
use Rattle.replay_world.proofs.SettledLemmas.{all_settled}
use Rattle.replay_world.proofs.laws.a_settling_writes_all_files.Goals as goal

pub returns-clause-written : goal.returns-clause-written
returns-clause-written c = λ v have. all_settled c.no_file_is_open_where_no_close_is_due.ensures v have

pub returns-clause-reports : goal.returns-clause-reports
returns-clause-reports c = c.a_gateway_that_wrote_all_rests.ensures.reports

pub returns-clause-machines : goal.returns-clause-machines
returns-clause-machines c = λ setup lines. lines_have (begun setup) lines (begun_has setup)
