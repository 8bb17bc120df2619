use Rattle.std.proofs.Common.{[]}
use Rattle.file_rotate.proofs.OnlyLemmas.{only_these}
use Rattle.file_rotate.proofs.RunLemmas.{divides, runs_joined}
use Rattle.file_rotate.proofs.laws.division_closes_where_files_end.Goals as goal

pub returns-clause-ends : goal.returns-clause-ends
returns-clause-ends g c = λ limits items. divides limits [] items

pub returns-clause-only : goal.returns-clause-only
returns-clause-only g c = λ limits items division runs. only_these limits items [] division.closed division.left_open runs

pub returns-clause-records : goal.returns-clause-records
returns-clause-records g c = λ limits items division runs. runs_joined limits [] items division.closed division.left_open runs
