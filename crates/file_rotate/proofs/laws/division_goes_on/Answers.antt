use Rattle.file_rotate.proofs.GoingOnLemmas.{divided_from-append}
use Rattle.file_rotate.proofs.laws.division_goes_on.Goals as goal

pub returns : goal.returns
returns g c = λ limits run before after. divided_from-append limits run before after
