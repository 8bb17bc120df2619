use Rattle.std.proofs.lemmas.List.{get_or_default}
use Rattle.cgf_journal.proofs.sorted.kept_at.Goals as goal

pub returns : goal.returns
returns c = λ d. get_or_default c.args.keys.now c.args.at _ d c.requires
