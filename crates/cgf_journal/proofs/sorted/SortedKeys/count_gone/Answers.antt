use Rattle.std.proofs.Common.{List, length, ap, arith}
use Rattle.cgf_journal.proofs.Names.{act_view, HeldKey, keys_of}
use Rattle.cgf_journal.proofs.Changes.{all_stay, names_none}
use Rattle.cgf_journal.proofs.sorted.SortedKeys.count_gone.Goals as goal

pub returns-in-Start : goal.returns-in-Start
returns-in-Start c =
    let stay = (names_none c.args.act.now c.in-Start.is).0 in
    omega (arith, ap (λ (l : List HeldKey). length l) (all_stay (act_view c.args.act.now) stay (keys_of c.args.firm c.args.self.now)))
