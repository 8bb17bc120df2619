use Rattle.cgf_journal.proofs.Names.{act_view, HeldKey, stays_held}
use Rattle.cgf_journal.proofs.KeptLemmas.{staying_both}
use Rattle.cgf_journal.proofs.kept.KeptKeys.count_staying.Goals as goal

pub returns : goal.returns
returns c =
    staying_both (λ (key : HeldKey). stays_held (act_view c.args.act.now) key) c.args.firm c.self.inside.early c.self.inside.late c.args.self.now c.count_staying.result c.count_staying-2.result
    c.self.view_is c.count_staying.ensures.value c.count_staying-2.ensures.value
