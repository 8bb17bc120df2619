use Rattle.std.proofs.Common.{refl}
use Rattle.gw_base.specs.Entry.{entry_view}
use Rattle.gateway_index.proofs.IndexLemmas.{after_step}
use Rattle.gateway_index.proofs.index.Index.step.Goals as goal

pub returns : goal.returns
returns c = after_step (entry_view c.args.entry.now) c.act.ensures refl refl refl c.after-self.ensures
