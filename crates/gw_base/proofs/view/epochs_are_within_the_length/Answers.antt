use Rattle.std.proofs.lemmas.List.Sums.{count_by-le-length}
use Rattle.gw_base.specs.declared.history.HistoryEntry.{HistoryEntry}
use Rattle.gw_base.specs.History.{begins_epoch}
use Rattle.gw_base.proofs.view.epochs_are_within_the_length.Goals as goal

pub returns : goal.returns
returns c = λ node h. count_by-le-length (λ (e : HistoryEntry). begins_epoch node e.act) h
