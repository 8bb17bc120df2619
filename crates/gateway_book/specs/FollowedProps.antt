-- That a history is fit, and that an index follows one, is one fact each: there are no two proofs of it.
use Rattle.std.specs.Prelude.{ℕ, Bool, List, [], ◌∷◌, ◌++◌}
use Rattle.std.specs.Coded.{×_prop, Unit-prop}
use Rattle.std.proofs.Props.{props}
use Rattle.cgf_journal.specs.Fit as journal
use Rattle.gw_base.specs.declared.history.HistoryEntry.{HistoryEntry}
use Rattle.gateway_answer.specs.Fit.{IsFit}
use Rattle.gateway_answer.specs.FitHistory.{AllFit}
use Rattle.gateway_index.specs.Index.{Follows}
use Rattle.gateway_index.specs.declared.index.Index.{Index}

IsFit-prop : (size : ℕ) (h : List HistoryEntry) (e : HistoryEntry) → IsProp (IsFit size h e)
IsFit-prop size h e = hlevel props

from-prop : (size : ℕ) (before h : List HistoryEntry) → IsProp (journal.AllFit (IsFit size) before h)
from-prop size before [] = Unit-prop
from-prop size before (e ∷ h) = ×_prop (IsFit-prop size before e) (from-prop size (before ++ e ∷ []) h)

pub AllFit-prop : (size : ℕ) (h : List HistoryEntry) → IsProp (AllFit size h)
AllFit-prop size h = from-prop size [] h

pub Follows-prop : (firm : Bool) (index : Index) (h : List HistoryEntry) → IsProp (Follows firm index h)
unfolding Follows
Follows-prop firm index h = hlevel props
