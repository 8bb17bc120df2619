-- What is true of a book at rest: its index follows its trail, whose history is fit.
use Rattle.std.specs.Prelude.{◌≤◌, true, false, List, ◌++◌}
use Rattle.area_disk.specs.declared.area.Area.{Ghosts}
use Rattle.gate_journal.specs.Format.{most_octets}
use Rattle.gate_journal.specs.Moments.{Told}
use Rattle.cgf_journal.specs.Trail.{area_of, firm_entries, waiting}
use Rattle.cgf_journal.specs.declared.trail.Trail.{Trail}
use Rattle.gw_base.specs.declared.history.HistoryEntry.{HistoryEntry}
use Rattle.gateway_answer.specs.FitHistory.{AllFit}
use Rattle.gateway_index.specs.Index.{Follows}
use Rattle.gateway_index.specs.declared.index.Index.{Index}

-- the firm entries and those behind them, which wait or are torn
abbrev pub all_entries : {A : Type 0} {tells : Ghosts A} → Trail A tells → List HistoryEntry
all_entries trail = firm_entries trail ++ waiting trail

-- The firm side of the index follows the firm entries, the live side these and those behind them, which are fit.
pub record IsFollowed {A : Type 0} {tells : Ghosts A} (trail : Trail A tells) (index : Index) : Type 0 where
  pub short : tells.size (area_of trail) ≤ most_octets
  pub firm : Told tells → Follows true index (firm_entries trail)
  pub live : Told tells → Follows false index (all_entries trail)
  pub fit : Told tells → AllFit (tells.size (area_of trail)) (all_entries trail)
