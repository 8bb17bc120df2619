-- Which histories are fit, and which octets stand for one.
use Rattle.std.specs.Prelude.{◌⊎◌, ℕ, List, []}
use Rattle.cgf_journal.specs.Fit as journal
use Rattle.gw_base.specs.declared.history.HistoryEntry.{HistoryEntry}
use Rattle.gateway_answer.specs.Fit.{IsFit}

-- each entry of a history is fit behind those before it
abbrev pub AllFit : ℕ → List HistoryEntry → Type 0
AllFit size h = journal.AllFit (IsFit size) [] h

-- each of these entries is fit behind these before it and those in front of it
abbrev pub FitBehind : ℕ → List HistoryEntry → List HistoryEntry → Type 0
FitBehind size before h = journal.AllFit (IsFit size) before h

-- the octets stand for this history, each entry of which is fit
abbrev pub StandsFitFor : List ℕ → List ℕ → List HistoryEntry → Type 0
StandsFitFor header octets h = journal.StandsFit IsFit header octets h

-- they stand for one of two histories, each entry of which is fit
abbrev pub StandsFitForOr : List ℕ → List HistoryEntry → List HistoryEntry → List ℕ → Type 0
StandsFitForOr header h g octets = StandsFitFor header octets h ⊎ StandsFitFor header octets g
