-- Which histories are fit: each entry behind those before it.
use Rattle.std.specs.Prelude.{ℕ, List, [], ◌∷◌, ◌++◌, ⊤}
use Rattle.gw_base.specs.declared.history.HistoryEntry.{HistoryEntry}
use Rattle.cgf_journal.specs.Format.{AreBatches, IsForeignBy, StandsFor, entries_in}
use Rattle.std.specs.Prelude.{length}

-- each of these entries fits behind these before it and those in front of it
abbrev pub AllFit : (List HistoryEntry → HistoryEntry → Type 0) → List HistoryEntry → List HistoryEntry → Type 0
AllFit fits before [] = ⊤
AllFit fits before (e ∷ h) = fits before e × AllFit fits (before ++ e ∷ []) h

-- Batches hold entries alone, at least one in each, which cost no more than the capacity of an area of this size, and
-- which all are fit in one.
pub record AreFit (fits : ℕ → List HistoryEntry → HistoryEntry → Type 0) (size : ℕ) (batches : List (List ℕ)) : Type 0 where
  pub are_batches : AreBatches size batches
  pub fit : AllFit (fits size) [] (entries_in batches)

-- The octets stand for this history, and all its entries are fit.
pub record StandsFit (fits : ℕ → List HistoryEntry → HistoryEntry → Type 0) (header octets : List ℕ) (h : List HistoryEntry) : Type 0 where
  pub stands : StandsFor header octets h
  pub fit : AllFit (fits (length octets)) [] h

-- The octets stand for no fit history and don't start either, and this place shows it: the first octet of the header
-- that differs, or the first open gate whose batch isn't whole or isn't fit.
abbrev pub IsUnfitTo : (ℕ → List HistoryEntry → HistoryEntry → Type 0) → List ℕ → List ℕ → ℕ → Type 0
IsUnfitTo fits header octets at = IsForeignBy (AreFit fits (length octets)) header octets at
