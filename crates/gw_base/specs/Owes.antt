-- What a turn owes for what it does to a value that stands for a history.
use Rattle.std.specs.Prelude.{◌≡◌, ◌⊎◌, ℕ, ◌<◌, ◌≤◌, Bool, true, false, List, [], ◌++◌, take, All, Option, Some, None}
use Rattle.gw_base.specs.Facts.{Facts, WhereTold, joined}
use Rattle.gw_base.specs.Faults.{Stood}
use Rattle.gw_base.specs.declared.history.HistoryEntry.{HistoryEntry}

-- a list begins with another
abbrev pub Begins : List HistoryEntry → List HistoryEntry → Type 0
Begins first whole = (rest : List HistoryEntry) × (whole ≡ first ++ rest)

-- one of two lists begins with the other
abbrev pub AreAligned : List HistoryEntry → List HistoryEntry → Type 0
AreAligned xs ys = Begins xs ys ⊎ Begins ys xs

-- the first entries of the firm part, as many as the length that never falls
abbrev pub front : Facts → List HistoryEntry
front f = take f.length f.firm

-- behind what a turn adds its entries: the list with the torn entries, or, where it drops these, the firm part
abbrev pub base : Bool → Facts → List HistoryEntry
base true f = f.firm
base false f = joined f

-- these are entries of the session that a turn names; a turn that names none adds none
abbrev pub AreBy : Option ℕ → List HistoryEntry → Type 0
AreBy None added = added ≡ []
AreBy (Some session) added = All (λ e. e.caller.session ≡ session) added

-- A turn that found and left a value with these facts added these entries, behind the torn ones or without them.
pub record Adds (session : Option ℕ) (found left : Facts) (drops : Bool) (added : List HistoryEntry) : Type 0 where
  pub stands : joined left ≡ base drops found ++ added
  pub owned : AreBy session added

-- What a turn keeps to, whatever it does.
pub record Owes (told : Bool) (found left : Facts) : Type 0 where
  pub size : left.size ≡ found.size
  pub name : left.name ≡ found.name
  -- neither count falls, and that of cuts rises only where that of faults does
  pub faults : found.faults ≤ left.faults
  pub cuts : found.cuts ≤ left.cuts
  pub cause : Stood found.faults left.faults → left.cuts ≡ found.cuts
  -- what is firm stays firm, and where nothing was cut the list goes on
  pub firm : WhereTold told (Begins found.firm left.firm)
  pub list : WhereTold told (Stood found.cuts left.cuts → Begins found.list left.list)
  pub entries : Stood found.cuts left.cuts → found.entries ≤ left.entries
  -- the length stands still from the first cut on, and until then it counts entries of one history
  pub still : 0 < found.cuts → left.length ≡ found.length
  pub grows : found.length ≤ left.length
  pub aligned : WhereTold told (found.cuts ≡ 0 → AreAligned (front left) found.list)
