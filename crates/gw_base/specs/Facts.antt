-- What a value that stands for a history tells of it.
use Rattle.std.specs.Prelude.{ℕ, ◌≡◌, ◌≤◌, ◌++◌, Bool, true, List, length}
use Rattle.gw_base.specs.declared.history.HistoryEntry.{HistoryEntry}

-- The numbers and the name hold always, the lists where they are told: a size and octets that name the value, which
-- stay, counts of faults and of cuts that never fall, how many entries the list has, a length that never falls, the list
-- of entries that the value stands for, those that are firm, and those that a fault tore off the list, of which nobody
-- knows whether they will be found again
pub record Facts : Type 0 where
  pub size : ℕ
  pub name : List ℕ
  pub faults : ℕ
  pub cuts : ℕ
  pub entries : ℕ
  pub length : ℕ
  pub list : List HistoryEntry
  pub firm : List HistoryEntry
  pub torn : List HistoryEntry

-- the list and the torn entries, one after the other
abbrev pub joined : Facts → List HistoryEntry
joined f = f.list ++ f.torn

-- a fact of the lists, which holds where they are told
abbrev pub WhereTold : Bool → Type 0 → Type 0
WhereTold told fact = told ≡ true → fact

-- Facts that fit together.
pub record AreSound (told : Bool) (f : Facts) : Type 0 where
  -- each cut came by a fault
  pub cut : f.cuts ≤ f.faults
  -- the length counts entries of the list
  pub within : f.length ≤ f.entries
  pub counted : WhereTold told (f.entries ≡ length f.list)
  -- the list begins with the firm part, and the length is at most that of the firm part
  pub begins : WhereTold told ((rest : List HistoryEntry) × (f.list ≡ f.firm ++ rest))
  pub firm : WhereTold told (f.length ≤ length f.firm)
