-- What a pass knows of the value in the cell.
use Rattle.std.specs.Prelude.{◌≡◌, ℕ, zero, suc, ◌≤◌, Bool, List, [], ◌∷◌, ◌++◌, length, All}
use Rattle.gw_base.specs.Facts.{Facts, WhereTold}
use Rattle.gw_base.specs.Faults.{Stood}
use Rattle.gw_base.specs.declared.history.HistoryEntry.{HistoryEntry}
use Rattle.gw_base.specs.Owes.{AreAligned, Begins, front}
use Rattle.turn_cell.specs.declared.knowing.KeptTurn.{KeptTurn}
use Rattle.turn_cell.specs.declared.knowing.Knowledge.{Knowledge}
use Rattle.turn_cell.specs.declared.knowing.Standing.{Standing}

-- the facts that a pass keeps
abbrev pub facts_of : Standing → Facts
facts_of s = record {
  size = s.size;
  name = s.name;
  faults = s.faults;
  cuts = s.cuts;
  entries = s.entries;
  length = s.length;
  list = s.list;
  firm = s.firm;
  torn = s.torn;
}

-- facts, as a pass keeps them
abbrev pub standing : Facts → Standing
standing f = record {
  size = f.size;
  name = f.name;
  faults = f.faults;
  cuts = f.cuts;
  entries = f.entries;
  length = f.length;
  list = f.list;
  firm = f.firm;
  torn = f.torn;
}

-- What the value is, later, to a turn that left it with some facts.
pub record Follows (told : Bool) (left now : Facts) : Type 0 where
  pub faults : left.faults ≤ now.faults
  pub cuts : left.cuts ≤ now.cuts
  -- where there was no fault since, nothing was cut; and where nothing was cut, the list goes on
  pub calm : Stood left.faults now.faults → now.cuts ≡ left.cuts
  pub goes_on : WhereTold told (Stood left.cuts now.cuts → Begins left.list now.list)
  pub entries : Stood left.cuts now.cuts → left.entries ≤ now.entries
  -- the length counts entries of the list that the turn left, as far as both go
  pub grows : left.length ≤ now.length
  pub aligned : WhereTold told (AreAligned (front now) left.list)

-- A value with these facts may come to the turn of a pass that knows so much.
pub record IsLegal (told : Bool) (k : Knowledge) (now : Facts) : Type 0 where
  pub size : now.size ≡ k.size
  -- the count of faults is at least the one that the cell was made with
  pub since : k.faults ≤ now.faults
  pub seen : k.seen ≤ now.length
  pub known : WhereTold told (Begins k.known now.firm)
  pub turns : All (λ t. Follows told (facts_of t.left) now) k.turns

-- what a pass knows at first of a value with these facts
abbrev pub newcomer : ℕ → Facts → Knowledge
newcomer number start = record {
  number = number;
  size = start.size;
  faults = start.faults;
  seen = start.length;
  known = start.firm;
  turns = [];
}

-- what so many passes know at first, numbered from the first number on
abbrev pub newcomers_from : Facts → ℕ → ℕ → List Knowledge
newcomers_from start first zero = []
newcomers_from start first (suc n) = newcomer first start ∷ newcomers_from start (suc first) n

abbrev pub newcomers : Facts → ℕ → List Knowledge
newcomers start n = newcomers_from start 0 n

-- what the first of these passes knows
abbrev pub first_of : List Knowledge → Knowledge
first_of [] = record { number = 0; size = 0; faults = 0; seen = 0; known = []; turns = [] }
first_of (k ∷ ks) = k

-- a turn, as its pass keeps it
abbrev pub kept : Facts → Facts → Bool → List HistoryEntry → KeptTurn
kept found left drops added = record {
  found = standing found;
  left = standing left;
  drops = drops;
  added = added;
}

-- what a pass knows behind one turn more
abbrev pub after_turn : Knowledge → Facts → Facts → Bool → List HistoryEntry → Knowledge
after_turn k found left drops added = record k {
  seen = left.length;
  known = left.firm;
  turns = k.turns ++ kept found left drops added ∷ [];
}

-- What a pass knows once it has seen a length, which is at least each that it has seen or raised: as many firm entries,
-- and each list that a turn of its own left and that is no longer than this.
pub record Saw (told : Bool) (seen : ℕ) (old new : Knowledge) : Type 0 where
  pub same : new ≡ record old { seen = seen; known = new.known }
  pub later : old.seen ≤ seen
  pub grows : WhereTold told (Begins old.known new.known)
  pub reaches : WhereTold told (seen ≤ length new.known)
  pub lists : WhereTold told
      (All (λ t. length (facts_of t.left).list ≤ seen → Begins (facts_of t.left).list new.known) old.turns)
