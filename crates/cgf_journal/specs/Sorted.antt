-- What contracts see of sorted keys.
use Rattle.std.specs.Prelude.{◌≡◌, ℕ, ◌+◌, ◌≤◌, Bool, true, false, List, [], length, slice_index_or, slice_set}
use Rattle.gw_base.specs.declared.held.HeldKey.{HeldKey}
use Rattle.gw_base.specs.declared.history.HistoryAct.{HistoryAct}
use Rattle.gw_base.specs.HeldKeys.{held_by}
use Rattle.cgf_journal.specs.Held.{passing}
use Rattle.cgf_journal.specs.Keys.{changed_key, counted_keys}
use Rattle.cgf_journal.specs.declared.key.KeptKey.{KeptKey}
use Rattle.cgf_journal.specs.declared.sorted.SortedKeys.{SortedKeys}

-- the keys that the firm entries hold, or else all
abbrev pub keys_of : Bool → SortedKeys → List HeldKey
keys_of firm s = counted_keys firm s.round s.keys.items

abbrev pub firm_keys : SortedKeys → List HeldKey
firm_keys s = keys_of true s

abbrev pub live_keys : SortedKeys → List HeldKey
live_keys s = keys_of false s

-- All entries hold the key that stands here, or don't, and all else is as it was.
pub record IsChanged (at : ℕ) (held : Bool) (old new : SortedKeys) : Type 0 where
  pub round : new.round ≡ old.round
  pub reserved : new.reserved ≡ old.reserved
  pub keys : (d : KeptKey) →
      new.keys.items ≡ slice_set old.keys.items at (changed_key held old.round (slice_index_or old.keys.items at d))

-- how many keys an entry holds: one or none
abbrev pub count_held : HistoryAct → ℕ
count_held act = length (held_by act [])

-- What the firm entries hold stays, at most so many keys more are kept, and as many are reserved.
pub record GrowsBy (more : ℕ) (old new : SortedKeys) : Type 0 where
  pub firm : firm_keys new ≡ firm_keys old
  pub count : length new.keys.items ≤ length old.keys.items + more
  pub reserved : new.reserved ≡ old.reserved

-- As many keys are kept as were reserved, and one more would be.
pub record IsFull (more : ℕ) (old : SortedKeys) : Type 0 where
  pub one : more ≡ 1
  pub full : old.reserved ≤ length old.keys.items

-- The keys of another list were taken in, and that keeps none.
pub record IsAbsorbed (early late early_new late_new : SortedKeys) : Type 0 where
  pub held : (firm : Bool) (p : HeldKey → Bool) →
      passing p (keys_of firm early_new) ≡ passing p (keys_of firm early) + passing p (keys_of firm late)
  pub count : length early_new.keys.items ≤ length early.keys.items + length late.keys.items
  pub reserved : early_new.reserved ≡ early.reserved
  pub none : late_new.keys.items ≡ []
  pub room : late_new.reserved ≡ late.reserved
