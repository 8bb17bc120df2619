-- The keys that a tally keeps, as contracts see them.
use Rattle.std.specs.Prelude.{ℕ, ◌+◌, ◌*◌, ◌<◌, ◌≤◌, ◌≡◌, Bool, true, false, if◌then◌else◌, List, length}
use Rattle.gw_base.specs.declared.held.HeldKey.{HeldKey}
use Rattle.gw_base.specs.declared.history.HistoryAct.{HistoryAct}
use Rattle.cgf_journal.specs.Held.{IsOnceEach, held_behind, passing}
use Rattle.cgf_journal.specs.Reserved.{cheapest_hold}
use Rattle.cgf_journal.specs.Sorted.{keys_of}
use Rattle.cgf_journal.specs.Tally.{keys_in_order}
use Rattle.cgf_journal.specs.declared.sorted.SortedKeys.{SortedKeys}
use Rattle.cgf_journal.specs.declared.sum.Sum.{Sum}

-- the keys that the firm entries hold, and those that all hold, in order; how many keys are kept, and for how many
-- there is memory
pub record Kept : Type 0 where
  pub firm : List HeldKey
  pub live : List HeldKey
  pub count : ℕ
  pub reserved : ℕ

-- the keys of two lists, held by the firm entries or else by all, in order
abbrev pub held_in_order : Bool → SortedKeys → SortedKeys → List HeldKey
held_in_order firm early late = keys_in_order (keys_of firm late) (keys_of firm early)

-- how many keys of two lists, held by the firm entries or else by all, pass a test
abbrev pub held_in : Bool → SortedKeys → SortedKeys → (HeldKey → Bool) → ℕ
held_in firm early late p = passing p (keys_of firm early) + passing p (keys_of firm late)

-- the keys of the firm entries, or else of all
abbrev pub held_of : Bool → Kept → List HeldKey
held_of firm kept = if firm then kept.firm else kept.live

-- Both lists can be made one in a spare one: no key is held in both.
pub record AreReady (early late : SortedKeys) (spare : ℕ) : Type 0 where
  pub room : early.reserved ≤ spare
  pub some : 1 ≤ late.reserved
  pub firm_once : IsOnceEach (λ p. held_in true early late p)
  pub live_once : IsOnceEach (λ p. held_in false early late p)

-- What the firm entries hold stays, at most so many keys more are kept, and as many are reserved.
pub record KeepsFirm (more : ℕ) (old new : Kept) : Type 0 where
  pub firm : new.firm ≡ old.firm
  pub count : new.count ≤ old.count + more
  pub reserved : new.reserved ≡ old.reserved

-- As many keys are kept as were reserved, and one more would be.
pub record HasNoRoom (more : ℕ) (old : Kept) : Type 0 where
  pub one : more ≡ 1
  pub full : old.reserved ≤ old.count

-- Each key that is kept, and each that the firm entries hold, was paid for by a Hold.
pub record ArePaid (kept : Kept) (firm live : Sum) : Type 0 where
  pub firm_paid : cheapest_hold * length kept.firm ≤ firm.costs
  pub live_paid : cheapest_hold * kept.count ≤ live.costs

-- What an entry makes of two lists: at most so many keys more are kept.
pub record AreNoted (act : HistoryAct) (more : ℕ) (early late early_new late_new : SortedKeys) : Type 0 where
  pub live : (p : HeldKey → Bool) →
      held_in false early_new late_new p ≡ held_behind act (λ q. held_in false early late q) p
  pub firm : (p : HeldKey → Bool) → held_in true early_new late_new p ≡ held_in true early late p
  pub count :
      length early_new.keys.items + length late_new.keys.items ≤ length early.keys.items + length late.keys.items + more
  pub reserved : early_new.reserved ≡ early.reserved
  pub room : late_new.reserved ≡ late.reserved

-- There is memory for one more key in the late list, and the same keys are held.
pub record HaveRoom (early late early_new late_new : SortedKeys) : Type 0 where
  pub held : (firm : Bool) (p : HeldKey → Bool) → held_in firm early_new late_new p ≡ held_in firm early late p
  pub count :
      length early_new.keys.items + length late_new.keys.items ≤ length early.keys.items + length late.keys.items
  pub reserved : early_new.reserved ≡ early.reserved
  pub room : length late_new.keys.items < late_new.reserved
