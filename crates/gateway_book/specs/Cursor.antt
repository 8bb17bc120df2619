-- How far the items of a history were told.
use Rattle.std.specs.Prelude.{◌≡◌, ℕ, ◌+◌, ◌-◌, ◌≤◌, ◌^◌, true, List, ◌++◌, length, min, take, drop}
use Rattle.area_disk.specs.declared.area.Area.{Ghosts}
use Rattle.cgf_journal.specs.Trail.{firm_entries}
use Rattle.cgf_journal.specs.declared.trail.Trail.{Trail}
use Rattle.gw_base.specs.declared.history.HistoryAct.{HistoryAct}
use Rattle.gw_base.specs.declared.history.HistoryAct.TheVariants.{Release}
use Rattle.gw_base.specs.declared.history.HistoryEntry.{HistoryEntry}
use Rattle.gw_base.specs.declared.item.Item.{Item}
use Rattle.gateway_answer.specs.Filed.{along}
use Rattle.gateway_answer.specs.Fit.{are_distinct}
use Rattle.gateway_answer.specs.FitHistory.{AllFit}
use Rattle.gateway_book.specs.Gathering.{Gathered, gathered}
use Rattle.gateway_book.specs.HeldCopies.{AreBelow, CopyPlaces, HoldCopies, copies_after, no_copies, places_of}
use Rattle.gateway_answer.specs.Items.{items_by, items_of}
use Rattle.gateway_book.specs.declared.cursor.Cursor.{Cursor}

-- the items that the entries from the k-th on make
abbrev pub items_from : ℕ → List HistoryEntry → List Item
items_from k h = along items_by (take k h) (drop k h)

-- what is gathered in the end, where the entries from the k-th on are still to come
abbrev pub gathered_at_last : List HistoryEntry → ℕ → Gathered → List Item
gathered_at_last h k g = (gathered (items_from k h) g).items

-- a release names no number twice, as in each fit history
abbrev pub NamesOnce : HistoryAct → Type 0
NamesOnce (Release node numbers) = are_distinct numbers ≡ true
NamesOnce _ = Unit {0}

-- These are the first firm entries, and the copies are those that they hold.
pub record AreHeldIn {A : Type 0} {tells : Ghosts A} (trail : Trail A tells) (copies : CopyPlaces) (before : List HistoryEntry) : Type 0 where
  pub rest : List HistoryEntry
  pub front : firm_entries trail ≡ before ++ rest
  pub below : AreBelow (length before) copies
  pub held : HoldCopies copies before

-- The cursor stands behind one of the first n entries, or before all.
pub record IsWithin (n : ℕ) (cursor : Cursor) : Type 0 where
  pub entry : cursor.entry ≤ n
  pub copies : AreBelow cursor.entry (places_of cursor.copies)

-- It knows how many items the entries before it make, where 64 bits can say so, and which copies they hold.
pub record IsAt (h : List HistoryEntry) (cursor : Cursor) : Type 0 where
  pub within : cursor.entry ≤ length h
  pub items : cursor.items ≡ min (length (items_of (take cursor.entry h))) (2 ^ 64 - 1)
  pub copies : HoldCopies (places_of cursor.copies) (take cursor.entry h)

-- The firm entries are a fit history, and the cursor stands in it.
pub record StandsIn {A : Type 0} {tells : Ghosts A} (trail : Trail A tells) (h : List HistoryEntry) (cursor : Cursor) : Type 0 where
  pub size : ℕ
  pub fit : AllFit size h
  pub firm : firm_entries trail ≡ h
  pub at : IsAt h cursor

-- A cursor before all entries.
pub record IsBegun (cursor : Cursor) : Type 0 where
  pub entry : cursor.entry ≡ 0
  pub items : cursor.items ≡ 0
  pub copies : places_of cursor.copies ≡ no_copies

-- The cursor passed an entry that makes so many items.
pub record HasPassed (act : HistoryAct) (count : ℕ) (old new : Cursor) : Type 0 where
  pub entry : new.entry ≡ old.entry + 1
  pub items : new.items ≡ min (old.items + count) (2 ^ 64 - 1)
  pub copies : places_of new.copies ≡ copies_after old.entry act (places_of old.copies)

-- The cursor stays.
pub record HasStayed (old new : Cursor) : Type 0 where
  pub entry : new.entry ≡ old.entry
  pub items : new.items ≡ old.items
  pub copies : places_of new.copies ≡ places_of old.copies
