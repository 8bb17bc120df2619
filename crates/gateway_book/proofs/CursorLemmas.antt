-- A cursor on its way through a history.
use Rattle.std.proofs.Common.{◌≡◌, ℕ, ◌+◌, ◌-◌, ◌<◌, ◌≤◌, ◌^◌, List, [], ◌∷◌, ◌++◌, length, drop, take, Some, sym, ap, subst, ◌∙◌, arith, length-append, rules}
use Rattle.gateway_book.proofs.Names.{along, AreBelow, AreHeldIn, at_drop_all, copies_after, copy_at, CopyPlaces, Cursor, filed_under, firm_entries, Gathered, gathered, gathered_at_last, Ghosts, HasPassed, HasStayed, HistoryAct, HistoryEntry, HoldCopies, IsAt, IsBegun, IsRead, IsWithin, Item, items_by, items_from, items_of, length-take-le, min, NamesOnce, no_copies, NodeId, none-some, option_map_or, packet_of_hold, places_of, present_key, released_records, slice_get, slice_get_within, StandsIn, take-append-drop, Told, Trail}
use Rattle.gateway_book.proofs.ItemsLemmas.{full_stays, gathered_on, none_more, came, fit_names_once, front_more, items_more, items_of_more, some_at}
use Rattle.gateway_book.proofs.HeldCopiesLemmas.{after_is, below_more, hold_more, get_front}

-- ---- before all entries

none_below : (n : ℕ) → AreBelow n no_copies
none_below n = record { hold = λ node number k is. absurd (none-some k is); path = λ node k is. absurd (none-some k is) }

pub begun_within : (n : ℕ) (cursor : Cursor) → IsBegun cursor → IsWithin n cursor
begun_within n cursor begun = search (rules, none_below)

pub begun_at : (h : List HistoryEntry) (cursor : Cursor) → IsBegun cursor → IsAt h cursor
begun_at h cursor begun = search rules

-- ---- one entry more

module _ (h : List HistoryEntry) (e : HistoryEntry) (old new : Cursor) (here : slice_get h old.entry ≡ Some e) where
  length_front : length (take old.entry h) ≡ old.entry
  length_front = length-take-le old.entry h (omega (arith, slice_get_within h old.entry e here))

  pub at_more : (before : Gathered) {after : Gathered} {count : ℕ} → IsAt h old → AreBelow old.entry (places_of old.copies)
      → after ≡ gathered (items_by (take old.entry h) e) before → (after.room ≡ 0 → ⊥)
      → count ≡ min ((before.skip - after.skip) + (length after.items - length before.items)) (2 ^ 64 - 1) → HasPassed e.act count old new → IsAt h new
  at_more before {after} {count} at below is some counted passed = record {
    within = omega (arith, slice_get_within h old.entry e here, passed.entry);
    items = passed.items ∙ more
        ∙ sym (ap (λ (xs : List Item). min (length xs) (2 ^ 64 - 1)) (ap (λ (k : ℕ). items_of (take k h)) passed.entry ∙ items_of_more h old.entry e here));
    copies = subst (λ (c : CopyPlaces). HoldCopies c (take new.entry h)) (sym passed.copies)
        (subst (λ (k : ℕ). HoldCopies (copies_after old.entry e.act (places_of old.copies)) (take k h)) (sym passed.entry) held);
  }
    where
      held : HoldCopies (copies_after old.entry e.act (places_of old.copies)) (take (old.entry + 1) h)
      held = subst (λ (xs : List HistoryEntry). HoldCopies (copies_after old.entry e.act (places_of old.copies)) xs) (sym (front_more h old.entry e here))
          (subst (λ (k : ℕ). HoldCopies (copies_after k e.act (places_of old.copies)) (take old.entry h ++ e ∷ [])) length_front
          (hold_more (places_of old.copies) (take old.entry h) e (subst (λ (k : ℕ). AreBelow k (places_of old.copies)) (sym length_front) below) at.copies))

      more : min (old.items + count) (2 ^ 64 - 1) ≡ min (length (items_of (take old.entry h) ++ items_by (take old.entry h) e)) (2 ^ 64 - 1)
      more = grind (arith, came, length-append)

  -- behind the entry's items come those of the entries behind it
  one_gathered : (before : Gathered) {after : Gathered} → after ≡ gathered (items_by (take old.entry h) e) before
      → gathered_at_last h (old.entry + 1) after ≡ gathered_at_last h old.entry before
  one_gathered before is =
      ap (λ (g : Gathered). gathered_at_last h (old.entry + 1) g) is
      ∙ ap (λ (g : Gathered). g.items) (gathered_on (items_by (take old.entry h) e) (items_from (old.entry + 1) h) before)
      ∙ ap (λ (items : List Item). (gathered items before).items) (sym (items_more h old.entry e here))

  pub passed_on : (before : Gathered) {after : Gathered} → after ≡ gathered (items_by (take old.entry h) e) before → new.entry ≡ old.entry + 1
      → gathered_at_last h new.entry after ≡ gathered_at_last h old.entry before
  passed_on before {after} is on = ap (λ (k : ℕ). gathered_at_last h k after) on ∙ one_gathered before is

  pub full_on : (before : Gathered) {after : Gathered} → after ≡ gathered (items_by (take old.entry h) e) before → after.room ≡ 0
      → gathered_at_last h old.entry after ≡ gathered_at_last h old.entry before
  full_on before {after} is full =
      full_stays (items_from old.entry h) after full ∙ sym (full_stays (items_from (old.entry + 1) h) after full) ∙ one_gathered before is

  -- the copies that the entries before it hold
  pub held_before : {A : Type 0} {tells : Ghosts A} (trail : Trail A tells) → firm_entries trail ≡ h → AreBelow old.entry (places_of old.copies)
      → IsAt h old → AreHeldIn trail (places_of old.copies) (take old.entry h)
  held_before trail firm below at = record {
    rest = drop old.entry h;
    front = firm ∙ sym (take-append-drop old.entry h);
    below = subst (λ (k : ℕ). AreBelow k (places_of old.copies)) (sym length_front) below;
    held = at.copies;
  }

pub within_more : {n : ℕ} {act : HistoryAct} {count : ℕ} {old new : Cursor} → old.entry < n → AreBelow old.entry (places_of old.copies)
    → HasPassed act count old new → IsWithin n new
within_more lt below passed = search (rules, below_more)

pub at_still : {h : List HistoryEntry} {old new : Cursor} → HasStayed old new → IsAt h old → IsAt h new
at_still {h} {old} {new} still at = record {
  within = omega (arith, still.entry, at.within);
  items = still.items ∙ at.items ∙ sym (ap (λ (k : ℕ). min (length (items_of (take k h))) (2 ^ 64 - 1)) still.entry);
  copies = subst (λ (k : ℕ). HoldCopies (places_of new.copies) (take k h)) (sym still.entry)
      (subst (λ (c : CopyPlaces). HoldCopies c (take old.entry h)) (sym still.copies) at.copies);
}

-- ---- a released copy

module _ (before : List HistoryEntry) (copies : CopyPlaces) (n : NodeId) (number moment : ℕ) (held : HoldCopies copies before) where
  -- what the entry that holds it has for a packet
  pub one_released : (k : ℕ) (e : HistoryEntry) → copy_at copies n.0 number ≡ Some k → slice_get before k ≡ Some e
      → released_records before moment n number ≡ option_map_or (filed_under (present_key before n number) moment) (packet_of_hold e.act) []
  one_released k e at here = grind arith

-- the records of a released number, as the entry that holds it was read
pub released_in : {A : Type 0} {tells : Ghosts A} {trail : Trail A tells} {copies : CopyPlaces} {before : List HistoryEntry} (n : NodeId)
    (number moment k : ℕ) (v : HistoryEntry) → AreHeldIn trail copies before → Some k ≡ copy_at copies n.0 number
    → ((e : HistoryEntry) → slice_get (firm_entries trail) k ≡ Some e → v ≡ e)
    → released_records before moment n number ≡ option_map_or (filed_under (present_key before n number) moment) (packet_of_hold v.act) []
released_in {A} {tells} {trail} {copies} {before} n number moment k v are at read =
    let lt : k < length before = after_is (copies.path n.0) (copies.hold n.0 number) (λ j. j < length before) (are.below.hold n.0 number) k (sym at) in
    let found = some_at before k lt in
    let here : slice_get (firm_entries trail) k ≡ Some found.0 =
    ap (λ (xs : List HistoryEntry). slice_get xs k) are.front ∙ get_front before are.rest k lt ∙ found.1 in
    one_released before copies n number moment are.held k found.0 (sym at) found.1
    ∙ ap (λ (e : HistoryEntry). option_map_or (filed_under (present_key before n number) moment) (packet_of_hold e.act) []) (sym (read found.0 here))

-- copies stay where they are as the trail is read
pub held_still : {A : Type 0} {tells : Ghosts A} {old new : Trail A tells} {copies : CopyPlaces} {before : List HistoryEntry} → Told tells
    → IsRead old new → AreHeldIn old copies before → AreHeldIn new copies before
held_still told read are = record { rest = are.rest; front = read.kept.firm_entries told ∙ are.front; below = are.below; held = are.held }

-- so does a cursor
pub stands_still : {A : Type 0} {tells : Ghosts A} {old new : Trail A tells} {h : List HistoryEntry} {first now : Cursor} → Told tells
    → IsRead old new → StandsIn old h first → IsAt h now → StandsIn new h now
stands_still told read stands at = record { size = stands.size; fit = stands.fit; firm = read.kept.firm_entries told ∙ stands.firm; at = at }

pub below_up : (m n : ℕ) (copies : CopyPlaces) → m ≤ n → AreBelow m copies → AreBelow n copies
below_up m n copies le below = search rules

-- ---- the entry behind a cursor

-- It stands there, and was read, and its items were gathered.
pub record WasGathered (h : List HistoryEntry) (cursor : Cursor) (v : HistoryEntry) (into after : Gathered) : Type 0 where
  pub here : slice_get h cursor.entry ≡ Some v
  pub items : after ≡ gathered (items_by (take cursor.entry h) v) into

pub was_gathered : {A : Type 0} {tells : Ghosts A} {trail mid : Trail A tells} {h : List HistoryEntry} {cursor : Cursor} {v : HistoryEntry} {into after : Gathered}
    → Told tells → StandsIn trail h cursor → AreBelow cursor.entry (places_of cursor.copies) → cursor.entry < length (firm_entries trail) → IsRead trail mid
    → ((e : HistoryEntry) → slice_get (firm_entries trail) cursor.entry ≡ Some e → v ≡ e)
    → ((before : List HistoryEntry) → AreHeldIn mid (places_of cursor.copies) before → NamesOnce v.act → after ≡ gathered (items_by before v) into)
    → WasGathered h cursor v into after
was_gathered {A} {tells} {trail} {mid} {h} {cursor} {v} told stands below lt read reads gathers =
    let within : cursor.entry < length h = rw stands.firm at lt in
    let found = some_at h cursor.entry within in
    let is : v ≡ found.0 = reads found.0 (ap (λ (xs : List HistoryEntry). slice_get xs cursor.entry) stands.firm ∙ found.1) in
    let here : slice_get h cursor.entry ≡ Some v = found.1 ∙ ap (λ (e : HistoryEntry). Some e) (sym is) in
    record {
      here = here;
      items = gathers (take cursor.entry h) (held_still told read (held_before h v cursor cursor here trail stands.firm below stands.at))
          (fit_names_once stands.size h cursor.entry v stands.fit here);
    }

-- where no entry is left, what was gathered is all
pub end_items : (h : List HistoryEntry) (k : ℕ) (g : Gathered) → length h ≤ k → g.items ≡ gathered_at_last h k g
end_items h k g past =
    sym (at_drop_all (λ (rest : List HistoryEntry). (gathered (along items_by (take k h) rest) g).items) h k past ∙ ap (λ (x : Gathered). x.items) (none_more g))
