-- A book's cursor, as firm entries come after the others.
use Rattle.std.proofs.Common.{◌≡◌, ◌≤◌, not, Bool, true, false, List, [], ◌++◌, sym, subst, ◌∙◌, ℕ, if◌then◌else◌, length, arith, ◌-◌, ◌<◌, ◌==◌, drop, take, ap, length-append, rules}
use Rattle.gateway_book.proofs.Names.{all_entries, AllFirm, AllFit, along-append, append-nil, area_of, capacity_of, cond_both, costs_of, counted, Cursor, drop_all, firm_entries, firm_length, FirmStays, fit_front, fit_is_within, fit_knows_few, Follows, Gathered, gathered_at_last, Ghosts, HistoryEntry, Index, is_closed, IsAt, IsBegun, IsFollowed, IsKept, IsReopened, IsWithin, Item, items_between, items_by, items_from, items_of, length_at, length_of, most_octets, Rose, StandsIn, take-append-drop, take-append-le, Told, TornDropped, TornStand, Trail, waiting}
use Rattle.gw_base.specs.Known.{known_nodes}
use Rattle.gateway_index.specs.Limits.{most_nodes}
use Rattle.gateway_book.specs.Standing.{HasCursor, IsCounting}
use Rattle.gateway_book.proofs.CursorLemmas.{begun_at, begun_within}
use Rattle.gateway_book.proofs.ItemsLemmas.{drop_over}

module _ {A : Type 0} {tells : Ghosts A} (old new : Trail A tells) (before after : Index) where
  -- the entries that an index follows on both sides, none behind them
  settled_on : (h : List HistoryEntry) → tells.size (area_of new) ≡ tells.size (area_of old) → tells.size (area_of old) ≤ most_octets
      → (Told tells → firm_entries new ≡ h) → waiting new ≡ [] → (Told tells → (side : Bool) → Follows side after h)
      → (Told tells → AllFit (tells.size (area_of old)) h) → IsFollowed new after
  settled_on h size short listed none follows fit = record {
    short = rw size short;
    firm = λ told. rw (listed told) (follows told true);
    live = λ told. subst (λ (g : List HistoryEntry). Follows false after g) (sym (all told)) (follows told false);
    fit = λ told. rw size (subst (λ (g : List HistoryEntry). AllFit (tells.size (area_of old)) g) (sym (all told)) (fit told));
  }
    where
      all : Told tells → all_entries new ≡ h
      all told = (λ i. listed told i ++ none i) ∙ append-nil h

  -- an opening again
  pub followed_again : (stands : Bool) → IsFollowed old before → IsReopened old new stands → (stands ≡ true → TornStand old new)
      → (stands ≡ false → TornDropped old new) → tells.size (area_of new) ≡ tells.size (area_of old)
      → ((side : Bool) (h : List HistoryEntry) → Follows (not stands) before h → Follows side after h) → IsFollowed new after
  followed_again stands followed reopened stand dropped size keeps = search (rules, settled_on, fit_front)

-- ---- the front of a fit history, which is what is firm of it

-- its items are few
pub front_few : ((h : List HistoryEntry) → length (items_of h) ≤ costs_of h) → (size : ℕ) (h more : List HistoryEntry) → AllFit size (h ++ more) → length (items_of h) ≤ capacity_of size
front_few law size h more fit = grind (arith, fit_is_within, fit_front)

-- so are the nodes that the history of a book knows, broken or not
pub history_knows_few : (size : ℕ) (is_broken : Bool) (firm rest : List HistoryEntry) → AllFit size (firm ++ rest)
    → length (known_nodes (if is_broken then firm else firm ++ rest)) ≤ most_nodes
history_knows_few size is_broken firm rest fit = grind (arith, fit_knows_few, fit_front)

-- ---- a book's cursor, as firm entries come after the others

-- ---- more entries

at_longer : (h more : List HistoryEntry) (c : Cursor) → IsAt h c → IsAt (h ++ more) c
at_longer h more c at = search (rules, length-append, take-append-le)

-- a cursor before all entries stands among any
pub stands_begun : {A : Type 0} {tells : Ghosts A} {trail : Trail A tells} {cursor : Cursor} → IsBegun cursor → HasCursor trail cursor
stands_begun {A} {tells} {trail} {cursor} begun =
    record { within = begun_within (firm_length trail) cursor begun; at = λ told. begun_at (firm_entries trail) cursor begun }

-- a cursor in the place of another that stands in a history
pub stands_moved : {A : Type 0} {tells : Ghosts A} {trail : Trail A tells} {h : List HistoryEntry} {old new : Cursor} → (IsAt h old → IsAt h new)
    → StandsIn trail h old → StandsIn trail h new
stands_moved at stands = record { size = stands.size; fit = stands.fit; firm = stands.firm; at = at stands.at }

-- a book's cursor stands in its firm part
pub stands_in : {A : Type 0} {tells : Ghosts A} {trail : Trail A tells} {cursor : Cursor} → HasCursor trail cursor → Told tells
    → AllFit (tells.size (area_of trail)) (all_entries trail) → StandsIn trail (firm_entries trail) cursor
stands_in stands told fit = search (rules, fit_front)

-- after a reading
pub stands_read : {A : Type 0} {tells : Ghosts A} {old new : Trail A tells} {now : Cursor} → IsKept old new → IsWithin (firm_length old) now
    → (Told tells → IsAt (firm_entries old) now) → HasCursor new now
stands_read one two three = search rules

module _ {A : Type 0} {tells : Ghosts A} {old new : Trail A tells} {cursor : Cursor} (stands : HasCursor old cursor) where
  -- the firm entries are those that were firm, and others after them
  stands_longer : firm_length old ≤ firm_length new → (more : List HistoryEntry) → (Told tells → firm_entries new ≡ firm_entries old ++ more) → HasCursor new cursor
  stands_longer longer more listed = record {
    within = record { entry = omega (arith, stands.within.entry, longer); copies = stands.within.copies };
    at = λ told. subst (λ (h : List HistoryEntry). IsAt h cursor) (sym (listed told)) (at_longer (firm_entries old) more cursor (stands.at told));
  }

  stands_same : firm_length new ≡ firm_length old → (Told tells → firm_entries new ≡ firm_entries old) → HasCursor new cursor
  stands_same count listed = stands_longer (omega (arith, count)) [] (λ told. listed told ∙ sym (append-nil (firm_entries old)))

  pub stands_firm : FirmStays old new → HasCursor new cursor
  stands_firm stays = stands_same stays.count (λ told. stays.listed)

  -- a commit
  pub stands_all : {n : ℕ} → is_closed old ≡ false → firm_length old ≤ length_of old → AllFirm old new n → HasCursor new cursor
  stands_all open_now is all = search (rules, stands_longer)

  -- an opening again
  pub stands_again : (stood : Bool) → (stood ≡ true → TornStand old new) → (stood ≡ false → TornDropped old new) → HasCursor new cursor
  stands_again stood stand dropped = search (rules, stands_longer, stands_same)

-- ---- what is gathered from a cursor on

pub items_after : {h : List HistoryEntry} {cursor : Cursor} {from room skip : ℕ} {into : Gathered} → IsAt h cursor → cursor.items ≤ from
    → cursor.items < 18446744073709551615 → skip ≡ from - cursor.items → into ≡ record { skip = skip; room = room; items = [] }
    → gathered_at_last h cursor.entry into ≡ items_between from room h
items_after {h} {cursor} {from} {room} at before small left is =
    ap (λ (g : Gathered). gathered_at_last h cursor.entry g) is
    ∙ ap (λ (k : ℕ). take room (drop k (items_from cursor.entry h))) (left ∙ ap (λ (n : ℕ). from - n) exact)
    ∙ ap (λ (xs : List Item). take room (xs ++ drop (from - length front) (items_from cursor.entry h))) (sym (drop_all from front (omega (arith, before, exact))))
    ∙ ap (λ (xs : List Item). take room xs) (sym (drop_over from front (items_from cursor.entry h)))
    ∙ ap (λ (xs : List Item). take room (drop from xs)) (sym whole)
  where
    front : List Item
    front = items_of (take cursor.entry h)

    exact : cursor.items ≡ length front
    exact = omega (arith, at.items, small)

    whole : items_of h ≡ front ++ items_from cursor.entry h
    whole = ap items_of (sym (take-append-drop cursor.entry h)) ∙ along-append items_by [] (take cursor.entry h) (drop cursor.entry h)

-- ---- what is counted

-- no more than the firm entries
pub at_most : (cuts firm kept : ℕ) → kept ≤ firm → length_at cuts firm kept ≤ firm
at_most cuts firm kept le = cond_both (cuts == 0) firm kept (λ n. n ≤ firm) (λ _. omega arith) (λ _. le)

module _ {A : Type 0} {tells : Ghosts A} {old new : Trail A tells} {cuts kept : ℕ} (counting : IsCounting old cuts kept) where
  -- a call that didn't fail
  pub counting_on : tells.faults (area_of old) ≤ tells.faults (area_of new) → firm_length old ≤ firm_length new → IsCounting new cuts kept
  counting_on later longer = record { fewer = omega (arith, counting.fewer, later); within = omega (arith, counting.within, longer) }

  pub counting_firm : FirmStays old new → IsCounting new cuts kept
  counting_firm stays = counting_on (omega (arith, ap (λ (a : A). tells.faults a) stays.area)) (omega (arith, stays.count))

  -- a commit or an opening again that failed
  pub counting_failed : {now after : ℕ} → Rose (tells.faults (area_of old)) (tells.faults (area_of new)) → firm_length new ≡ firm_length old
      → now ≡ counted 1 cuts → after ≡ length_at cuts (firm_length new) kept → IsCounting new now after
  counting_failed rose count cut at = search (rules, at_most)
