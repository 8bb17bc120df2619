-- What sorted keys and sums tell of a tally.
use Rattle.std.proofs.Common.{◌≡◌, ℕ, ◌+◌, ◌<◌, ◌≤◌, ◌==◌, ◌&&◌, not, ◌^◌, Bool, true, false, List, [], ◌∷◌, length, filter, refl, ap, ◌∙◌, arith, ◌-◌, ◌*◌, if◌then◌else◌, nat_le, map, count_by, sym, rules}
use Rattle.cgf_journal.proofs.Names.{and_parts, AreNoted, ArePaid, AreReady, capacity_of, cheapest_hold, cond_both, cost_of, count_by-le-length, count_held, counted_keys, counts, due_after, eqb-true, firm_keys, free_beside, GrowsBy, has_room_behind, HasNoRoom, held_after, held_behind, held_by, held_in, held_in_order, held_of, HeldKey, HistoryAct, HistoryEntry, Hold, is_named, IsOnceEach, KeepsFirm, KeptKey, key_of, keys_in_order, keys_of, le-leb, leb-true, length-filter, length-map, live_keys, NodeId, passing, Seal, SortedKeys, stays_held, Tallies, tally_behind}
use Rattle.cgf_journal.specs.Kept.{Kept}
use Rattle.cgf_journal.specs.Sums.{sum_after, tally_with}
use Rattle.cgf_journal.specs.declared.sum.Sum.{Sum}
use Rattle.cgf_journal.proofs.KeysLemmas.{counted_le, length-key_in_order}
use Rattle.cgf_journal.proofs.InOrder.{passing_after, passing_le, passing_of, AreInOrder, held_as, held_then, same_held}
use Rattle.cgf_journal.proofs.Tallies.{hold_costs}

abbrev pub tallies : Kept → Sum → Sum → Tallies
tallies keys firm live = record { firm = tally_with firm (keys.firm); live = tally_with live (keys.live); reserved = keys.reserved }

-- ---- how many keys stay

both_tests : (p : HeldKey → Bool) (q : KeptKey → Bool) (keys : List KeptKey)
    → filter p (map key_of (filter q keys)) ≡ map key_of (filter (λ (kept : KeptKey). q kept && p (key_of kept)) keys)
both_tests p q [] = refl
both_tests p q (kept ∷ keys) = grind (arith, both_tests p q keys)

pub length-staying : (p : HeldKey → Bool) (firm : Bool) (round : ℕ) (keys : List KeptKey)
    → length (filter p (counted_keys firm round keys)) ≡ count_by (λ (kept : KeptKey). counts firm round kept && p (key_of kept)) keys
length-staying p firm round keys =
    ap (λ (l : List HeldKey). length l) (both_tests p (λ (kept : KeptKey). counts firm round kept) keys)
    ∙ length-map (filter (λ (kept : KeptKey). counts firm round kept && p (key_of kept)) keys) key_of
    ∙ length-filter (λ (kept : KeptKey). counts firm round kept && p (key_of kept)) keys

-- ---- one more entry

pub one_more : (keys now : Kept) (firm live sum : Sum) (t : Tallies) (e : HistoryEntry) → tallies keys firm live ≡ t
    → now.firm ≡ keys.firm → now.live ≡ held_after e.act (keys.live) → now.reserved ≡ keys.reserved → sum ≡ sum_after live e
    → tallies now firm sum ≡ (let r : Tallies = record { firm = t.firm; live = tally_behind t.live e; reserved = t.reserved } in r)
one_more keys now firm live sum t e is same more places added = grind arith

-- ---- each key was paid for

pub paid_settled : (keys now : Kept) (firm live : Sum) → ArePaid keys firm live → now ≡ record { firm = keys.live; live = keys.live; count = keys.count; reserved = keys.reserved }
    → length keys.live ≤ keys.count → ArePaid now live live
paid_settled keys now firm live paid is within = search rules

-- where no key more is reserved, the next would cost more than is left
pub key_refused : (keys : Kept) (firm live : Sum) (t : Tallies) (e : HistoryEntry) → tallies keys firm live ≡ t → ArePaid keys firm live → HasNoRoom (count_held e.act) keys
    → cheapest_hold * (t.reserved + 1) ≤ t.live.costs + cost_of e
key_refused keys firm live t e is paid full = grind (arith, hold_costs)

-- ---- the tally of the firm entries, or else of all

tally_chosen : (b : Bool) (keys : Kept) (firm live sum : Sum) (t : Tallies) → tallies keys firm live ≡ t → sum ≡ (if b then firm else live)
    → tally_with sum (held_of b keys) ≡ (if b then t.firm else t.live)
tally_chosen b keys firm live sum t is which = grind arith

-- ---- what is free

pub left_free : (b : Bool) (keys : Kept) (firm live sum : Sum) (t : Tallies) (size held promised result : ℕ) → tallies keys firm live ≡ t → sum ≡ (if b then firm else live)
    → held ≡ length (held_of b keys)
    → promised ≡ 76 * (held + 0) + (if sum.is_close_due then 30 else 0)
    → result ≡ capacity_of size - (sum.costs + promised)
    → result ≡ free_beside (if b then t.firm else t.live) size
left_free b keys firm live sum t size held promised result is which count owed left = grind (arith, tally_chosen)

-- ---- room

one_at_most : (act : HistoryAct) → length (held_by act []) ≤ 1
one_at_most act = grind arith

pub length-in_order : (more keys : List HeldKey) → length (keys_in_order more keys) ≡ length keys + length more
length-in_order [] keys = omega arith
length-in_order (key ∷ more) keys = omega (arith, length-key_in_order key (keys_in_order more keys), length-in_order more keys)

-- the costs and promises after an entry where so many keys are held
abbrev load : Sum → HistoryEntry → ℕ → ℕ
load sum e held = sum.costs + cost_of e + (76 * held + (if due_after sum.is_close_due e.act then 30 else 0))

abbrev staying : HistoryAct → List HeldKey → ℕ
staying act keys = length (filter (λ (key : HeldKey). stays_held act key) keys)

-- with the keys counted
pub counted_room : (b : Bool) (keys : Kept) (firm live sum : Sum) (t : Tallies) (e : HistoryEntry) (size : ℕ) → tallies keys firm live ≡ t → sum ≡ (if b then firm else live)
    → nat_le (load sum e (staying e.act (held_of b keys) + length (held_by e.act []))) (capacity_of size) ≡ has_room_behind (if b then t.firm else t.live) e size
counted_room b keys firm live sum t e size is which = grind (arith, length-in_order, tally_chosen)

-- where there is room even if each key stays held
pub room_for_all : (b : Bool) (keys : Kept) (firm live sum : Sum) (t : Tallies) (e : HistoryEntry) (size held : ℕ) → tallies keys firm live ≡ t → sum ≡ (if b then firm else live)
    → held ≡ length (held_of b keys) → nat_le (load sum e (held + 1)) (capacity_of size) ≡ true → true ≡ has_room_behind (if b then t.firm else t.live) e size
room_for_all b keys firm live sum t e size held is which count room =
    sym (le-leb (load sum e (staying e.act (held_of b keys) + length (held_by e.act []))) (capacity_of size)
    (omega (arith, count, leb-true (load sum e (held + 1)) (capacity_of size) room, one_at_most e.act, length-filter (λ (key : HeldKey). stays_held e.act key) (held_of b keys), count_by-le-length (λ (key : HeldKey). stays_held e.act key) (held_of b keys))))
    ∙ counted_room b keys firm live sum t e size is which

-- ---- two lists of keys, of which an entry makes something

-- fewer keys pass two tests than one of them
pub passing_both_le : (q p : HeldKey → Bool) (keys : List HeldKey) → passing (λ (key : HeldKey). q key && p key) keys ≤ passing p keys
passing_both_le q p [] = omega arith
passing_both_le q p (key ∷ keys) = grind (arith, passing_both_le q p keys)

passing_no : (p : HeldKey → Bool) (keys : List HeldKey) → ((key : HeldKey) → p key ≡ false) → passing p keys ≡ 0
passing_no p [] none = refl
passing_no p (key ∷ keys) none = rw (none key) (omega (arith, passing_no p keys none))

neither : (b : Bool) → (not b && b) ≡ false
neither b = grind arith

-- ---- no key is held twice

once_let_go : (act : HistoryAct) (held : (HeldKey → Bool) → ℕ) → ((q p : HeldKey → Bool) → held (λ (key : HeldKey). q key && p key) ≤ held p) → count_held act ≡ 0
    → IsOnceEach held → IsOnceEach (held_behind act held)
once_let_go act held fewer none once n x =
    omega (arith, once n x, fewer (λ (key : HeldKey). stays_held act key) (λ (key : HeldKey). is_named n x key), passing_le (λ (key : HeldKey). is_named n x key) (held_by act []), none)

once_held : (n : NodeId) (x : ℕ) (packet : List ℕ) (held : (HeldKey → Bool) → ℕ) → ((q p : HeldKey → Bool) → held (λ (key : HeldKey). q key && p key) ≤ held p)
    → held (λ (key : HeldKey). stays_held (Seal n x) key && is_named n.0 x key) ≡ 0 → IsOnceEach held → IsOnceEach (held_behind (Hold n x packet) held)
once_held n x packet held fewer gone once m y =
    cond_both (is_named m y (record { node = n; number = x })) 1 0
    (λ k. held (λ (key : HeldKey). stays_held (Seal n x) key && is_named m y key) + (k + 0) ≤ 1)
    (λ is. let parts = and_parts (m == n.0) (y == x) is in
    let same : held (λ (key : HeldKey). stays_held (Seal n x) key && is_named m y key) ≡ held (λ (key : HeldKey).
    stays_held (Seal n x) key && is_named n.0 x key) =
    λ i. held (λ (key : HeldKey). stays_held (Seal n x) key && is_named (eqb-true m n.0 parts.0 i)
    (eqb-true y x parts.1 i) key) in
    omega (arith, gone, same))
    (λ isnt. omega (
      arith,
      once m y,
      fewer (λ (key : HeldKey). stays_held (Seal n x) key) (λ (key : HeldKey).
          is_named m y key),
    ))

held_fewer : (firm : Bool) (early late : SortedKeys) (q p : HeldKey → Bool) → held_in firm early late (λ (key : HeldKey). q key && p key) ≤ held_in firm early late p
held_fewer firm early late q p = omega (arith, passing_both_le q p (keys_of firm early), passing_both_le q p (keys_of firm late))

held_gone : (n : NodeId) (x : ℕ) (early late : SortedKeys) → held_in false early late (λ (key : HeldKey). stays_held (Seal n x) key && is_named n.0 x key) ≡ 0
held_gone n x early late = grind (arith, passing_no, neither)

once_same : (held now : (HeldKey → Bool) → ℕ) → ((p : HeldKey → Bool) → now p ≡ held p) → IsOnceEach held → IsOnceEach now
once_same held now same once n x = omega (arith, same (λ (key : HeldKey). is_named n x key), once n x)

module _ (act : HistoryAct) (more : ℕ) (early late early_new late_new : SortedKeys) (spare : ℕ) (noted : AreNoted act more early late early_new late_new) (ready : AreReady early late spare) where
  ready_on : IsOnceEach (held_behind act (λ p. held_in false early late p)) → AreReady early_new late_new spare
  ready_on once = search (rules, once_same)

  pub ready_let_go : count_held act ≡ 0 → AreReady early_new late_new spare
  ready_let_go none = ready_on (once_let_go act (λ p. held_in false early late p) (held_fewer false early late) none ready.live_once)

pub ready_held : (n : NodeId) (x : ℕ) (packet : List ℕ) (early late early_new late_new : SortedKeys) (spare : ℕ) → AreNoted (Hold n x packet) 1 early late early_new late_new → AreReady early late spare → AreReady early_new late_new spare
ready_held n x packet early late early_new late_new spare noted ready =
    ready_on (Hold n x packet) 1 early late early_new late_new spare noted ready
    (once_held n x packet (λ p. held_in false early late p) (held_fewer false early late) (held_gone n x early late) ready.live_once)

-- ---- what an entry makes of two lists

same_length : (keys others : List HeldKey) → keys ≡ others → (p : HeldKey → Bool) → passing p keys ≡ passing p others
same_length keys others is p = ap (λ (l : List HeldKey). passing p l) is

-- the early list lets go what the entry does, and the late one takes the entry
both_noted : (act : HistoryAct) (more : ℕ) (early late early_new late_new : SortedKeys)
    → ((p : HeldKey → Bool) → passing p (live_keys early_new) ≡ passing (λ (key : HeldKey). stays_held act key && p key) (live_keys early))
    → GrowsBy 0 early early_new → live_keys late_new ≡ held_after act (live_keys late) → GrowsBy more late late_new → AreNoted act more early late early_new late_new
both_noted act more early late early_new late_new drops one two_live two = search (rules, same_length, passing_after)

pub let_go_both : (act : HistoryAct) (early late early_new late_new : SortedKeys) → count_held act ≡ 0
    → live_keys early_new ≡ held_after act (live_keys early) → GrowsBy (count_held act) early early_new → live_keys late_new ≡ held_after act (live_keys late) → GrowsBy (count_held act) late late_new → AreNoted act 0 early late early_new late_new
let_go_both act early late early_new late_new none one_live one two_live two =
    search (rules, both_noted, passing_le, same_length, passing_after)

pub hold_one : (n : NodeId) (x : ℕ) (packet : List ℕ) (early late early_new late_new : SortedKeys)
    → live_keys early_new ≡ held_after (Seal n x) (live_keys early) → GrowsBy 0 early early_new → live_keys late_new ≡ held_after (Hold n x packet) (live_keys late) → GrowsBy 1 late late_new → AreNoted (Hold n x packet) 1 early late early_new late_new
hold_one n x packet early late early_new late_new one_live one two_live two =
    both_noted (Hold n x packet) 1 early late early_new late_new
    (λ p. omega (arith, same_length (live_keys early_new) (held_after (Seal n x) (live_keys early)) one_live p, passing_after p (Seal n x) (live_keys early)))
    one two_live two

-- ---- what contracts see of two lists

abbrev pub seen : SortedKeys → SortedKeys → Kept
seen early late = record {
  firm = held_in_order true early late;
  live = held_in_order false early late;
  count = length early.keys.items + length late.keys.items;
  reserved = early.reserved;
}

chosen : (b : Bool) (early late : SortedKeys) (kept : Kept) → seen early late ≡ kept → held_in_order b early late ≡ held_of b kept
chosen b early late kept is = grind arith

pub counted_both : (b : Bool) (early late : SortedKeys) (kept : Kept) (n m : ℕ) → seen early late ≡ kept → n ≡ length (keys_of b early) → m ≡ length (keys_of b late) → n + m ≡ length (held_of b kept)
counted_both b early late kept n m is one two = grind (arith, length-in_order, chosen)

pub staying_both : (p : HeldKey → Bool) (b : Bool) (early late : SortedKeys) (kept : Kept) (n m : ℕ) → seen early late ≡ kept
    → n ≡ length (filter p (keys_of b early)) → m ≡ length (filter p (keys_of b late)) → n + m ≡ length (filter p (held_of b kept))
staying_both p b early late kept n m is one two = grind (arith, passing_of, held_as, chosen)

-- ---- one more entry, seen so

pub held_fits : (n : NodeId) (x : ℕ) (packet : List ℕ) → x < 2 ^ 64 → AreInOrder (held_by (Hold n x packet) [])
held_fits n x packet small = (small, (tt, tt))

module _ (act : HistoryAct) (more : ℕ) (early late early_mid late_mid early_new late_new : SortedKeys) (kept : Kept) (is : seen early late ≡ kept)
    (same : (firm : Bool) (p : HeldKey → Bool) → held_in firm early_mid late_mid p ≡ held_in firm early late p)
    (fewer : length early_mid.keys.items + length late_mid.keys.items ≤ length early.keys.items + length late.keys.items)
    (reserved : early_mid.reserved ≡ early.reserved) (noted : AreNoted act more early_mid late_mid early_new late_new) where
  pub seen_live : AreInOrder (held_by act []) → held_in_order false early_new late_new ≡ held_after act kept.live
  seen_live fits = grind (arith, held_then, same_held)

  pub seen_kept : KeepsFirm more kept (seen early_new late_new)
  seen_kept = search (rules, same_held)

-- ---- settled and reverted

pub settled_within : (early late : SortedKeys) (kept : Kept) → seen early late ≡ kept → length kept.live ≤ kept.count
settled_within early late kept is = grind (arith, length-in_order, counted_le)

pub reverted_seen : (early late early_new late_new : SortedKeys) (kept : Kept) → seen early late ≡ kept → firm_keys early_new ≡ firm_keys early → live_keys early_new ≡ firm_keys early → firm_keys late_new ≡ firm_keys late → live_keys late_new ≡ firm_keys late
    → length early_new.keys.items ≡ length (firm_keys early) → length late_new.keys.items ≡ length (firm_keys late) → early_new.reserved ≡ early.reserved
    → seen early_new late_new ≡ record { firm = kept.firm; live = kept.firm; count = length kept.firm; reserved = kept.reserved }
reverted_seen early late early_new late_new kept is a b c d e f g =
    (λ i. record { firm = keys_in_order (c i) (a i); live = keys_in_order (d i) (b i); count = counted i; reserved = g i })
    ∙ ap (λ (k : Kept). let r : Kept = record { firm = k.firm; live = k.firm; count = length k.firm; reserved = k.reserved } in r) is
  where
    counted : length early_new.keys.items + length late_new.keys.items ≡ length (held_in_order true early late)
    counted = omega (arith, e, f, length-in_order (firm_keys late) (firm_keys early))

pub keeps_so : (more other : ℕ) (a b : Kept) → KeepsFirm more a b → other ≡ more → KeepsFirm other a b
keeps_so more other a b keeps same = record { firm = keeps.firm; count = omega (arith, keeps.count, same); reserved = keeps.reserved }
