-- What is promised is room enough for a Close that is due, and for Releases and Cancels of held numbers.
use Rattle.std.proofs.Common.{◌≡◌, ◌≢◌, ℕ, ◌+◌, ◌*◌, ◌≤◌, ◌==◌, ◌&&◌, ◌||◌, not, Bool, true, false, cond, if◌then◌else◌, nat_le, List, [], ◌∷◌, ◌++◌, length, All, filter, refl, sym, ap, ◌∙◌, arith}
use Rattle.std.specs.List.{AllByRecursion, IsDistinct, list_any}
use Rattle.std.proofs.lemmas.Bool.{and_parts, eq-eqb, eqb-false, eqb-true, le-leb, leb-true, ne_eqb}
use Rattle.std.proofs.lemmas.List.{append-nil}
use Rattle.std.proofs.lemmas.List.Elements.{All-head, All-tail}
use Rattle.std.proofs.lemmas.List.Sums.{count_by-le-length, length-filter}
use Rattle.gw_base.specs.declared.address.NodeId.{NodeId}
use Rattle.gw_base.specs.declared.held.HeldKey.{HeldKey}
use Rattle.gw_base.specs.declared.history.Caller.{Caller}
use Rattle.gw_base.specs.declared.history.HistoryAct.{HistoryAct}
use Rattle.gw_base.specs.declared.history.HistoryAct.TheVariants.{Cancel, Close, Release}
use Rattle.gw_base.specs.declared.history.HistoryEntry.{HistoryEntry}
use Rattle.gw_base.specs.HeldKeys.{held_by, held_keys, holds, is_key, promised_octets}
use Rattle.gw_base.specs.History.{due_after, is_close_due}
use Rattle.gw_base.specs.View.{stays_held}
use Rattle.gw_base.specs.HeldLaws.{held_keys-append}
use Rattle.gw_base.specs.EntryLaws.{is_close_due-append}
use Rattle.entry_codec.specs.LawTypes.{RoomIsOfTheAct}
use Rattle.entry_codec.specs.Room.{IsWithin, capacity_of, costs_of, has_room}
use Rattle.entry_codec.specs.Spelling.{body, cost_of}
use Rattle.entry_codec.specs.Laws.{costs_of-append}
use Rattle.entry_codec.proofs.Fields.{length_numbers}

-- ---- keys that stay held

length-filter-le : (p : HeldKey → Bool) (keys : List HeldKey) → length (filter p keys) ≤ length keys
length-filter-le p keys = omega (arith, length-filter p keys, count_by-le-length p keys)

abbrev Implies : (HeldKey → Bool) → (HeldKey → Bool) → Type 0
Implies q p = (key : HeldKey) → q key ≡ true → p key ≡ true

no_more_by : (key : HeldKey) (kept left : List HeldKey) (a b : Bool) → (a ≡ true → b ≡ true) → length kept ≤ length left → length (cond a (key ∷ kept) kept) ≤ length (cond b (key ∷ left) left)
no_more_by key kept left a b w le = grind arith

no_more : (p q : HeldKey → Bool) → Implies q p → (keys : List HeldKey) → length (filter q keys) ≤ length (filter p keys)
no_more p q w [] = omega arith
no_more p q w (key ∷ keys) = no_more_by key (filter q keys) (filter p keys) (q key) (p key) (w key) (no_more p q w keys)

fewer_by : (key : HeldKey) (kept left : List HeldKey) (here others a b : Bool) → (here ≡ true → (b ≡ true) × (a ≡ false)) → (a ≡ true → b ≡ true)
    → length kept ≤ length left → (others ≡ true → length kept + 1 ≤ length left) → (here || others) ≡ true
    → length (cond a (key ∷ kept) kept) + 1 ≤ length (cond b (key ∷ left) left)
fewer_by key kept left here others a b at w le less any = grind arith

-- a test that a key fails which another test lets pass keeps fewer
fewer : (p q t : HeldKey → Bool) → Implies q p → ((key : HeldKey) → t key ≡ true → (p key ≡ true) × (q key ≡ false)) → (keys : List HeldKey)
    → list_any t keys ≡ true → length (filter q keys) + 1 ≤ length (filter p keys)
fewer p q t w at [] any = absurd cc
fewer p q t w at (key ∷ keys) any =
    fewer_by key (filter q keys) (filter p keys) (t key) (list_any t keys) (q key) (p key) (at key) (w key) (no_more p q w keys) (fewer p q t w at keys) any

-- ---- keys that numbers name

-- whether a node's numbers name a key
abbrev lists : NodeId → List ℕ → HeldKey → Bool
lists n xs key = (n.0 == key.node.0) && list_any (λ (x : ℕ). x == key.number) xs

fewer_named : (a b c : Bool) → not (a && (b || c)) ≡ true → not (a && c) ≡ true
fewer_named a b c e = grind arith

none_other : (x : ℕ) (xs : List ℕ) → AllByRecursion (λ (y : ℕ). (x == y) ≡ false) xs → list_any (λ (y : ℕ). y == x) xs ≡ false
none_other x [] apart = refl
none_other x (y ∷ xs) apart = rw (ne_eqb y x (λ e. eqb-false x y apart.0 (sym e)), none_other x xs apart.1) refl

named_once : (n : NodeId) (x : ℕ) (xs : List ℕ) → AllByRecursion (λ (y : ℕ). (x == y) ≡ false) xs → (key : HeldKey) → is_key n.0 x key ≡ true
    → (not (lists n xs key) ≡ true) × (not (lists n (x ∷ xs) key) ≡ false)
named_once n x xs apart key at =
    let both = and_parts (key.node.0 == n.0) (key.number == x) at in
    let node : key.node.0 ≡ n.0 = eqb-true key.node.0 n.0 both.0 in
    let number : key.number ≡ x = eqb-true key.number x both.1 in
    let others : list_any (λ (y : ℕ). y == key.number) xs ≡ false = ap (λ (k : ℕ). list_any (λ (y : ℕ). y == k) xs) number ∙ none_other x xs apart in
    let first : (n.0 == key.node.0) ≡ true = eq-eqb n.0 key.node.0 (sym node) in
    let named : (x == key.number) ≡ true = eq-eqb x key.number (sym number) in
    (rw (others, first) refl, rw (first, named) refl)

-- held numbers that are named once each let go as many keys
released : (n : NodeId) (xs : List ℕ) (keys : List HeldKey) → IsDistinct (λ x y. x == y) xs → All (λ x. holds n.0 x keys ≡ true) xs
    → length (filter (λ (key : HeldKey). not (lists n xs key)) keys) + length xs ≤ length keys
unfolding IsDistinct
released n [] keys apart held = omega (arith, length-filter-le (λ (key : HeldKey). not (lists n [] key)) keys)
released n (x ∷ xs) keys apart held =
    let others = released n xs keys apart.1 (All-tail (λ (y : ℕ). holds n.0 y keys ≡ true) x xs held) in
    let less = fewer (λ (key : HeldKey). not (lists n xs key)) (λ (key : HeldKey). not (lists n (x ∷ xs) key)) (λ (key : HeldKey). is_key n.0 x key)
    (λ key e. fewer_named (n.0 == key.node.0) (x == key.number) (list_any (λ (y : ℕ). y == key.number) xs) e)
    (λ key at. named_once n x xs apart.0 key at) keys (All-head (λ (y : ℕ). holds n.0 y keys ≡ true) x xs held) in
    omega (arith, others, less)

-- ---- promises behind one more entry

due_at_most : (b : Bool) → (if b then 30 else 0) ≤ 30
due_at_most b = grind arith

-- ---- the laws

-- what an act and what stands before it leave of a history's promises
abbrev promised_after : List HistoryEntry → HistoryAct → ℕ
promised_after h act = 76 * length (filter (λ (key : HeldKey). stays_held act key) (held_keys h) ++ held_by act []) + (if due_after (is_close_due h) act then 30 else 0)

promises_are : (h : List HistoryEntry) (e : HistoryEntry) → promised_octets (h ++ e ∷ []) ≡ promised_after h e.act
promises_are h e = λ i. 76 * length (held_keys-append h e i) + (if is_close_due-append h e i then 30 else 0)

pub same_room : RoomIsOfTheAct
same_room h a b size same =
    (λ i. nat_le (costs_of h + cost_of a + promises_are h a i) (capacity_of size))
    ∙ (λ i. nat_le (costs_of h + (25 + length (body (same i)) + 5) + promised_after h (same i)) (capacity_of size))
    ∙ sym (λ i. nat_le (costs_of h + cost_of b + promises_are h b i) (capacity_of size))

pub stays_within : (h : List HistoryEntry) (e : HistoryEntry) (size : ℕ) → has_room h e size ≡ true → IsWithin (h ++ e ∷ []) size
stays_within h e size room =
    omega (arith, leb-true (costs_of h + cost_of e + promised_octets (h ++ e ∷ [])) (capacity_of size) room, costs_of-append h (e ∷ []))

abbrev made : ℕ → Caller → HistoryAct → HistoryEntry
made moment caller act = record { moment = moment; caller = caller; act = act }

pub due_close : (h : List HistoryEntry) (moment : ℕ) (caller : Caller) (size : ℕ) → IsWithin h size → is_close_due h ≡ true → has_room h (made moment caller Close) size ≡ true
due_close h moment caller size within due =
    let e = made moment caller Close in
    let before : promised_octets h ≡ 76 * length (held_keys h) + 30 = rw due refl in
    let keys : length (held_keys (h ++ e ∷ [])) ≡ length (filter (λ (key : HeldKey). stays_held Close key) (held_keys h)) =
    ap (λ (l : List HeldKey). length l) (held_keys-append h e ∙ append-nil (filter (λ (key : HeldKey). stays_held Close key) (held_keys h))) in
    let after : promised_octets (h ++ e ∷ []) ≡ 76 * length (held_keys (h ++ e ∷ [])) = rw (is_close_due-append h e) (omega arith) in
    le-leb (costs_of h + cost_of e + promised_octets (h ++ e ∷ [])) (capacity_of size)
    (omega (arith, within, before, after, keys, length-filter-le (λ (key : HeldKey). stays_held Close key) (held_keys h)))

-- held numbers that are named once each, at least one, give back more than their entry costs
pub let_go : (h : List HistoryEntry) (e : HistoryEntry) (n : NodeId) (xs : List ℕ) (size : ℕ) → IsWithin h size → xs ≢ [] → IsDistinct (λ x y. x == y) xs
    → All (λ x. holds n.0 x (held_keys h) ≡ true) xs
    → held_keys (h ++ e ∷ []) ≡ filter (λ (key : HeldKey). not (lists n xs key)) (held_keys h) ++ [] → cost_of e ≡ 38 + 8 * length xs
    → (if is_close_due (h ++ e ∷ []) then 30 else 0) ≤ (if is_close_due h then 30 else 0) + 30
    → has_room h e size ≡ true
let_go h e n [] size within some apart held keys cost due = absurd (some refl)
let_go h e n (x ∷ xs) size within some apart held keys cost due =
    let kept = filter (λ (key : HeldKey). not (lists n (x ∷ xs) key)) (held_keys h) in
    let after : length (held_keys (h ++ e ∷ [])) ≡ length kept = ap (λ (l : List HeldKey). length l) (keys ∙ append-nil kept) in
    le-leb (costs_of h + cost_of e + promised_octets (h ++ e ∷ [])) (capacity_of size)
    (omega (arith, within, after, cost, due, released n (x ∷ xs) (held_keys h) apart held))

pub released_held : (h : List HistoryEntry) (moment : ℕ) (caller : Caller) (n : NodeId) (xs : List ℕ) (size : ℕ) → IsWithin h size → xs ≢ [] → IsDistinct (λ x y. x == y) xs
    → All (λ x. holds n.0 x (held_keys h) ≡ true) xs → has_room h (made moment caller (Release n xs)) size ≡ true
released_held h moment caller n xs size within some apart held =
    let e = made moment caller (Release n xs) in
    let_go h e n xs size within some apart held (held_keys-append h e) (omega (arith, length_numbers xs)) (omega (arith, due_at_most (is_close_due (h ++ e ∷ []))))

pub cancelled_held : (h : List HistoryEntry) (moment : ℕ) (caller : Caller) (n : NodeId) (xs : List ℕ) (size : ℕ) → IsWithin h size → xs ≢ [] → IsDistinct (λ x y. x == y) xs
    → All (λ x. holds n.0 x (held_keys h) ≡ true) xs → has_room h (made moment caller (Cancel n xs)) size ≡ true
cancelled_held h moment caller n xs size within some apart held =
    let e = made moment caller (Cancel n xs) in
    let_go h e n xs size within some apart held (held_keys-append h e) (omega (arith, length_numbers xs)) (omega (arith, due_at_most (is_close_due (h ++ e ∷ []))))
