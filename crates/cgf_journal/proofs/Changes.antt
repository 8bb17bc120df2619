-- What a change of sorted keys makes of those that are held.
use Rattle.std.proofs.Common.{inl, inr, ◌≡◌, ◌⊎◌, ℕ, ◌+◌, ◌<◌, ◌≤◌, ◌==◌, ◌&&◌, ◌||◌, not, Bool, true, false, List, [], ◌∷◌, ◌++◌, length, take, drop, filter, refl, sym, ap, ◌∙◌, arith, zero, suc, rules}
use Rattle.cgf_journal.proofs.Names.{Act, act_view, and_parts, and_right, cases_Bool, cases_eq, cases_lt, changed_key, counted_keys, counts, eq-eqb, eqb-true, firm_keys, get_or-set_other, get_or-set_same, get_or_default, GrowsBy, held_after, held_by, held_with, HeldKey, HistoryAct, is_named, IsAbsent, IsChanged, IsFirstOf, IsFound, KeptKey, key_in_order, key_of, length-set, live_keys, ne_eqb, NodeId, not-false, Path, Release, Seal, slice_index_or, slice_set, SortedKeys, stays_held, true≢false}
use Rattle.std.specs.List.{list_any}
use Rattle.std.proofs.lemmas.List.Folds.{list_any-append}
use Rattle.gw_base.specs.declared.entry.Act.TheVariants as lent
use Rattle.cgf_journal.specs.Rank.{rank_of}
use Rattle.cgf_journal.proofs.KeysLemmas.{count-changed, firm-changed, firm-inserted, all_kept, length-key_in_order, let_go, live-changed, live-inserted, others_stay, with_change, before_node, not_of_node, of_node, past_node, Before, Later, one, other_stays, stays}
use Rattle.cgf_journal.proofs.Orders.{field-set}

abbrev pub new_key : NodeId → ℕ → ℕ → KeptKey
new_key n x r = record { node = n; number = x; was_held = false; is_held = true; round = r }

-- ---- one key changed

key_is : (n : NodeId) (x : ℕ) (key : HeldKey) → is_named n.0 x key ≡ true → key ≡ record { node = n; number = x }
key_is n x key named = grind (arith, eqb-true)

pub live_after : (old new : SortedKeys) (at : ℕ) (held : Bool) (n : NodeId) (x : ℕ) → IsChanged at held old new → IsFound old.keys.items at n.0 x
    → live_keys new ≡ with_change held n x (live_keys old)
live_after old new at held n x change found =
    let d = new_key n x 0 in
    let now = changed_key held old.round (slice_index_or old.keys.items at d) in
    (λ i. counted_keys false (change.round i) (change.keys d i))
    ∙ live-changed n x old.round old.keys.items at now found.inside (key_is n x (key_of (slice_index_or old.keys.items at d)) (found.named d)) found.named found.before
    (λ j e le lt. found.later j e (omega (arith, le)) lt)

pub firm_after : (old new : SortedKeys) (at : ℕ) (held : Bool) → IsChanged at held old new → at < length old.keys.items → firm_keys new ≡ firm_keys old
firm_after old new at held change inside =
    let d = new_key (record { 0 = 0 }) 0 0 in
    let now = changed_key held old.round (slice_index_or old.keys.items at d) in
    (λ i. counted_keys true (change.round i) (change.keys d i))
    ∙ firm-changed old.round old.keys.items at now inside
    (λ e. ap (λ (k : KeptKey). key_of k) (get_or_default old.keys.items at d e inside))
    (λ e. count-changed held old.round (slice_index_or old.keys.items at d) ∙ ap (λ (k : KeptKey). counts true old.round k) (get_or_default old.keys.items at d e inside))

-- ---- how many keys are kept

pub changed_grows : (old new : SortedKeys) (at : ℕ) (held : Bool) → IsChanged at held old new → at < length old.keys.items → GrowsBy 0 old new
changed_grows old new at held change inside =
    let d = new_key (record { 0 = 0 }) 0 0 in
    record {
      firm = firm_after old new at held change inside;
      count = omega (arith, ap (λ (l : List KeptKey). length l) (change.keys d), length-set old.keys.items at (changed_key held old.round (slice_index_or old.keys.items at d)));
      reserved = change.reserved;
    }

pub grows_on : (more : ℕ) (a b c : SortedKeys) → GrowsBy more a b → GrowsBy 0 b c → GrowsBy more a c
grows_on more a b c one two = record { firm = two.firm ∙ one.firm; count = omega (arith, one.count, two.count); reserved = two.reserved ∙ one.reserved }

pub grows_more : (more : ℕ) (a b : SortedKeys) → GrowsBy 0 a b → GrowsBy more a b
grows_more more a b grows = record { firm = grows.firm; count = omega (arith, grows.count); reserved = grows.reserved }

-- ---- one key more

pub absent_stay : (n : NodeId) (x : ℕ) (s : Bool) (r : ℕ) (keys : List KeptKey) (at : ℕ) → IsAbsent keys at n.0 x
    → filter (λ (key : HeldKey). stays_held (Seal n x) key) (counted_keys s r keys) ≡ counted_keys s r keys
absent_stay n x s r keys at absent = others_stay n x s r keys (λ j d lt e. elim (cases_lt j at) [
  | inl before ↦ omega (arith, absent.before j d before, e)
  | inr later ↦ omega (arith, absent.later j d later lt, e)
])

pub live_more : (n : NodeId) (x r : ℕ) (keys now : List KeptKey) (at : ℕ) → IsAbsent keys at n.0 x → now ≡ take at keys ++ new_key n x r ∷ drop at keys
    → counted_keys false r now ≡ held_with n x (counted_keys false r keys)
live_more n x r keys now at absent is =
    ap (λ (l : List KeptKey). counted_keys false r l) is
    ∙ live-inserted (record { node = n; number = x }) r keys at (new_key n x r) absent.inside refl refl absent.before absent.later
    ∙ ap (λ (l : List HeldKey). key_in_order (record { node = n; number = x }) l) (sym (absent_stay n x false r keys at absent))

pub length_more : (n : NodeId) (x r : ℕ) (keys now : List KeptKey) (at : ℕ) → IsAbsent keys at n.0 x → now ≡ take at keys ++ new_key n x r ∷ drop at keys
    → length (counted_keys false r now) ≡ length (counted_keys false r keys) + 1
length_more n x r keys now at absent is = grind (arith, live-inserted, length-key_in_order)

pub firm_more : (n : NodeId) (x r : ℕ) (keys now : List KeptKey) (at : ℕ) → now ≡ take at keys ++ new_key n x r ∷ drop at keys → counted_keys true r now ≡ counted_keys true r keys
firm_more n x r keys now at is = ap (λ (l : List KeptKey). counted_keys true r l) is ∙ firm-inserted r keys at (new_key n x r) (rw (eq-eqb r r refl) refl)

-- ---- numbers named one after the other

both_pass : (p q r : HeldKey → Bool) → ((key : HeldKey) → r key ≡ (q key && p key)) → (keys : List HeldKey) → filter p (filter q keys) ≡ filter r keys
both_pass p q r same [] = refl
both_pass p q r same (key ∷ keys) = grind (arith, same key, both_pass p q r same keys)

one_of_more : (a b c : Bool) → not (a && (b || (c || false))) ≡ (not (a && b) && not (a && c))
one_of_more a b c = grind arith

pub next_named : (n : NodeId) (x : ℕ) (xs : List ℕ) (keys : List HeldKey)
    → filter (λ (key : HeldKey). stays_held (Seal n x) key) (filter (λ (key : HeldKey). stays_held (Release n xs) key) keys) ≡ filter (λ (key : HeldKey). stays_held (Release n (xs ++ x ∷ [])) key) keys
next_named n x xs keys = grind (arith, both_pass, list_any-append, one_of_more)

pub all_stay : (act : HistoryAct) → ((key : HeldKey) → stays_held act key ≡ true) → (keys : List HeldKey) → filter (λ (key : HeldKey). stays_held act key) keys ≡ keys
all_stay act stay [] = refl
all_stay act stay (key ∷ keys) = rw (stay key) (ap (λ (l : List HeldKey). key ∷ l) (all_stay act stay keys))

pub none_named : (n : NodeId) (keys : List HeldKey) → filter (λ (key : HeldKey). stays_held (Release n []) key) keys ≡ keys
none_named n keys = all_stay (Release n []) (λ key. ap not (and_right (n.0 == key.node.0) false refl)) keys

-- ---- the numbers of a node

abbrev pub of_others : NodeId → HeldKey → Bool
of_others n key = stays_held (Path n 0 0) key

pub other_passes : (n : NodeId) (key : HeldKey) → (n.0 ≡ key.node.0 → ⊥) → of_others n key ≡ true
other_passes n key ne = rw (ne_eqb n.0 key.node.0 ne) refl

pub own_fails : (n : NodeId) (key : HeldKey) → n.0 ≡ key.node.0 → of_others n key ≡ false
own_fails n key e = rw (eq-eqb n.0 key.node.0 e) refl

-- What stands while the numbers of a node are let go, from `first` on up to `at`; they end at `end`.
pub record IsLettingGo (n : NodeId) (begun s : SortedKeys) (at end : ℕ) : Type 0 where
  pub grows : GrowsBy 0 begun s
  pub live : filter (λ (key : HeldKey). of_others n key) (live_keys s) ≡ filter (λ (key : HeldKey). of_others n key) (live_keys begun)
  pub inside : (at ≤ end) × (end ≤ length s.keys.items)
  pub gone : (j : ℕ) (d : KeptKey) → j < at → (slice_index_or s.keys.items j d).is_held ≡ true → of_others n (key_of (slice_index_or s.keys.items j d)) ≡ true
  pub own : (j : ℕ) (d : KeptKey) → at ≤ j → j < end → n.0 ≡ (slice_index_or s.keys.items j d).node.0
  pub past : (j : ℕ) (d : KeptKey) → end ≤ j → j < length s.keys.items → n.0 ≡ (slice_index_or s.keys.items j d).node.0 → ⊥

pub begins : (n : NodeId) (s : SortedKeys) (first end : ℕ) → IsFirstOf s.keys.items first n.0 → IsFirstOf s.keys.items end (n.0 + 1) → IsLettingGo n s s first end
begins n s first end starts ends = record {
  grows = record { firm = refl; count = omega arith; reserved = refl };
  live = refl;
  inside = (
    elim (cases_lt end first) [
      | inl lt ↦
          let d = new_key n 0 0 in
          let k = slice_index_or s.keys.items end d in
          absurd (before_node k.node.0 n.0 k.number (starts.before end d lt) (ends.later end d (omega arith) (omega (arith, lt, starts.inside))))
      | inr le ↦ le
    ],
    ends.inside,
  );
  gone = λ j d lt held. other_passes n (key_of (slice_index_or s.keys.items j d)) (not_of_node (slice_index_or s.keys.items j d).node.0 n.0 (slice_index_or s.keys.items j d).number (starts.before j d lt));
  own = λ j d le lt. of_node (slice_index_or s.keys.items j d).node.0 n.0 (slice_index_or s.keys.items j d).number (s.up_to j d (omega (arith, lt, ends.inside))).1 (starts.later j d le (omega (arith, lt, ends.inside))) (ends.before j d lt);
  past = λ j d le lt. past_node (slice_index_or s.keys.items j d).node.0 n.0 (slice_index_or s.keys.items j d).number (s.up_to j d lt).1 (ends.later j d le lt);
}

pub goes_on : (n : NodeId) (begun s next : SortedKeys) (at end : ℕ) → at < end → IsChanged at false s next → IsLettingGo n begun s at end → IsLettingGo n begun next (at + 1) end
goes_on n begun s next at end more change so_far =
    let d0 = new_key n 0 0 in
    let within : at < length s.keys.items = omega (arith, more, so_far.inside.1) in
    let now = changed_key false s.round (slice_index_or s.keys.items at d0) in
    let is = change.keys d0 in
    let same = field-set (λ (k : KeptKey). key_of k) s.keys.items at now within
    (λ e. ap (λ (k : KeptKey). key_of k) (get_or_default s.keys.items at d0 e within)) in
    let long : length next.keys.items ≡ length s.keys.items = ap (λ (l : List KeptKey). length l) is ∙ length-set s.keys.items at now in
    let node : (j : ℕ) (d : KeptKey) → (slice_index_or next.keys.items j d).node.0 ≡ (slice_index_or s.keys.items j d).node.0 =
    λ j d. ap (λ (l : List KeptKey). (slice_index_or l j d).node.0) is ∙ ap (λ (key : HeldKey). key.node.0) (same j d) in
    record {
      grows = grows_on 0 begun s next so_far.grows (changed_grows s next at false change within);
      live =
          (λ i. filter (λ (key : HeldKey). of_others n key) (counted_keys false (change.round i) (is i)))
          ∙ let_go (λ (key : HeldKey). of_others n key) s.round s.keys.items at now within refl (λ d. own_fails n (key_of (slice_index_or s.keys.items at d)) (so_far.own at d (omega arith) more))
          ∙ so_far.live;
      inside = (omega (arith, more), omega (arith, long, so_far.inside.1));
      gone = λ j d lt held. elim (cases_eq j at) [
        | inl here ↦
            let free : (slice_index_or next.keys.items j d).is_held ≡ false =
            ap (λ (l : List KeptKey). (slice_index_or l j d).is_held) is ∙ ap (λ (k : ℕ). (slice_index_or (slice_set s.keys.items at now) k d).is_held) here ∙ ap (λ (k : KeptKey). k.is_held) (get_or-set_same s.keys.items at now d within) in
            absurd (true≢false (sym held ∙ free))
        | inr other ↦
            let was : slice_index_or next.keys.items j d ≡ slice_index_or s.keys.items j d = ap (λ (l : List KeptKey). slice_index_or l j d) is ∙ get_or-set_other s.keys.items at j now d other in
            ap (λ (k : KeptKey). of_others n (key_of k)) was ∙ so_far.gone j d (omega (arith, lt, other)) (sym (ap (λ (k : KeptKey). k.is_held) was) ∙ held)
      ];
      own = λ j d le lt. so_far.own j d (omega (arith, le)) lt ∙ sym (node j d);
      past = λ j d le lt e. so_far.past j d le (omega (arith, lt, long)) (e ∙ node j d);
    }

pub ends_free : (n : NodeId) (begun s : SortedKeys) (at end : ℕ) → end ≤ at → IsLettingGo n begun s at end
    → live_keys s ≡ filter (λ (key : HeldKey). of_others n key) (live_keys begun)
ends_free n begun s at end done so_far = grind (arith, all_kept, other_passes)

-- ---- entries that name nothing

pub names_none : (act : Act) → (act ≡ lent.Start) ⊎ ((act ≡ lent.Tick) ⊎ (act ≡ lent.Close))
    → ((key : HeldKey) → stays_held (act_view act) key ≡ true) × (held_by (act_view act) [] ≡ [])
names_none act is = grind arith

pub after_none : (act : Act) → (act ≡ lent.Start) ⊎ ((act ≡ lent.Tick) ⊎ (act ≡ lent.Close)) → (keys : List HeldKey)
    → keys ≡ held_after (act_view act) keys
after_none act is keys = grind (arith, names_none, all_stay)

-- ---- how many keys an entry lets go

removed : (n : NodeId) (x : ℕ) (s : Bool) (r : ℕ) (keys : List KeptKey) (at : ℕ) → at < length keys → ((d : KeptKey) → is_named n.0 x (key_of (slice_index_or keys at d)) ≡ true)
    → Before keys at (rank_of n.0 x) → Later keys (at + 1) (rank_of n.0 x) → (d : KeptKey)
    → one (counts s r (slice_index_or keys at d)) + length (filter (λ (key : HeldKey). stays n x key) (counted_keys s r keys)) ≡ length (counted_keys s r keys)
removed n x s r [] at inside named before later d = absurd (omega (arith, inside))
removed n x s r (kept ∷ keys) zero inside named before later d =
    let rest = others_stay n x s r keys (λ j d lt e.
    omega (arith, later (suc j) d (omega arith) (omega (arith, lt)), e)) in
    elim (cases_Bool (counts s r kept)) [
      | inl is ↦ rw (is, named kept) (omega (arith, ap (λ (l : List HeldKey). length l) rest))
      | inr isnt ↦ rw isnt (omega (arith, ap (λ (l : List HeldKey). length l) rest))
    ]
removed n x s r (kept ∷ keys) (suc at) inside named before later d =
    let low = before 0 kept (omega arith) in
    let rest = removed n x s r keys at (omega (arith, inside)) (λ e. named e) (λ j e lt.
    before (suc j) e (omega (arith, lt)))
    (λ j e le lt. later (suc j) e (omega (arith, le)) (omega (arith, lt))) d in
    elim (cases_Bool (counts s r kept)) [
      | inl is ↦ rw (is, other_stays kept n x (λ e. omega (arith, low, e))) (omega (arith, rest))
      | inr isnt ↦ rw isnt rest
    ]

pub found_gone : (n : NodeId) (x : ℕ) (s : Bool) (r : ℕ) (keys : List KeptKey) (at : ℕ) → IsFound keys at n.0 x → (kept : KeptKey) → kept ≡ slice_index_or keys at kept
    → one (counts s r kept) + length (filter (λ (key : HeldKey). stays_held (Seal n x) key) (counted_keys s r keys)) ≡ length (counted_keys s r keys)
found_gone n x s r keys at found kept is =
    ap (λ (k : KeptKey). one (counts s r k) + length (filter (λ (key : HeldKey). stays n x key) (counted_keys s r keys))) is
    ∙ removed n x s r keys at found.inside found.named found.before (λ j d le lt. found.later j d (omega (arith, le)) lt) kept

pub none_gone : (n : NodeId) (x : ℕ) (s : Bool) (r : ℕ) (keys : List KeptKey) (at : ℕ) → IsAbsent keys at n.0 x
    → 0 + length (filter (λ (key : HeldKey). stays_held (Seal n x) key) (counted_keys s r keys)) ≡ length (counted_keys s r keys)
none_gone n x s r keys at absent = omega (arith, ap (λ (l : List HeldKey). length l) (absent_stay n x s r keys at absent))

-- ---- numbers in ascending order

-- each of these is below a bound
abbrev pub AreBelow : ℕ → List ℕ → Type 0
AreBelow bound xs = (y : ℕ) → bound ≤ y → list_any (λ (x : ℕ). x == y) xs ≡ false

pub none_below : AreBelow 0 []
none_below y le = refl

pub one_below : (bound : ℕ) (xs : List ℕ) (x : ℕ) → AreBelow bound xs → bound ≤ x → AreBelow (x + 1) (xs ++ x ∷ [])
one_below bound xs x one two = search (rules, list_any-append, ne_eqb)

-- a test that drops only what another keeps drops as many after it
drops_as_many : (p q : HeldKey → Bool) → ((key : HeldKey) → p key ≡ false → q key ≡ true) → (keys : List HeldKey)
    → length (filter q keys) + length (filter p keys) ≡ length keys + length (filter p (filter q keys))
drops_as_many p q other [] = refl
drops_as_many p q other (key ∷ keys) = grind (arith, other key, drops_as_many p q other keys)

-- a key that is let go by a number isn't let go by those below it
kept_below : (n : NodeId) (x bound : ℕ) (xs : List ℕ) → AreBelow bound xs → bound ≤ x → (key : HeldKey) → stays_held (Seal n x) key ≡ false → stays_held (Release n xs) key ≡ true
kept_below n x bound xs below le key gone =
    let both = and_parts (n.0 == key.node.0) (x == key.number) (not-false ((n.0 == key.node.0) && (x == key.number)) gone) in
    rw (both.0, below key.number (omega (arith, le, eqb-true x key.number both.1))) refl

-- one more number lets as many go as it does alone
pub one_more_gone : (n : NodeId) (x bound : ℕ) (xs : List ℕ) → AreBelow bound xs → bound ≤ x → (keys : List HeldKey) (gone now : ℕ)
    → gone + length (filter (λ (key : HeldKey). stays_held (Release n xs) key) keys) ≡ length keys
    → now + length (filter (λ (key : HeldKey). stays_held (Seal n x) key) keys) ≡ length keys
    → gone + now + length (filter (λ (key : HeldKey). stays_held (Release n (xs ++ x ∷ [])) key) keys) ≡ length keys
one_more_gone n x bound xs below le keys gone now before here = grind (arith, drops_as_many, kept_below, next_named)
