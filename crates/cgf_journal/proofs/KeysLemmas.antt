-- The order of keys.
use Rattle.std.proofs.Common.{◌≡◌, ℕ, zero, suc, ◌+◌, ◌-◌, ◌<◌, ◌≤◌, ◌==◌, ◌&&◌, not, Bool, true, false, if◌then◌else◌, nat_lt, List, [], ◌∷◌, ◌++◌, length, take, drop, map, filter, refl, sym, ap, ◌∙◌, arith, inl, inr, ◌^◌, nat_le}
use Rattle.cgf_journal.proofs.Names.{AreUpTo, cases_Bool, changed_key, cond_both, count_by-le-length, counted_keys, counts, eq-eqb, eqb-true, false_from_ne_true, held_with, HeldKey, is_named, KeptKey, key_in_order, key_of, le-leb, le-ltb, length-filter, length-map, length-set, lt-leb, lt-ltb, ne_eqb, NodeId, rank, Seal, settled_key, slice_index_or, slice_set, stays_held}
use Rattle.cgf_journal.specs.Rank.{rank_of}

pub node_apart : (a b x y : ℕ) → x < 2 ^ 64 → y < 2 ^ 64 → (a ≡ b → ⊥) → rank_of a x ≡ rank_of b y → ⊥
unfolding rank_of
node_apart a b x y p q ne e = ne (omega (arith, e, p, q))

pub number_apart : (a b x y : ℕ) → a ≡ b → (x ≡ y → ⊥) → rank_of a x ≡ rank_of b y → ⊥
unfolding rank_of
number_apart a b x y same ne e = ne (omega (arith, e, same))

pub same_node : (a b x y : ℕ) → x < 2 ^ 64 → y < 2 ^ 64 → rank_of a x ≡ rank_of b y → (a ≡ b) × (x ≡ y)
unfolding rank_of
same_node a b x y p q e = (omega (arith, e, p, q), omega (arith, e, p, q))

pub by_node : (a b x y : ℕ) → x < 2 ^ 64 → y < 2 ^ 64 → (a ≡ b → ⊥) → nat_lt a b ≡ nat_lt (rank_of a x) (rank_of b y)
unfolding rank_of
by_node a b x y p q ne = grind (arith, lt-ltb, le-ltb)

pub by_number : (a b x y : ℕ) → a ≡ b → nat_lt x y ≡ nat_lt (rank_of a x) (rank_of b y)
unfolding rank_of
by_number a b x y same = grind (arith, lt-ltb, le-ltb)

-- a key of another rank is another
pub not_named : (kept : KeptKey) (n x : ℕ) → (rank kept ≡ rank_of n x → ⊥) → is_named n x (key_of kept) ≡ false
not_named kept n x ne = grind (arith, false_from_ne_true, eqb-true)

-- the rank of a key that is named
pub named_rank : (kept : KeptKey) (n x : ℕ) → is_named n x (key_of kept) ≡ true → rank kept ≡ rank_of n x
named_rank kept n x e = grind (arith, eqb-true)

-- ---- the numbers of a node

pub before_node : (a b x : ℕ) → rank_of a x < rank_of b 0 → rank_of (b + 1) 0 ≤ rank_of a x → ⊥
unfolding rank_of
before_node a b x lt le = omega (arith, lt, le)

pub not_of_node : (a b x : ℕ) → rank_of a x < rank_of b 0 → b ≡ a → ⊥
unfolding rank_of
not_of_node a b x lt e = omega (arith, lt, e)

pub of_node : (a b x : ℕ) → x < 2 ^ 64 → rank_of b 0 ≤ rank_of a x → rank_of a x < rank_of (b + 1) 0 → b ≡ a
unfolding rank_of
of_node a b x small le lt = omega (arith, small, le, lt)

pub past_node : (a b x : ℕ) → x < 2 ^ 64 → rank_of (b + 1) 0 ≤ rank_of a x → b ≡ a → ⊥
unfolding rank_of
past_node a b x small le e = omega (arith, small, le, e)

pub up_to_node : (a b x : ℕ) → x < 2 ^ 64 → nat_le a b ≡ nat_lt (rank_of a x) (rank_of (b + 1) 0)
unfolding rank_of
up_to_node a b x small = grind (arith, lt-leb, le-ltb, le-leb, lt-ltb)

-- ---- keys in order: one of them changed, one more in its place, and all of them settled

abbrev kept_by : Bool → ℕ → List KeptKey → List KeptKey
kept_by s r keys = filter (λ (kept : KeptKey). counts s r kept) keys

abbrev pub stays : NodeId → ℕ → HeldKey → Bool
stays n x key = stays_held (Seal n x) key

-- the keys before a place are before a rank, and those from a place on after it
abbrev pub Before : List KeptKey → ℕ → ℕ → Type 0
Before keys at q = (j : ℕ) (d : KeptKey) → j < at → rank (slice_index_or keys j d) < q

abbrev pub Later : List KeptKey → ℕ → ℕ → Type 0
Later keys at q = (j : ℕ) (d : KeptKey) → at ≤ j → j < length keys → q < rank (slice_index_or keys j d)

-- ---- a test that all counted keys pass

pub all_kept : (p : HeldKey → Bool) (s : Bool) (r : ℕ) (keys : List KeptKey)
    → ((j : ℕ) (d : KeptKey) → j < length keys → counts s r (slice_index_or keys j d) ≡ true → p (key_of (slice_index_or keys j d)) ≡ true)
    → filter p (counted_keys s r keys) ≡ counted_keys s r keys
all_kept p s r [] pass = refl
all_kept p s r (kept ∷ keys) pass =
    let rest = all_kept p s r keys (λ j d lt. pass (suc j) d (omega (arith, lt))) in
    cond_both (counts s r kept) (kept ∷ kept_by s r keys) (kept_by s r keys)
    (λ (l : List KeptKey). filter p (map key_of l) ≡ map key_of l)
    (λ is. rw (pass 0 kept (omega arith) is) (ap (λ (l : List HeldKey). key_of kept ∷ l) rest)) (λ _. rest)

-- what follows of a key more in front that counts alike
pub counted-cons : (s t : Bool) (q r : ℕ) (new kept : KeptKey) (keys others : List KeptKey) → counts s q new ≡ counts t r kept
    → key_of new ≡ key_of kept → counted_keys s q keys ≡ counted_keys t r others
    → counted_keys s q (new ∷ keys) ≡ counted_keys t r (kept ∷ others)
counted-cons s t q r new kept keys others count key rest = grind arith

pub other_stays : (kept : KeptKey) (n : NodeId) (x : ℕ) → (rank kept ≡ rank_of n.0 x → ⊥) → stays n x (key_of kept) ≡ true
other_stays kept n x ne = ap not (not_named kept n.0 x ne)

pub others_stay : (n : NodeId) (x : ℕ) (s : Bool) (r : ℕ) (keys : List KeptKey) → ((j : ℕ) (d : KeptKey) → j < length keys → rank (slice_index_or keys j d) ≡ rank_of n.0 x → ⊥)
    → filter (λ (key : HeldKey). stays n x key) (counted_keys s r keys) ≡ counted_keys s r keys
others_stay n x s r keys apart = all_kept (λ (key : HeldKey). stays n x key) s r keys (λ j d lt is. other_stays (slice_index_or keys j d) n x (apart j d lt))

-- ---- a key in its place

pub length-key_in_order : (key : HeldKey) (keys : List HeldKey) → length (key_in_order key keys) ≡ length keys + 1
length-key_in_order key [] = refl
length-key_in_order key (first ∷ keys) =
    cond_both (nat_lt (rank_of first.node.0 first.number) (rank_of key.node.0 key.number)) (first ∷ key_in_order key
    keys) (key ∷ first ∷ keys)
    (λ (l : List HeldKey). length l ≡ length (first ∷ keys) + 1) (λ _.
    omega (arith, length-key_in_order key keys)) (λ _. omega arith)

-- in front of keys that come later
in_front : (key : HeldKey) (s : Bool) (r : ℕ) (keys : List KeptKey) → Later keys 0 (rank_of key.node.0 key.number)
    → key_in_order key (counted_keys s r keys) ≡ key ∷ counted_keys s r keys
in_front key s r [] later = refl
in_front key s r (kept ∷ keys) later =
    cond_both (counts s r kept) (kept ∷ kept_by s r keys) (kept_by s r keys)
    (λ (l : List KeptKey). key_in_order key (map key_of l) ≡ key ∷ map key_of l)
    (λ _. rw (le-ltb (rank kept) (rank_of key.node.0 key.number)
    (omega (arith, later 0 kept (omega arith) (omega arith)))) refl)
    (λ _. in_front key s r keys (λ j d le lt. later (suc j) d (omega arith) (omega (arith, lt))))

-- ---- one key changed

-- what a change of a number's key makes of the held keys
abbrev pub with_change : Bool → NodeId → ℕ → List HeldKey → List HeldKey
with_change held n x keys = if held then held_with n x keys else filter (λ (key : HeldKey). stays n x key) keys

with_change-cons : (held : Bool) (n : NodeId) (x : ℕ) (first : HeldKey) (keys : List HeldKey) → stays n x first ≡ true → nat_lt (rank_of first.node.0 first.number) (rank_of n.0 x) ≡ true
    → with_change held n x (first ∷ keys) ≡ first ∷ with_change held n x keys
with_change-cons held n x first keys other before = grind arith

pub live-changed : (n : NodeId) (x r : ℕ) (keys : List KeptKey) (at : ℕ) (now : KeptKey) → at < length keys → key_of now ≡ record { node = n; number = x }
    → ((d : KeptKey) → is_named n.0 x (key_of (slice_index_or keys at d)) ≡ true) → Before keys at (rank_of n.0 x) → Later keys (at + 1) (rank_of n.0 x)
    → counted_keys false r (slice_set keys at now) ≡ with_change now.is_held n x (counted_keys false r keys)
live-changed n x r [] at now inside same named before later = absurd (omega (arith, inside))
live-changed n x r (kept ∷ keys) zero now inside same named before later =
    let front = in_front (record { node = n; number = x }) false r keys
    (λ j d le lt. later (suc j) d (omega arith) (omega (arith, lt))) in
    let rest = others_stay n x false r keys (λ j d lt e.
    omega (arith, later (suc j) d (omega arith) (omega (arith, lt)), e)) in
    let dropped : filter (λ (key : HeldKey). stays n x key) (counted_keys false r (kept ∷ keys)) ≡ counted_keys false r
    keys =
    cond_both kept.is_held (kept ∷ kept_by false r keys) (kept_by false r keys)
    (λ (l : List KeptKey). filter (λ (key : HeldKey). stays n x key) (map key_of l) ≡ counted_keys false r keys) (λ _.
    rw (named kept) rest) (λ _. rest) in
    elim (cases_Bool now.is_held) [
      | inl is ↦ rw is ((λ i. same i ∷ counted_keys false r keys) ∙ sym front
          ∙ ap (λ (l : List HeldKey). key_in_order (record { node = n; number = x }) l) (sym dropped))
      | inr isnt ↦ rw isnt (sym dropped)
    ]
live-changed n x r (kept ∷ keys) (suc at) now inside same named before later =
    let low = before 0 kept (omega arith) in
    let other = other_stays kept n x (λ e. omega (arith, low, e)) in
    let rest = live-changed n x r keys at now (omega (arith, inside)) same
    (λ d. named d) (λ j d lt. before (suc j) d (omega (arith, lt)))
    (λ j d le lt. later (suc j) d (omega (arith, le)) (omega (arith, lt))) in
    elim (cases_Bool kept.is_held) [
      | inl is ↦ rw is (ap (λ (l : List HeldKey). key_of kept ∷ l) rest
          ∙ sym (with_change-cons now.is_held n x (key_of kept) (counted_keys false r keys) other
          (lt-ltb (rank kept) (rank_of n.0 x) low)))
      | inr isnt ↦ rw isnt rest
    ]

-- a change of what all entries hold changes nothing of what the firm ones do
pub firm-changed : (r : ℕ) (keys : List KeptKey) (at : ℕ) (now : KeptKey) → at < length keys → ((d : KeptKey) → key_of now ≡ key_of (slice_index_or keys at d))
    → ((d : KeptKey) → counts true r now ≡ counts true r (slice_index_or keys at d)) → counted_keys true r (slice_set keys at now) ≡ counted_keys true r keys
firm-changed r [] at now inside same count = absurd (omega (arith, inside))
firm-changed r (kept ∷ keys) zero now inside same count =
    counted-cons true true r r now kept keys keys (count kept) (same kept) refl
firm-changed r (kept ∷ keys) (suc at) now inside same count =
    counted-cons true true r r kept kept (slice_set keys at now) keys refl refl
    (firm-changed r keys at now (omega (arith, inside)) (λ d. same d) (λ d. count d))

pub count-changed : (held : Bool) (r : ℕ) (kept : KeptKey) → counts true r (changed_key held r kept) ≡ counts true r kept
count-changed held r kept = rw (eq-eqb r r refl) refl

length-counted : (r : ℕ) (kept : KeptKey) (keys : List KeptKey)
    → length (counted_keys false r (kept ∷ keys)) ≡ (if kept.is_held then 1 else 0) + length (counted_keys false r keys)
length-counted r kept keys = grind arith

pub length-changed : (r : ℕ) (keys : List KeptKey) (at : ℕ) (now d : KeptKey) → at < length keys
    → length (counted_keys false r (slice_set keys at now)) + (if (slice_index_or keys at d).is_held then 1 else 0) ≡ length (counted_keys false r keys) + (if now.is_held then 1 else 0)
length-changed r [] at now d inside = absurd (omega (arith, inside))
length-changed r (kept ∷ keys) zero now d inside = omega (arith, length-counted r now keys, length-counted r kept keys)
length-changed r (kept ∷ keys) (suc at) now d inside =
    omega (
      arith,
      length-counted r kept (slice_set keys at now),
      length-counted r kept keys,
      length-changed r keys at now d (omega (arith, inside)),
    )

-- ---- one key more

pub live-inserted : (key : HeldKey) (r : ℕ) (keys : List KeptKey) (at : ℕ) (now : KeptKey) → at ≤ length keys → key_of now ≡ key → now.is_held ≡ true
    → Before keys at (rank_of key.node.0 key.number) → Later keys at (rank_of key.node.0 key.number)
    → counted_keys false r (take at keys ++ now ∷ drop at keys) ≡ key_in_order key (counted_keys false r keys)
live-inserted key r keys zero now inside same held before later =
    rw held ((λ i. same i ∷ counted_keys false r keys) ∙ sym (in_front key false r keys (λ j d le lt. later j d le lt)))
live-inserted key r [] (suc at) now inside same held before later = absurd (omega (arith, inside))
live-inserted key r (kept ∷ keys) (suc at) now inside same held before later =
    let low = lt-ltb (rank kept) (rank_of key.node.0 key.number) (before 0 kept (omega arith)) in
    let rest = live-inserted key r keys at now (omega (arith, inside)) same held
    (λ j d lt. before (suc j) d (omega (arith, lt)))
    (λ j d le lt. later (suc j) d (omega (arith, le)) (omega (arith, lt))) in
    elim (cases_Bool kept.is_held) [
      | inl is ↦ rw (is, low) (ap (λ (l : List HeldKey). key_of kept ∷ l) rest)
      | inr isnt ↦ rw isnt rest
    ]

pub firm-inserted : (r : ℕ) (keys : List KeptKey) (at : ℕ) (now : KeptKey) → counts true r now ≡ false
    → counted_keys true r (take at keys ++ now ∷ drop at keys) ≡ counted_keys true r keys
firm-inserted r keys zero now waits = rw waits refl
firm-inserted r [] (suc at) now waits = rw waits refl
firm-inserted r (kept ∷ keys) (suc at) now waits =
    counted-cons true true r r kept kept (take at keys ++ now ∷ drop at keys) keys refl refl
    (firm-inserted r keys at now waits)

-- ---- all of them settled

pub firm-next : (r : ℕ) (keys : List KeptKey) → AreUpTo r keys → counted_keys true (r + 1) keys ≡ counted_keys false r keys
firm-next r [] up = refl
firm-next r (kept ∷ keys) up =
    counted-cons true false (r + 1) r kept kept keys keys
    (rw (ne_eqb kept.round (r + 1) (λ e. omega (arith, (up 0 kept (omega arith)).0, e))) refl) refl
    (firm-next r keys (λ j d lt. up (suc j) d (omega (arith, lt))))

pub counted-settled : (s : Bool) (q : ℕ) (firm : Bool) (r : ℕ) (keys : List KeptKey) → counted_keys s q (map (λ (kept : KeptKey). settled_key firm r kept) keys) ≡ counted_keys firm r keys
counted-settled s q firm r [] = refl
counted-settled s q firm r (kept ∷ keys) =
    let same : counts s q (settled_key firm r kept) ≡ counts firm r kept =
    cond_both (s && (0 == q)) (counts firm r kept) (counts firm r kept)
    (λ (b : Bool). b ≡ counts firm r kept) (λ _. refl) (λ _. refl) in
    counted-cons s firm q r (settled_key firm r kept) kept (map (λ (k : KeptKey). settled_key firm r k) keys) keys
    same refl (counted-settled s q firm r keys)

-- ---- all keys of a node changed

-- a key that a test fails, let go
pub let_go : (p : HeldKey → Bool) (r : ℕ) (keys : List KeptKey) (at : ℕ) (now : KeptKey) → at < length keys → now.is_held ≡ false
    → ((d : KeptKey) → p (key_of (slice_index_or keys at d)) ≡ false) → filter p (counted_keys false r (slice_set keys at now)) ≡ filter p (counted_keys false r keys)
let_go p r [] at now inside free fails = absurd (omega (arith, inside))
let_go p r (kept ∷ keys) zero now inside free fails =
    rw free (cond_both kept.is_held (kept ∷ kept_by false r keys) (kept_by false r keys)
    (λ (l : List KeptKey). filter p (counted_keys false r keys) ≡ filter p (map key_of l)) (λ _.
    rw (fails kept) refl) (λ _. refl))
let_go p r (kept ∷ keys) (suc at) now inside free fails =
    let rest = let_go p r keys at now (omega (arith, inside)) free (λ d. fails d) in
    elim (cases_Bool kept.is_held) [
      | inl is ↦ elim (cases_Bool (p (key_of kept))) [
        | inl passes ↦ rw (is, passes) (ap (λ (l : List HeldKey). key_of kept ∷ l) rest)
        | inr failed ↦ rw (is, failed) rest
      ]
      | inr isnt ↦ rw isnt rest
    ]

-- ---- counts

pub counted_le : (s : Bool) (r : ℕ) (keys : List KeptKey) → length (counted_keys s r keys) ≤ length keys
counted_le s r keys =
    omega (arith, length-map (kept_by s r keys) key_of, length-filter (λ (kept : KeptKey). counts s r kept) keys, count_by-le-length (λ (kept : KeptKey). counts s r kept) keys)

abbrev pub one : Bool → ℕ
one b = if b then 1 else 0

-- how a change counts
pub change_counts : (r live a b : ℕ) (keys : List KeptKey) (at : ℕ) (now d : KeptKey) → at < length keys → live ≡ length (counted_keys false r keys)
    → a ≡ one (slice_index_or keys at d).is_held → b ≡ one now.is_held
    → (a ≤ live) × (live - a + b ≡ length (counted_keys false r (slice_set keys at now))) × (live - a + b ≤ length keys)
change_counts r live a b keys at now d inside count was is =
    let gone = length-changed r keys at (changed_key false r now) d inside in
    let new = length-changed r keys at now d inside in
    let most = counted_le false r (slice_set keys at now) in
    (omega (arith, count, was, gone), omega (arith, count, was, is, gone, new), omega (arith, count, was, is, gone, new, most, length-set keys at now))
