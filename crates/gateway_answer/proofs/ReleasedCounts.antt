-- What an entry leaves of the held copies: those that it doesn't name, and each that it releases is one less.
use Rattle.std.proofs.Common.{◌≡◌, refl, ap, ℕ, zero, suc, ◌+◌, ◌≤◌, ◌==◌, nat_lt, Bool, true, false, if◌then◌else◌, List, [], ◌∷◌, filter, length, take, drop, Option, Some, None, option_map, option_and_then, arith, length-append, length-drop, not, ◌∙◌, sym, ◌⊎◌, inl, inr, ◌&&◌, ◌||◌, ◌++◌, eq-eqb}
use Rattle.gateway_answer.proofs.Names.{after_last-push, and_parts, are_distinct, begins_epoch, cond_both, epoch_of, eqb-true, false≢true, filed_under, given_state, held_keys, held_packet, HeldKey, HistoryAct, HistoryEntry, holds, last_naming, list_all, list_any, names, NodeId, option_map_or, or_cases, packet_of, packet_of_hold, PacketForm, PacketKey, present_entries, present_key, records_at, records_from, records_if, released_by, released_records, state_by, state_of, stays_held, sum_by, sum_by-cons, sum_by-le-sum_by}
use Rattle.gtpp_header.specs.Header.{two_octets}
use Rattle.std.proofs.lemmas.List.Filters.{sum_by-filter_both}
use Rattle.gw_base.specs.EntryLaws.{last_naming-append, present_state_is}
use Rattle.gw_base.specs.HeldKeys as keys
use Rattle.gw_base.specs.declared.history.HistoryAct.TheVariants as act
use Rattle.gateway_answer.specs.OnceLaws.{not_among}

-- ---- a packet has no more records than octets

abbrev so_many : Option (List (List ℕ)) → ℕ
so_many records = option_map_or (λ (rs : List (List ℕ)). length rs) records 0

one_more : (first : List ℕ) (o : Option (List (List ℕ))) → so_many (option_map (λ (rs : List (List ℕ)). first ∷ rs) o) ≤ so_many o + 1
one_more first None = omega arith
one_more first (Some rs) = omega arith

records_few : (count : ℕ) (octets : List ℕ) → so_many (records_at count octets) ≤ length octets
records_few zero [] = omega arith
records_few zero (x ∷ xs) = omega arith
records_few (suc count) [] = omega arith
records_few (suc count) (x ∷ []) = omega arith
records_few (suc count) (high ∷ low ∷ rest) = by_test (nat_lt (length rest) n) (records_few count (drop n rest))
  where
    n : ℕ
    n = two_octets high low

    by_test : (b : Bool) → so_many (records_at count (drop n rest)) ≤ length (drop n rest)
        → so_many (option_and_then (λ (parts : List ℕ × List ℕ). option_map (λ (rs : List (List ℕ)). parts.0 ∷ rs) (records_at count parts.1))
        (if b then None else Some (take n rest, drop n rest))) ≤ length (high ∷ low ∷ rest)
    by_test true later = omega arith
    by_test false later = omega (arith, one_more (take n rest) (records_at count (drop n rest)), later, length-drop n rest)

-- how many records a packet has
abbrev form_count : Option PacketForm → ℕ
form_count form = option_map_or (λ (packet : PacketForm). length packet.records) form 0

abbrev pub packet_count : List ℕ → ℕ
packet_count packet = form_count (packet_of packet)

pub packet_few : (packet : List ℕ) → packet_count packet ≤ length packet
packet_few (count ∷ format ∷ high ∷ low ∷ octets) = by_test (count == 0)
  where
    form_few : (o : Option (List (List ℕ))) → form_count (option_map (λ (rs : List (List ℕ)). record { format = format; version = two_octets high low; records = rs }) o) ≡ so_many o
    form_few None = refl
    form_few (Some rs) = refl

    by_test : (b : Bool) → form_count (if b then None else option_map (λ (rs : List (List ℕ)). record { format = format; version = two_octets high low; records = rs }) (records_at count octets))
        ≤ length (count ∷ format ∷ high ∷ low ∷ octets)
    by_test true = omega arith
    by_test false = let few = records_few count octets in let is = form_few (records_at count octets) in omega (arith, few, is)
packet_few _ = omega arith

-- ---- how many records are filed

records_count : (key : PacketKey) (moment format version index : ℕ) (records : List (List ℕ)) → length (records_from key moment format version index records) ≡ length records
records_count key moment format version index [] = refl
records_count key moment format version index (r ∷ records) = ap (λ (n : ℕ). suc n) (records_count key moment format version (index + 1) records)

pub filed_count : (key : PacketKey) (moment : ℕ) (packet : List ℕ) → length (filed_under key moment packet) ≡ packet_count packet
filed_count key moment packet = by_form (packet_of packet)
  where
    by_form : (form : Option PacketForm) → length (records_if key moment form) ≡ form_count form
    by_form None = refl
    by_form (Some form) = records_count key moment form.format form.version 0 form.records

-- how many records are held under a node's number
abbrev pub held_count : List HistoryEntry → ℕ → ℕ → ℕ
held_count h node number = option_map_or packet_count (held_packet node number h) 0

released_count : (h : List HistoryEntry) (moment : ℕ) (n : NodeId) (x : ℕ) → length (released_records h moment n x) ≡ held_count h n.0 x
released_count h moment n x = by_held (held_packet n.0 x h)
  where
    by_held : (packet : Option (List ℕ)) → length (option_map_or (filed_under (present_key h n x) moment) packet []) ≡ option_map_or packet_count packet 0
    by_held None = refl
    by_held (Some packet) = filed_count (present_key h n x) moment packet

-- under all of these numbers
abbrev pub count_all : List HistoryEntry → ℕ → List ℕ → ℕ
count_all h node xs = sum_by (λ (x : ℕ). held_count h node x) xs

pub released_all : (h : List HistoryEntry) (moment : ℕ) (n : NodeId) (xs : List ℕ) → length (released_by h moment n xs) ≡ count_all h n.0 xs
released_all h moment n [] = refl
released_all h moment n (x ∷ xs) =
    omega (
      arith,
      released_count h moment n x,
      released_all h moment n xs,
      length-append (released_records h moment n x) (released_by h moment n xs),
      sum_by-cons (λ (y : ℕ). held_count h n.0 y) x xs,
    )

-- ---- how many records are held

abbrev pub key_count : List HistoryEntry → HeldKey → ℕ
key_count h key = held_count h key.node.0 key.number

abbrev pub load : List HistoryEntry → List HeldKey → ℕ
load h ks = sum_by (λ (key : HeldKey). key_count h key) ks

pub load_cons : (h : List HistoryEntry) (key : HeldKey) (ks : List HeldKey) → load h (key ∷ ks) ≡ key_count h key + load h ks
load_cons h key ks = sum_by-cons (λ (k : HeldKey). key_count h k) key ks

-- the load of the keys that a test passes is a sum over all keys
abbrev pub load_if : List HistoryEntry → (HeldKey → Bool) → HeldKey → ℕ
load_if h p key = if p key then key_count h key else 0

pub load_by : (h : List HistoryEntry) (p : HeldKey → Bool) (ks : List HeldKey) → load h (filter p ks) ≡ sum_by (load_if h p) ks
load_by h p [] = refl
load_by h p (key ∷ ks) =
    let rest = load_by h p ks in
    let sum = sum_by-cons (load_if h p) key ks in
    cond_both (p key) (key ∷ filter p ks) (filter p ks) (λ (kept : List HeldKey). load h kept ≡ sum_by (load_if h p) (key ∷ ks))
    (λ e. omega (arith, rest, sum, load_cons h key (filter p ks), ap (λ (b : Bool). if b then key_count h key else 0) e))
    (λ e. omega (arith, rest, sum, ap (λ (b : Bool). if b then key_count h key else 0) e))

pub if_less : (a b : Bool) (n : ℕ) → (a ≡ true → b ≡ true) → (if a then n else 0) ≤ (if b then n else 0)
if_less true b n more = rw (more refl) (omega arith)
if_less false b n more = omega arith

-- of fewer keys they are no more
pub load_less : (h : List HistoryEntry) (p q : HeldKey → Bool) → ((key : HeldKey) → p key ≡ true → q key ≡ true) → (ks : List HeldKey)
    → load h (filter p ks) ≤ load h (filter q ks)
load_less h p q more ks =
    omega (
      arith,
      load_by h p ks,
      load_by h q ks,
      sum_by-le-sum_by (load_if h p) (load_if h q) ks (λ key. if_less (p key) (q key) (key_count h key) (more key)),
    )

pub load_part : (h : List HistoryEntry) (p : HeldKey → Bool) (ks : List HeldKey) → load h (filter p ks) ≤ load h ks
load_part h p ks = omega (arith, sum_by-filter_both p (λ key. not (p key)) (λ _. refl) (λ (key : HeldKey). key_count h key) ks)

-- ---- what an entry leaves of the held copies: those that it doesn't name, and each that it releases is one less

-- what the law of held keys says
abbrev pub HeldKeysAreHeld : Type 0
HeldKeysAreHeld = (node : NodeId) (number : ℕ) (h : List HistoryEntry)
    → holds node.0 number (held_keys h) ≡ keys.is_held (state_of (record { node = node; epoch = epoch_of node.0 h; number = number }) h)

-- ---- an entry leaves what it doesn't name

both_not : (a b : Bool) → (not a && not b) ≡ true → (a ≡ false) × (b ≡ false)
both_not false false is = (refl, refl)
both_not _ _ is = absurd (false≢true is)

pub named_after : (h : List HistoryEntry) (e : HistoryEntry) (node number : ℕ) → begins_epoch node e.act ≡ false
    → last_naming node number (present_entries node (h ++ e ∷ []))
    ≡ (if names node number e.act then Some e else last_naming node number (present_entries node h))
named_after h e node number begins =
    ap (λ (es : List HistoryEntry). last_naming node number es) (after_last-push (λ (d : HistoryEntry). begins_epoch node d.act) h e)
    ∙ ap (λ (b : Bool). last_naming node number (if b then [] else present_entries node h ++ e ∷ [])) begins
    ∙ last_naming-append node number (present_entries node h) e

stays_there : (h : List HistoryEntry) (e : HistoryEntry) (key : HeldKey) → stays_held e.act key ≡ true → key_count (h ++ e ∷ []) key ≡ key_count h key
stays_there h e key stays =
    let parts = both_not (begins_epoch key.node.0 e.act) (names key.node.0 key.number e.act) stays in
    ap (λ (o : Option HistoryEntry). option_map_or packet_count (option_and_then (λ (d : HistoryEntry). packet_of_hold d.act) o) 0)
    (named_after h e key.node.0 key.number parts.0
    ∙ ap (λ (b : Bool). if b then Some e else last_naming key.node.0 key.number (present_entries key.node.0 h)) parts.1)

pub all_stay : (h : List HistoryEntry) (e : HistoryEntry) (ks : List HeldKey)
    → load (h ++ e ∷ []) (filter (λ (key : HeldKey). stays_held e.act key) ks) ≡ load h (filter (λ (key : HeldKey). stays_held e.act key) ks)
all_stay h e [] = refl
all_stay h e (key ∷ ks) =
    let kept : List HeldKey = filter (λ (k : HeldKey). stays_held e.act k) ks in
    let rest = all_stay h e ks in
    cond_both (stays_held e.act key) (key ∷ kept) kept (λ (some : List HeldKey). load (h ++ e ∷ []) some ≡ load h some)
    (λ stays. omega (arith, stays_there h e key stays, load_cons (h ++ e ∷ []) key kept, load_cons h key kept, rest)) (λ _. rest)

-- ---- numbers that are released

-- what isn't among more numbers isn't among fewer
less_named : (a b c : Bool) → not (a && (b || c)) ≡ true → not (a && c) ≡ true
less_named true true c is = absurd (false≢true is)
less_named true false c is = is
less_named false b c is = refl

module _ (h : List HistoryEntry) (n : ℕ) where
  -- whether a key isn't that of one of these numbers
  abbrev pub apart : List ℕ → HeldKey → Bool
  apart xs key = not ((n == key.node.0) && list_any (λ x. x == key.number) xs)

  -- a key of one number more
  fewer : (x : ℕ) (xs : List ℕ) (key : HeldKey) → apart (x ∷ xs) key ≡ true → apart xs key ≡ true
  fewer x xs key is = less_named (n == key.node.0) (x == key.number) (list_any (λ y. y == key.number) xs) is

  -- a key of the number is one of those that are apart from the others, and not from this one
  lost : (x : ℕ) (xs : List ℕ) → list_all (λ y. not (x == y)) xs ≡ true → (key : HeldKey) → keys.is_key n x key ≡ true
      → (load_if h (apart (x ∷ xs)) key ≡ 0) × (load_if h (apart xs) key ≡ held_count h n x)
  lost x xs all key is =
      let parts = and_parts (key.node.0 == n) (key.number == x) is in
      let node : key.node.0 ≡ n = eqb-true key.node.0 n parts.0 in
      let number : key.number ≡ x = eqb-true key.number x parts.1 in
      let here : (n == key.node.0) ≡ true = eq-eqb n key.node.0 (sym node) in
      let same : (x == key.number) ≡ true = eq-eqb x key.number (sym number) in (
        rw (here, same) refl,
        rw (here, not_among x key.number xs all same) (ap (λ (k : ℕ). held_count h k key.number) node ∙ ap (λ (k : ℕ). held_count h n k) number),
      )

  less_sums : (x : ℕ) (xs : List ℕ) → list_all (λ y. not (x == y)) xs ≡ true → (ks : List HeldKey) → holds n x ks ≡ true
      → held_count h n x + sum_by (load_if h (apart (x ∷ xs))) ks ≤ sum_by (load_if h (apart xs)) ks
  less_sums x xs all [] there = absurd (false≢true there)
  less_sums x xs all (key ∷ ks) there =
      let less : (k : HeldKey) → load_if h (apart (x ∷ xs)) k ≤ load_if h (apart xs) k =
      λ k. if_less (apart (x ∷ xs) k) (apart xs k) (key_count h k) (fewer x xs k) in
      let few = sum_by-cons (load_if h (apart (x ∷ xs))) key ks in
      let more = sum_by-cons (load_if h (apart xs)) key ks in
      elim (or_cases (keys.is_key n x key) (holds n x ks) there) [
        | inl is ↦ let one = lost x xs all key is in
            omega (arith, few, more, one.0, one.1, sum_by-le-sum_by (load_if h (apart (x ∷ xs))) (load_if h (apart xs)) ks less)
        | inr later ↦ omega (arith, few, more, less key, less_sums x xs all ks later)
      ]

  less_one : (x : ℕ) (xs : List ℕ) → list_all (λ y. not (x == y)) xs ≡ true → (ks : List HeldKey) → holds n x ks ≡ true
      → held_count h n x + load h (filter (apart (x ∷ xs)) ks) ≤ load h (filter (apart xs) ks)
  less_one x xs all ks there = omega (arith, load_by h (apart (x ∷ xs)) ks, load_by h (apart xs) ks, less_sums x xs all ks there)

  -- what is released, and what stays, is no more than what was held
  pub less_all : (ks : List HeldKey) → ((x : ℕ) → (held_count h n x ≡ 0) ⊎ (holds n x ks ≡ true)) → (xs : List ℕ) → are_distinct xs ≡ true
      → count_all h n xs + load h (filter (apart xs) ks) ≤ load h ks
  less_all ks held [] distinct = omega (arith, load_part h (apart []) ks)
  less_all ks held (x ∷ xs) distinct =
      let parts = and_parts (list_all (λ y. not (x == y)) xs) (are_distinct xs) distinct in
      let rest = less_all ks held xs parts.1 in
      let sum = sum_by-cons (λ (y : ℕ). held_count h n y) x xs in
      elim (held x) [
        | inl none ↦ omega (arith, rest, sum, none, load_less h (apart (x ∷ xs)) (apart xs) (fewer x xs) ks)
        | inr some ↦ omega (arith, rest, sum, less_one x xs parts.0 ks some)
      ]

-- what is held is among the held keys
pub held_there : HeldKeysAreHeld → (h : List HistoryEntry) (n : NodeId) (x : ℕ) → (held_count h n.0 x ≡ 0) ⊎ (holds n.0 x (held_keys h) ≡ true)
held_there law h n x = by_last (last_naming n.0 x (present_entries n.0 h)) refl
  where
    by_act : (e : HistoryEntry) (a : HistoryAct) → e.act ≡ a → last_naming n.0 x (present_entries n.0 h) ≡ Some e
        → (option_map_or packet_count (packet_of_hold a) 0 ≡ 0) ⊎ (holds n.0 x (held_keys h) ≡ true)
    by_act e (act.Hold m y packet) is last =
        inr (law n x h ∙ ap keys.is_held (present_state_is n x h ∙ ap state_by last ∙ ap given_state is))
    by_act e _ is last = inl refl

    by_last : (o : Option HistoryEntry) → last_naming n.0 x (present_entries n.0 h) ≡ o
        → (option_map_or packet_count (option_and_then (λ (d : HistoryEntry). packet_of_hold d.act) o) 0 ≡ 0) ⊎ (holds n.0 x (held_keys h) ≡ true)
    by_last None last = inl refl
    by_last (Some e) last = by_act e e.act refl last
