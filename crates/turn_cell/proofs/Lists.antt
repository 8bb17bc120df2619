-- Lists that begin with others, sublists, and entries with what stands in front of them.
use Rattle.std.proofs.Common.{◌≡◌, ◌≢◌, inl, inr, ⊎_elim, ℕ, ◌≤◌, ◌==◌, Bool, true, false, List, [], ◌∷◌, ◌++◌, length, take, drop, if◌then◌else◌, refl, sym, ap, ◌∙◌, subst, append_assoc, arith}
use Rattle.std.proofs.lemmas.Bool.{eq-eqb, ne_eqb}
use Rattle.turn_cell.proofs.Names.{added_by, All, All-cons, All-head, All-nil, All-tail, append-nil, AreAligned, base, Begins, by_session, facts_of, HistoryEntry, IsSublist, KeptTurn, placed, take-append-drop, take-append-le}

abbrev pub Entries : Type 0
Entries = List HistoryEntry

abbrev pub rest_of : {A : Type 0} → List A → List A
rest_of [] = []
rest_of (x ∷ xs) = xs

abbrev pub head_of : {A : Type 0} → A → List A → A
head_of a [] = a
head_of a (x ∷ xs) = x

pub begins_self : (xs : Entries) → Begins xs xs
begins_self xs = ([], sym (append-nil xs))

pub begins_more : (xs ys : Entries) → Begins xs (xs ++ ys)
begins_more xs ys = (ys, refl)

pub begins_then : (xs ys zs : Entries) → Begins xs ys → Begins ys zs → Begins xs zs
begins_then xs ys zs p q = (p.0 ++ q.0, q.1 ∙ ap (λ (l : Entries). l ++ q.0) p.1 ∙ append_assoc xs p.0 q.0)

-- what follows a common beginning is the same
pub after_same : (xs ys zs : Entries) → xs ++ ys ≡ xs ++ zs → ys ≡ zs
after_same [] ys zs e = e
after_same (x ∷ xs) ys zs e = after_same xs ys zs (ap rest_of e)

-- of two beginnings of one list, one begins the other
pub two_beginnings : (xs ys zs : Entries) → Begins xs zs → Begins ys zs → AreAligned xs ys
two_beginnings [] ys zs p q = inl (ys, refl)
two_beginnings (x ∷ xs) [] zs p q = inr (x ∷ xs, refl)
two_beginnings (x ∷ xs) (y ∷ ys) [] p q = let e : [] ≡ x ∷ (xs ++ p.0) = p.1 in absurd (cc e)
two_beginnings (x ∷ xs) (y ∷ ys) (z ∷ zs) p q =
    let a : z ∷ zs ≡ x ∷ (xs ++ p.0) = p.1 in
    let b : z ∷ zs ≡ y ∷ (ys ++ q.0) = q.1 in
    let same : x ≡ y = sym (ap (head_of x) a) ∙ ap (head_of x) b in
    ⊎_elim
    (λ (t : Begins xs ys). inl (t.0, λ i. sym same i ∷ t.1 i))
    (λ (t : Begins ys xs). inr (t.0, λ i. same i ∷ t.1 i))
    (two_beginnings xs ys zs (p.0, ap rest_of a) (q.0, ap rest_of b))

-- one list begins the other, which is no longer
pub begins_whole : (xs ys : Entries) → Begins xs ys → length ys ≤ length xs → ys ≡ xs
begins_whole [] [] p short = refl
begins_whole [] (y ∷ ys) p short = absurd (omega arith)
begins_whole (x ∷ xs) [] p short = let e : [] ≡ x ∷ (xs ++ p.0) = p.1 in absurd (cc e)
begins_whole (x ∷ xs) (y ∷ ys) p short =
    let e : y ∷ ys ≡ x ∷ (xs ++ p.0) = p.1 in
    λ i. ap (head_of x) e i ∷ begins_whole xs ys (p.0, ap rest_of e) (omega arith) i

pub begins_take : (n : ℕ) (xs : Entries) → Begins (take n xs) xs
begins_take n xs = (drop n xs, sym (take-append-drop n xs))

pub take_begun : (n : ℕ) (xs ys : Entries) → Begins xs ys → n ≤ length xs → take n ys ≡ take n xs
take_begun n xs ys p within = ap (take n) p.1 ∙ take-append-le n xs p.0 within

-- ---- all of a list

pub all_first : {X : Type 0} (P : X → Type 0) (xs ys : List X) → All P (xs ++ ys) → All P xs
all_first P [] ys h = All-nil P
all_first P (x ∷ xs) ys h = All-cons P x xs (All-head P x (xs ++ ys) h) (all_first P xs ys (All-tail P x (xs ++ ys) h))

pub all_both : {X : Type 0} (P Q : X → Type 0) (xs : List X) → All P xs → All Q xs → All (λ (x : X). P x × Q x) xs
all_both {X} P Q [] p q = All-nil (λ (x : X). P x × Q x)
all_both {X} P Q (x ∷ xs) p q = All-cons (λ (y : X). P y × Q y) x xs (All-head P x xs p, All-head Q x xs q) (all_both P Q xs (All-tail P x xs p) (All-tail Q x xs q))

-- ---- sublists

module _ {A : Type 0} where
  pub sub_nil : (ys : List A) → IsSublist [] ys
  sub_nil [] = refl
  sub_nil (y ∷ ys) = tt

  pub sub_skip : (xs ys : List A) (y : A) → IsSublist xs ys → IsSublist xs (y ∷ ys)
  sub_skip [] ys y h = tt
  sub_skip (x ∷ xs) ys y h = inr h

  pub sub_self : (xs : List A) → IsSublist xs xs
  sub_self [] = refl
  sub_self (x ∷ xs) = inl (refl, sub_self xs)

  sub_behind : (ys zs : List A) → IsSublist zs (ys ++ zs)
  sub_behind [] zs = sub_self zs
  sub_behind (y ∷ ys) zs = sub_skip zs (ys ++ zs) y (sub_behind ys zs)

  pub sub_append : (xs ys zs : List A) → IsSublist xs ys → IsSublist (xs ++ zs) (ys ++ zs)
  sub_append xs [] zs h = subst (λ (l : List A). IsSublist (l ++ zs) zs) (sym h) (sub_self zs)
  sub_append [] (y ∷ ys) zs h = sub_behind (y ∷ ys) zs
  sub_append (x ∷ xs) (y ∷ ys) zs h =
      ⊎_elim (λ (t : (x ≡ y) × IsSublist xs ys). inl (t.0, sub_append xs ys zs t.1)) (λ (t : IsSublist (x ∷ xs) ys). inr (sub_append (x ∷ xs) ys zs t)) h

  pub sub_first : (xs zs ys : List A) → IsSublist (xs ++ zs) ys → IsSublist xs ys
  sub_first [] zs ys h = sub_nil ys
  sub_first (x ∷ xs) zs [] h = absurd (cc h)
  sub_first (x ∷ xs) zs (y ∷ ys) h =
      ⊎_elim (λ (t : (x ≡ y) × IsSublist (xs ++ zs) ys). inl (t.0, sub_first xs zs ys t.1)) (λ (t : IsSublist (x ∷ (xs ++ zs)) ys). inr (sub_first (x ∷ xs) zs ys t)) h

-- ---- entries with what stands in front

abbrev pub Pairs : Type 0
Pairs = List (HistoryEntry × List HistoryEntry)

pub placed-append : (before xs ys : Entries) → placed before (xs ++ ys) ≡ placed before xs ++ placed (before ++ xs) ys
placed-append before [] ys = ap (λ (l : Entries). placed l ys) (sym (append-nil before))
placed-append before (x ∷ xs) ys =
    ap (λ (l : Pairs). (x, before) ∷ l)
    (placed-append (before ++ x ∷ []) xs ys
    ∙ ap (λ (l : Entries). placed (before ++ x ∷ []) xs ++ placed l ys) (append_assoc before (x ∷ []) xs))

pub by_session-append : (n : ℕ) (ps qs : Pairs) → by_session n (ps ++ qs) ≡ by_session n ps ++ by_session n qs
by_session-append n [] qs = refl
by_session-append n (p ∷ ps) qs = by_test (p.0.caller.session == n) (by_session-append n ps qs)
  where
    by_test : (b : Bool) → by_session n (ps ++ qs) ≡ by_session n ps ++ by_session n qs
        → (if b then p ∷ by_session n (ps ++ qs) else by_session n (ps ++ qs)) ≡ (if b then p ∷ by_session n ps else by_session n ps) ++ by_session n qs
    by_test true e = ap (λ (l : Pairs). p ∷ l) e
    by_test false e = e

pub by_own : (n : ℕ) (before entries : Entries) → All (λ (e : HistoryEntry). e.caller.session ≡ n) entries → by_session n (placed before entries) ≡ placed before entries
by_own n before [] h = refl
by_own n before (e ∷ entries) h =
    let P : HistoryEntry → Type 0 = λ x. x.caller.session ≡ n in
    let is : (e.caller.session == n) ≡ true = eq-eqb e.caller.session n (All-head P e entries h) in
    let more = by_own n (before ++ e ∷ []) entries (All-tail P e entries h) in
    ap (λ (b : Bool). if b then (e, before) ∷ by_session n (placed (before ++ e ∷ []) entries) else by_session n (placed (before ++ e ∷ []) entries)) is
    ∙ ap (λ (l : Pairs). (e, before) ∷ l) more

pub by_other : (n : ℕ) (before entries : Entries) → All (λ (e : HistoryEntry). e.caller.session ≢ n) entries → by_session n (placed before entries) ≡ []
by_other n before [] h = refl
by_other n before (e ∷ entries) h =
    let P : HistoryEntry → Type 0 = λ x. x.caller.session ≢ n in
    let is : (e.caller.session == n) ≡ false = ne_eqb e.caller.session n (All-head P e entries h) in
    ap (λ (b : Bool). if b then (e, before) ∷ by_session n (placed (before ++ e ∷ []) entries) else by_session n (placed (before ++ e ∷ []) entries)) is
    ∙ by_other n (before ++ e ∷ []) entries (All-tail P e entries h)

pub added_by-append : (ts : List KeptTurn) (t : KeptTurn) → added_by (ts ++ t ∷ []) ≡ added_by ts ++ placed (base t.drops (facts_of t.found)) t.added
added_by-append [] t = append-nil (placed (base t.drops (facts_of t.found)) t.added)
added_by-append (u ∷ ts) t =
    let own : Pairs = placed (base u.drops (facts_of u.found)) u.added in
    ap (λ (l : Pairs). own ++ l) (added_by-append ts t) ∙ sym (append_assoc own (added_by ts) (placed (base t.drops (facts_of t.found)) t.added))
