-- Lists one of which is for another in turn, and what passes to an inbox took that others pushed.
use Rattle.std.proofs.Common.{◌≡◌, inl, inr, ◌≤◌, Bool, true, false, cond, List, [], ◌∷◌, ◌++◌, length, refl, sym, ap, subst, ◌∙◌, arith}
use Rattle.session_run.proofs.Names.{All, All-cons, All-head, All-nil, All-tail, append-nil, AreSettled, filter, Hand, InTurn, IsSublist, Job, sum_by}
use Rattle.std.proofs.lemmas.List.Sums.{sum_by-cons}

module _ {A B : Type 0} where
  pub in_turn_weaker : (R S : A → B → Type 0) → ((a : A) (b : B) → R a b → S a b) → (xs : List A) (ys : List B) → InTurn R xs ys
      → InTurn S xs ys
  in_turn_weaker R S more xs [] p = tt
  in_turn_weaker R S more [] (y ∷ ys) p = absurd p
  in_turn_weaker R S more (x ∷ xs) (y ∷ ys) (inl t) = inl (more x y t.0, in_turn_weaker R S more xs ys t.1)
  in_turn_weaker R S more (x ∷ xs) (y ∷ ys) (inr t) = inr (in_turn_weaker R S more xs (y ∷ ys) t)

  module _ (R : A → B → Type 0) where
    -- one pair of lists behind another
    pub in_turn_both : (xs : List A) (ys : List B) (more : List A) (also : List B) → InTurn R xs ys → InTurn R more also
        → InTurn R (xs ++ more) (ys ++ also)
    in_turn_both [] [] more also p q = q
    in_turn_both [] (y ∷ ys) more also p q = absurd p
    in_turn_both (x ∷ xs) [] more [] p q = tt
    in_turn_both (x ∷ xs) [] more (z ∷ also) p q = inr (in_turn_both xs [] more (z ∷ also) tt q)
    in_turn_both (x ∷ xs) (y ∷ ys) more also (inl t) q = inl (t.0, in_turn_both xs ys more also t.1 q)
    in_turn_both (x ∷ xs) (y ∷ ys) more also (inr t) q = inr (in_turn_both xs (y ∷ ys) more also t q)

    -- more to be for, behind
    pub in_turn_more : (xs : List A) (ys : List B) (more : List A) → InTurn R xs ys → InTurn R (xs ++ more) ys
    in_turn_more xs ys more p = rw append-nil at (in_turn_both xs ys more [] p tt)

    -- and in front
    pub in_turn_before : (rest xs : List A) (ys : List B) → InTurn R xs ys → InTurn R (rest ++ xs) ys
    in_turn_before [] xs ys p = p
    in_turn_before (x ∷ rest) xs [] p = tt
    in_turn_before (x ∷ rest) xs (y ∷ ys) p = inr (in_turn_before rest xs (y ∷ ys) p)

    pub in_turn_front : (xs : List A) (ys zs : List B) → InTurn R xs (ys ++ zs) → InTurn R xs ys
    in_turn_front xs [] zs p = tt
    in_turn_front [] (y ∷ ys) zs p = absurd p
    in_turn_front (x ∷ xs) (y ∷ ys) zs (inl t) = inl (t.0, in_turn_front xs ys zs t.1)
    in_turn_front (x ∷ xs) (y ∷ ys) zs (inr t) = inr (in_turn_front xs (y ∷ ys) zs t)

    -- what is left of the second without some of its elements
    pub in_turn_sub : (xs : List A) (ys zs : List B) → InTurn R xs zs → IsSublist ys zs → InTurn R xs ys
    in_turn_sub xs ys [] p sub = subst (InTurn R xs) (sym sub) tt
    in_turn_sub xs [] (z ∷ zs) p sub = tt
    in_turn_sub [] (y ∷ ys) (z ∷ zs) p sub = absurd p
    in_turn_sub (x ∷ xs) (y ∷ ys) (z ∷ zs) (inl t) (inl s) =
        inl (subst (R x) (sym s.0) t.0, in_turn_sub xs ys zs t.1 s.1)
    in_turn_sub (x ∷ xs) (y ∷ ys) (z ∷ zs) (inl t) (inr s) = inr (in_turn_sub xs (y ∷ ys) zs t.1 s)
    in_turn_sub (x ∷ xs) (y ∷ ys) (z ∷ zs) (inr t) sub = inr (in_turn_sub xs (y ∷ ys) (z ∷ zs) t sub)

    pub in_turn_all : (Q : A → Type 0) (P : B → Type 0) → ((a : A) (b : B) → Q a → R a b → P b) → (xs : List A) (ys : List B)
        → All Q xs → InTurn R xs ys → All P ys
    in_turn_all Q P each xs [] all p = All-nil P
    in_turn_all Q P each [] (y ∷ ys) all p = absurd p
    in_turn_all Q P each (x ∷ xs) (y ∷ ys) all (inl t) =
        All-cons P y ys (each x y (All-head Q x xs all) t.0) (in_turn_all Q P each xs ys (All-tail Q x xs all) t.1)
    in_turn_all Q P each (x ∷ xs) (y ∷ ys) all (inr t) = in_turn_all Q P each xs (y ∷ ys) (All-tail Q x xs all) t

-- what is for what is for others
pub in_turn_through : {A B C : Type 0} (R : A → B → Type 0) (S : B → C → Type 0) (T : A → C → Type 0)
    → ((a : A) (b : B) (c : C) → R a b → S b c → T a c) → (xs : List A) (ys : List B) (zs : List C)
    → InTurn R xs ys → InTurn S ys zs → InTurn T xs zs
in_turn_through R S T both xs ys [] p q = tt
in_turn_through R S T both xs [] (z ∷ zs) p q = absurd q
in_turn_through R S T both [] (y ∷ ys) (z ∷ zs) p q = absurd p
in_turn_through R S T both (x ∷ xs) (y ∷ ys) (z ∷ zs) (inl t) (inl s) =
    inl (both x y z t.0 s.0, in_turn_through R S T both xs ys zs t.1 s.1)
in_turn_through R S T both (x ∷ xs) (y ∷ ys) (z ∷ zs) (inl t) (inr s) =
    inr (in_turn_through R S T both xs ys (z ∷ zs) t.1 s)
in_turn_through R S T both (x ∷ xs) (y ∷ ys) (z ∷ zs) (inr t) q =
    inr (in_turn_through R S T both xs (y ∷ ys) (z ∷ zs) t q)

-- some of a list, in their order, are what is left of it without the others
module _ {A : Type 0} (p : A → Bool) where
  one_more : (x : A) (xs ys : List A) → IsSublist xs ys → IsSublist xs (x ∷ ys)
  one_more x [] ys sub = tt
  one_more x (z ∷ xs) ys sub = inr sub

  pub filter_sub : (xs : List A) → IsSublist (filter p xs) xs
  filter_sub [] = refl
  filter_sub (x ∷ xs) = by (p x) (filter_sub xs)
    where
      by : (b : Bool) → IsSublist (filter p xs) xs → IsSublist (cond b (x ∷ filter p xs) (filter p xs)) (x ∷ xs)
      by true sub = inl (refl, sub)
      by false sub = one_more x (filter p xs) xs sub

  pub filter_none : (xs : List A) → All (λ x. p x ≡ false) xs → filter p xs ≡ []
  filter_none [] none = refl
  filter_none (x ∷ xs) none = rw (All-head (λ (y : A). p y ≡ false) x xs none)
      (filter_none xs (All-tail (λ (y : A). p y ≡ false) x xs none))

-- ---- an inbox

module _ {A : Type 0} where
  sub_length : (xs ys : List A) → IsSublist xs ys → length xs ≤ length ys
  sub_length [] ys sub = omega arith
  sub_length (x ∷ xs) [] sub = absurd (cc sub)
  sub_length (x ∷ xs) (y ∷ ys) (inl t) = let n = sub_length xs ys t.1 in omega (arith, n)
  sub_length (x ∷ xs) (y ∷ ys) (inr t) = let n = sub_length (x ∷ xs) ys t in omega (arith, n)

  -- a sublist that is no shorter is the whole
  sub_whole : (xs ys : List A) → IsSublist xs ys → length ys ≤ length xs → xs ≡ ys
  sub_whole xs [] sub long = sub
  sub_whole [] (y ∷ ys) sub long = absurd (omega (arith, long))
  sub_whole (x ∷ xs) (y ∷ ys) (inl t) long = λ i. t.0 i ∷ sub_whole xs ys t.1 (omega (arith, long)) i
  sub_whole (x ∷ xs) (y ∷ ys) (inr t) long = let n = sub_length (x ∷ xs) ys t in absurd (omega (arith, n, long))

-- how many jobs there are
ones : (jobs : List Job) → sum_by (λ job. 1) jobs ≡ length jobs
ones [] = refl
ones (j ∷ jobs) = let n = ones jobs in sum_by-cons (λ (x : Job). 1) j jobs ∙ omega (arith, n)

-- What was taken from an inbox to which one pass pushed and from which another took is as what was pushed, in turn.
pub taken_in_turn : {A : Type 0} (R : A → Job → Type 0) (xs : List A) (push pop : Hand) → AreSettled (push ∷ pop ∷ [])
    → pop.put ≡ [] → InTurn R xs push.put → InTurn R xs pop.taken
taken_in_turn R xs push pop settled none p =
    let put = settled.0 in let taken = settled.1 in let left = settled.2 in let s = settled.3 in
    let first : IsSublist push.put put × IsSublist push.taken taken = s.stand 0 push (omega arith) in
    let second : IsSublist pop.put put × IsSublist pop.taken taken = s.stand 1 pop (omega arith) in
    let total : sum_by (λ h. sum_by (λ job. 1) h.put) (push ∷ pop ∷ []) ≡ sum_by (λ job. 1) put = s.puts (λ job. 1) in
    let nothing : length pop.put ≡ 0 = ap (λ (l : List Job). length l) none in
    let a = ones push.put in
    let b = ones pop.put in
    let c = ones put in
    let all : push.put ≡ put = sub_whole push.put put first.0 (omega (arith, total, nothing, a, b, c)) in
    in_turn_sub R xs pop.taken taken (in_turn_front R xs taken left (rw (← s.order, ← all) p)) second.1
