-- Why each entry past the beginning is an answer, where each pass added answers alone.
use Rattle.std.proofs.Common.{◌≡◌, ◌⊎◌, inl, inr, ℕ, zero, suc, ◌<◌, ◌==◌, List, [], ◌∷◌, ◌++◌, length, Option, None, Some, refl, sym, ap, subst, ◌∙◌, arith}
use Rattle.node_session.proofs.Names.{act_decided, AddsAnswers, All, AreAnswers, base, called_for, caller_of, cond_both, Contains, decided_at, entries_of, eq-eqb, Facts, history_at, HistoryAct, HistoryEntry, IsAnswer, IsAnswerTo, Job, KeptTurn, Knowledge, slice_index_or}
use Rattle.turn_cell.specs.Knowing.{facts_of}
use Rattle.turn_cell.specs.Passes.{AreOwned}
use Rattle.turn_cell.specs.Placed.{HasNumber, IsSublist, added_by, by_session, placed}

abbrev pub Pair : Type 0
Pair = HistoryEntry × List HistoryEntry

-- an element of a list
abbrev pub In : {X : Type 0} → X → List X → Type 0
In x [] = ⊥
In x (y ∷ ys) = (x ≡ y) ⊎ In x ys

in_at : {X : Type 0} (xs : List X) (k : ℕ) (d : X) → k < length xs → In (slice_index_or xs k d) xs
in_at [] k d lt = absurd (omega (arith, lt))
in_at (x ∷ xs) zero d lt = inl refl
in_at (x ∷ xs) (suc k) d lt = inr (in_at xs k d (omega (arith, lt)))

all_in : {X : Type 0} (P : X → Type 0) (xs : List X) (x : X) → All P xs → In x xs → P x
all_in P [] x all is = absurd is
all_in P (y ∷ ys) x all (inl is) = subst P (sym is) (all 0 y (omega arith))
all_in P (y ∷ ys) x all (inr later) = all_in P ys x (λ k d lt. all (suc k) d (omega (arith, lt))) later

in_sublist : (xs ys : List Pair) (x : Pair) → IsSublist xs ys → In x xs → In x ys
in_sublist [] ys x sub is = absurd is
in_sublist (z ∷ zs) [] x sub is = absurd (cc sub)
in_sublist (z ∷ zs) (y ∷ ys) x (inl both) (inl is) = inl (is ∙ both.0)
in_sublist (z ∷ zs) (y ∷ ys) x (inl both) (inr later) = inr (in_sublist zs ys x both.1 later)
in_sublist (z ∷ zs) (y ∷ ys) x (inr sub) is = inr (in_sublist (z ∷ zs) ys x sub is)

in_session : (n : ℕ) (ps : List Pair) (p : Pair) → In p ps → p.0.caller.session ≡ n → In p (by_session n ps)
in_session n [] p is own = absurd is
in_session n (q ∷ qs) p (inl is) own =
    rw (eq-eqb q.0.caller.session n (sym (ap (λ (x : Pair). x.0.caller.session) is) ∙ own)) (inl is)
in_session n (q ∷ qs) p (inr later) own =
    cond_both (q.0.caller.session == n) (q ∷ by_session n qs) (by_session n qs) (In p)
    (λ _. inr (in_session n qs p later own)) (λ _. in_session n qs p later own)

in_placed : (before entries : List HistoryEntry) (p : Pair) → In p (placed before entries) → In p.0 entries
in_placed before [] p is = absurd is
in_placed before (e ∷ entries) p (inl is) = inl (ap (λ (x : Pair). x.0) is)
in_placed before (e ∷ entries) p (inr later) = inr (in_placed (before ++ e ∷ []) entries p later)

in_either : {X : Type 0} (xs ys : List X) (x : X) → In x (xs ++ ys) → In x xs ⊎ In x ys
in_either [] ys x is = inr is
in_either (z ∷ zs) ys x (inl is) = inl (inl is)
in_either (z ∷ zs) ys x (inr later) =
    elim (in_either zs ys x later) [ inl first ↦ inl (inr first) | inr second ↦ inr second ]

-- the turn that added an entry
adder : (turns : List KeptTurn) (p : Pair) → In p (added_by turns)
    → (t : KeptTurn) × In t turns × In p (placed (base t.drops (facts_of t.found)) t.added)
adder [] p is = absurd is
adder (t ∷ turns) p is =
    elim (in_either (placed (base t.drops (facts_of t.found)) t.added) (added_by turns) p is) [
      | inl here ↦ (t, inl refl, here)
      | inr later ↦ let found = adder turns p later in (found.0, inr found.1, found.2)
    ]

numbered : (n : ℕ) (passes : List Knowledge) → HasNumber n passes → (k : Knowledge) × In k passes × (k.number ≡ n)
numbered n [] is = absurd is
numbered n (k ∷ ks) (inl is) = (k, inl refl, is)
numbered n (k ∷ ks) (inr later) = let found = numbered n ks later in (found.0, inr found.1, found.2)

-- what one act adds stands behind the history, and is all that is called for there
called_there : (size : ℕ) (job : Job) (n : ℕ) (h : List HistoryEntry) (act : Option HistoryAct) (p : Pair)
    → In p (placed h (entries_of h job.moment (caller_of n job) act))
    → (p.1 ≡ h) × (entries_of h job.moment (caller_of n job) act ≡ p.0 ∷ [])
called_there size job n h None p is = absurd is
called_there size job n h (Some act) p (inl is) = (ap (λ (x : Pair). x.1) is, ap (λ (x : Pair). x.0 ∷ []) (sym is))
called_there size job n h (Some act) p (inr later) = absurd later

module _ (size : ℕ) (jobs : ℕ → List Job) where
  answer_in : (k : Knowledge) (p : Pair) → k.size ≡ size → p.0.caller.session ≡ k.number → AddsAnswers (jobs k.number) k → In p (added_by k.turns)
      → IsAnswer size jobs p
  answer_in k p sized own adds is =
      let t = adder k.turns p is in
      by_case t.0 t.2 (all_in (IsAnswerTo k.size k.number (jobs k.number)) k.turns t.0 adds t.1)
    where
      by_case : (t : KeptTurn) → In p (placed (history_at t) t.added) → IsAnswerTo k.size k.number (jobs k.number) t → IsAnswer size jobs p
      by_case t here (inl none) = absurd (subst (λ (es : List HistoryEntry). In p (placed (history_at t) es)) none here)
      by_case t here (inr is) =
          let job = is.0 in
          let there = called_there k.size job k.number (history_at t) (act_decided (decided_at (history_at t) k.size job.from job.octets)) p
          (subst (λ (es : List HistoryEntry). In p (placed (history_at t) es)) is.2 here) in (
            job,
            subst (λ (n : ℕ). Contains (jobs n) job) (sym own) is.1,
            (λ i. called_for (there.0 i) (sym sized i) job.from job.octets job.moment (caller_of (own i) job)) ∙ there.1,
          )

  pub are_answers : (start now : Facts) (passes : List Knowledge) → All (λ k. (k.size ≡ size) × AddsAnswers (jobs k.number) k) passes
      → (owned : AreOwned start now passes) → AreAnswers size jobs owned.stood owned.tail
  are_answers start now passes adds owned k d lt = answer (slice_index_or pairs k d) (in_at pairs k d lt)
    where
      pairs : List Pair
      pairs = placed owned.stood owned.tail

      answer : (p : Pair) → In p pairs → IsAnswer size jobs p
      answer p is =
          let who = numbered p.0.caller.session passes (all_in (λ e. HasNumber e.caller.session passes) owned.tail p.0 owned.numbers (in_placed owned.stood owned.tail p is)) in
          let has = all_in (λ k. (k.size ≡ size) × AddsAnswers (jobs k.number) k) passes who.0 adds who.1 in
          answer_in who.0 p has.0 (sym who.2) has.1
          (in_sublist (by_session who.0.number pairs) (added_by who.0.turns) p
          (all_in (λ k. IsSublist (by_session k.number pairs) (added_by k.turns)) passes who.0 owned.owns who.1)
          (in_session who.0.number pairs p is (sym who.2)))
