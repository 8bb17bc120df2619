-- What is known of a cell at first, and of one whose passes are all in one seat.
use Rattle.std.proofs.Common.{◌≡◌, ◌≢◌, inl, inr, ⊎_elim, ℕ, zero, suc, ◌+◌, ◌<◌, ◌≤◌, Bool, List, [], ◌∷◌, length, refl, sym, ap, ◌∙◌, subst, arith, Option, Some}
use Rattle.turn_cell.proofs.Names.{All, All-cons, All-nil, All-weaker, append-nil, AreSound, Course, dite, Ended, Facts, facts_of, Final, Fits, Follows, get_elem?, HasIt, HasNumber, HistoryEntry, IsAway, IsHome, IsKept, IsLegal, joined, KeptTurn, Knowledge, newcomer, newcomers, newcomers_from, opening, Owns, Resting, Rule, seat, Seated, SeatView, Seen, some, Stands, ℕ_discrete}
use mathlib.Core.Option as maybe
use Rattle.turn_cell.proofs.Lists.{begins_more, begins_self, begins_then}
use Rattle.turn_cell.proofs.Seats.{only_one, passes_at, passes_at_two, same_one}

some_number : (n : ℕ) (ks : List Knowledge) → HasNumber n ks → 0 < length ks
some_number n [] h = absurd h
some_number n (k ∷ ks) h = omega arith

long_from : (start : Facts) (first n : ℕ) → length (newcomers_from start first n) ≡ n
long_from start first zero = refl
long_from start first (suc n) = ap suc (long_from start (suc first) n)

numbers_from : (start : Facts) (first n m : ℕ) → m < n → HasNumber (first + m) (newcomers_from start first n)
numbers_from start first zero m below = absurd (omega arith)
numbers_from start first (suc n) zero below = inl (omega arith)
numbers_from start first (suc n) (suc m) below =
    inr (subst (λ (x : ℕ). HasNumber x (newcomers_from start (suc first) n)) (omega arith) (numbers_from start (suc first) n m (omega arith)))

-- what has happened to a cell at first
abbrev first_course : Facts → Course
first_course f = record {
  drawn = 0;
  served = 0;
  holder = λ t. 0;
  keeper = λ n. 0;
  now = f;
  stood = joined f;
  tail = [];
}

kept_from : (told : Bool) (made : ℕ) (f : Facts) (first n : ℕ) → first + n ≤ made → All (IsKept told made (first_course f) 0) (newcomers_from f first n)
kept_from told made f first zero within = All-nil (IsKept told made (first_course f) 0)
kept_from told made f first (suc n) within = All-cons (IsKept told made (first_course f) 0) (newcomer first f) (newcomers_from f (suc first) n)
    (record {
      keeper = refl;
      number = omega arith;
      legal = record { size = refl; since = omega arith; seen = omega arith; known = λ t. begins_self f.firm; turns = All-nil (λ (u : KeptTurn). Follows told (facts_of u.left) f) };
      owns = λ t. refl;
    })
    (kept_from told made f (suc first) n (omega arith))

module _ {V : Type 0} (told : Bool) (made : ℕ) (facts : V → Facts) where
  -- a cell at first
  pub begins_well : (v : V) (long : ℕ) → long ≡ (facts v).length → AreSound told (facts v)
      → Rule told made facts (facts v) (opening (0 ∷ 0 ∷ long ∷ []) (Some v ∷ []) (seat Resting (newcomers (facts v) made)))
  begins_well v long is sound =
      let f : Facts = facts v in
      let d : SeatView = seat Resting (newcomers f made) in
      let c : Course = first_course f in (
        c,
        record {
          words = λ i. 0 ∷ 0 ∷ is i ∷ [];
          order = omega arith;
          sound = sound;
          stands = λ t. record {
            whole = sym (append-nil (joined f));
            stood_is = begins_self (joined f);
            firm = begins_then f.firm f.list (joined f) (sound.begins t) (begins_more f.list f.torn);
            begins = begins_self f.firm;
            made_by = All-nil (λ (e : HistoryEntry). e.caller.session < made);
          };
          size = refl;
          name = refl;
          slot = inl (
            v,
            refl,
            refl,
            λ j x p it.
                let z = only_one d x j p in
                subst (λ (u : SeatView). HasIt u.stage) (sym z.1) it,
          );
          seats = λ j x p.
              let z = only_one d x j p in
              subst (λ (q : ℕ × SeatView). Fits told made c q.0 q.1) (λ i. (sym z.0 i, z.1 i))
              (record { stage = tt; passes = kept_from told made f 0 made (omega arith) });
          count = let h = long_from f 0 made in omega arith;
          each = λ n below.
              let same : 0 + n ≡ n = omega arith in
              (d, refl, subst (λ (x : ℕ). HasNumber x (newcomers_from f 0 made)) same (numbers_from f 0 made n below));
        },
      )

  pub begins_well_at : (v w : V) (long : ℕ) (xs : List (Option V)) → w ≡ v → xs ≡ Some v ∷ [] → long ≡ (facts v).length → AreSound told (facts v)
      → Rule told made facts (facts w) (opening (0 ∷ 0 ∷ long ∷ []) xs (seat Resting (newcomers (facts w) made)))
  begins_well_at v w long xs same slot is sound =
      subst (λ (u : V). Rule told made facts (facts u) (opening (0 ∷ 0 ∷ long ∷ []) xs (seat Resting (newcomers (facts u) made)))) (sym same)
      (subst (λ (ys : List (Option V)). Rule told made facts (facts v) (opening (0 ∷ 0 ∷ long ∷ []) ys (seat Resting (newcomers (facts v) made)))) (sym slot)
      (begins_well v long is sound))

  -- a cell whose passes are all in one seat
  pub ends : (start : Facts) (words : List ℕ) (xs : List (Option V)) (id : ℕ) (ks : List Knowledge) → made ≤ length ks
      → Final (Seen (Rule told made facts start) id (seat Resting ks)) words xs
      → (made ≡ length ks) × ((v : V) × (get_elem? xs 0 ≡ some (Some v)) × Ended told start (facts v) ks)
  ends start words xs id ks enough final =
      let s = final.0 in
      let d : SeatView = seat Resting ks in
      let at : get_elem? s.views id ≡ some d = final.1.1 in
      let c : Course = final.1.0.0 in
      let k = final.1.0.1 in
      let desk = k.seats id d at in
      let count = k.count in
      let most = passes_at s.views id d at in
      let same_count : made ≡ length ks = omega arith in
      -- no other seat has a pass
      let alone : (j : ℕ) (e : SeatView) → get_elem? s.views j ≡ some e → 0 < length e.passes → j ≡ id = λ j e p more. dite (ℕ_discrete j id)
      (λ (same : j ≡ id). same)
      (λ (apart : j ≢ id). let two = passes_at_two s.views id j d e (λ (z : id ≡ j). apart (sym z)) at p in absurd (omega arith)) in (
        same_count,
        ⊎_elim
            (λ (home : IsHome facts c.now s.homes s.views).
            let v : V = home.0 in
            let now : facts v ≡ c.now = home.2 in (
              v,
              final.4 0 (Some v) (ap (λ (hs : List (maybe.Option (Option V))). get_elem? hs 0) home.1),
              record {
                sound = subst (AreSound told) (sym now) k.sound;
                size = ap (λ (f : Facts). f.size) now ∙ k.size;
                name = ap (λ (f : Facts). f.name) now ∙ k.name;
                legal = All-weaker (IsKept told made c id) (λ (n : Knowledge). IsLegal told n (facts v)) (λ (n : Knowledge) h. subst (IsLegal told n) (sym now) h.legal) ks desk.passes;
                entries = λ t. record {
                  stood = c.stood;
                  tail = c.tail;
                  stands = subst (λ (n : ℕ). Stands n start (facts v) c.stood c.tail) same_count
                      (subst (λ (f : Facts). Stands made start f c.stood c.tail) (sym now) (k.stands t));
                  numbers = All-weaker (λ (e : HistoryEntry). e.caller.session < made) (λ (e : HistoryEntry). HasNumber e.caller.session ks)
                      (λ (e : HistoryEntry) (below : e.caller.session < made).
                      let was = k.each e.caller.session below in
                      let who : c.keeper e.caller.session ≡ id = alone (c.keeper e.caller.session) was.0 was.1 (some_number e.caller.session was.0.passes was.2) in
                      let same : was.0 ≡ d = same_one s.views id was.0 d (subst (λ (j : ℕ). get_elem? s.views j ≡ some was.0) who was.1) at in
                      subst (λ (u : SeatView). HasNumber e.caller.session u.passes) same was.2)
                      c.tail (k.stands t).made_by;
                  owns = All-weaker (IsKept told made c id) (Owns c.stood c.tail) (λ (n : Knowledge) h. h.owns t) ks desk.passes;
                };
              },
            ))
            (λ (out : IsAway facts s.homes s.views).
            let o = out.1 in
            let who : o.0 ≡ id = alone o.0 o.1 o.2 o.4 in
            let same : o.1 ≡ d = same_one s.views id o.1 d (subst (λ (j : ℕ). get_elem? s.views j ≡ some o.1) who o.2) at in
            absurd (subst (λ (u : SeatView). HasIt u.stage) same o.3))
            k.slot,
      )

  pub ends_at : (start : Facts) (words : List ℕ) (xs : List (Option V)) (id : ℕ) (m : Seated V) → m ≡ (seat Resting m.0.passes, []) → made ≤ length m.0.passes
      → Final (Seen (Rule told made facts start) id m.0) words xs
      → (made ≡ length m.0.passes) × ((v : V) × (get_elem? xs 0 ≡ some (Some v)) × Ended told start (facts v) m.0.passes)
  ends_at start words xs id m rests enough final =
      ends start words xs id m.0.passes enough (subst (λ (d : SeatView). Final (Seen (Rule told made facts start) id d) words xs) (ap (λ (z : Seated V). z.0) rests) final)
