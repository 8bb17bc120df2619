-- How seats are split and joined.
use Rattle.std.proofs.Common.{◌≡◌, ◌≢◌, inl, inr, ⊎_elim, ℕ, zero, suc, ◌<◌, ◌==◌, Bool, List, [], ◌∷◌, ◌++◌, length, set, if◌then◌else◌, refl, sym, ap, ◌∙◌, subst, arith, eq-eqb, ne_eqb}
use Rattle.turn_cell.proofs.Names.{All, All-append, All-cons, All-head, All-nil, All-tail, All-weaker, at_last, at_longer, at_set, Course, dite, Facts, Fits, get_elem?, HasIt, HasNumber, HasTicket, HasValue, IsAway, IsHome, IsKept, Joins, Knowledge, newcomer, newcomers_from, Resting, seat, SeatView, set_else, set_here, some, Splits, ℕ_discrete}
use Rattle.std.proofs.Math.ListN.{length-set}
use Rattle.turn_cell.proofs.Courses.{stage_on}
use Rattle.turn_cell.proofs.Keeps.{R}
use Rattle.turn_cell.proofs.Lists.{all_both}
use Rattle.turn_cell.proofs.Seats.{at_snoc_place, has_left, has_right, inside, passes_more, passes_set, same_one}

-- newcomers behind a first number have greater ones
above : (start : Facts) (first n : ℕ) → All (λ (k : Knowledge). first < k.number) (newcomers_from start (suc first) n)
above start first n = from (suc first) n (omega arith)
  where
    from : (at n : ℕ) → first < at → All (λ (k : Knowledge). first < k.number) (newcomers_from start at n)
    from at zero below = All-nil (λ (k : Knowledge). first < k.number)
    from at (suc n) below = All-cons (λ (k : Knowledge). first < k.number) (newcomer at start) (newcomers_from start (suc at) n) below (from (suc at) n (omega arith))

module _ {V : Type 0} (told : Bool) (made : ℕ) (facts : V → Facts) (start : Facts) where
  -- a pass is given a seat of its own
  pub splits : (id first n : ℕ)
      → Splits (R told made facts start) id (seat Resting (newcomers_from start first (suc n))) (seat Resting (newcomers_from start (suc first) n)) (seat Resting (newcomer first start ∷ []))
  splits id first n s r at =
      let ks : List Knowledge = newcomers_from start (suc first) n in
      let m : Knowledge = newcomer first start in
      let d : SeatView = seat Resting (m ∷ ks) in
      let c : Course = r.0 in
      let k = r.1 in
      let left : SeatView = seat Resting ks in
      let right : SeatView = seat Resting (m ∷ []) in
      let fits = k.seats id d at in
      let mine = All-head (IsKept told made c id) m ks fits.passes in
      let here : ℕ = length s.views in
      let keeper : ℕ → ℕ = λ x. if x == first then here else c.keeper x in
      let c' : Course = record c { keeper = keeper } in
      let vs : List SeatView = set s.views id left in
      let within : id < here = inside s.views id d at in
      let stays : (x : ℕ) → x ≢ first → keeper x ≡ c.keeper x = λ x z. ap (λ (b : Bool). if b then here else c.keeper x) (ne_eqb x first z) in
      let moved : keeper first ≡ here = ap (λ (b : Bool). if b then here else c.keeper first) (eq-eqb first first refl) in
      let ticket_on : (j u : ℕ) → HasTicket c j u → HasTicket c' j u = λ j u h. record { comes = h.comes; was_drawn = h.was_drawn; own = h.own } in
      let value_on : (j u : ℕ) (f : Facts) → HasValue c j u f → HasValue c' j u f = λ j u f v. record { ticket = ticket_on j u v.ticket; turn = v.turn; now = v.now } in
      let kept_on : (j : ℕ) (x : Knowledge) → x.number ≢ first → IsKept told made c j x → IsKept told made c' j x = λ j x not h. record {
        keeper = stays x.number not ∙ h.keeper;
        number = h.number;
        legal = h.legal;
        owns = h.owns;
      } in
      let left_fits : Fits told made c' id left = record {
        stage = tt;
        passes = All-weaker (λ (x : Knowledge). (first < x.number) × IsKept told made c id x) (IsKept told made c' id)
            (λ (x : Knowledge) h. kept_on id x (λ (z : x.number ≡ first). let b = h.0 in absurd (omega arith)) h.1) ks
            (all_both (λ (x : Knowledge). first < x.number) (IsKept told made c id) ks (above start first n) (All-tail (IsKept told made c id) m ks fits.passes));
      } in
      let right_fits : Fits told made c' here right = record {
        stage = tt;
        passes = All-cons (IsKept told made c' here) m [] (record { keeper = moved; number = mine.number; legal = mine.legal; owns = mine.owns }) (All-nil (IsKept told made c' here));
      } in
      let old_seat : (j : ℕ) (e : SeatView) → get_elem? vs j ≡ some e → Fits told made c' j e = λ j e p. ⊎_elim
      (λ (z : (j ≡ id) × (left ≡ e)). subst (λ (x : ℕ × SeatView). Fits told made c' x.0 x.1) (λ i. (sym z.0 i, z.1 i)) left_fits)
      (λ (z : (j ≢ id) × (get_elem? s.views j ≡ some e)).
      let f = k.seats j e z.1 in
      record {
        stage = stage_on c c' j (ticket_on j) (value_on j) e.stage f.stage;
        passes = All-weaker (IsKept told made c j) (IsKept told made c' j)
            (λ (x : Knowledge) h. kept_on j x (λ (same : x.number ≡ first). z.0 (sym h.keeper ∙ ap c.keeper same ∙ mine.keeper)) h) e.passes f.passes;
      })
      (at_set s.views id j left e p) in (
        c',
        record {
          words = k.words;
          order = k.order;
          sound = k.sound;
          stands = k.stands;
          size = k.size;
          name = k.name;
          slot = ⊎_elim
              (λ (home : IsHome facts c.now s.homes s.views). inl (
                home.0,
                home.1,
                home.2,
                λ j e p it. ⊎_elim
                    (λ (q : get_elem? vs j ≡ some e). ⊎_elim
                    (λ (z : (j ≡ id) × (left ≡ e)). absurd (subst (λ (u : SeatView). HasIt u.stage) (sym z.1) it))
                    (λ (z : (j ≢ id) × (get_elem? s.views j ≡ some e)). home.3 j e z.1 it)
                    (at_set s.views id j left e q))
                    (λ (q : (j ≡ length vs) × (right ≡ e)). absurd (subst (λ (u : SeatView). HasIt u.stage) (sym q.1) it))
                    (at_snoc_place vs right e j p),
              ))
              (λ (out : IsAway facts s.homes s.views). let o = out.1 in
              let apart : o.0 ≢ id = λ (same : o.0 ≡ id).
              let e : o.1 ≡ d = same_one s.views id o.1 d (subst (λ (z : ℕ). get_elem? s.views z ≡ some o.1) same o.2) at in
              absurd (subst (λ (u : SeatView). HasIt u.stage) e o.3) in
              inr (out.0, (o.0, o.1, at_longer vs (right ∷ []) o.0 o.1 (set_else s.views id o.0 left apart ∙ o.2), o.3, o.4)))
              k.slot;
          seats = λ j e p. ⊎_elim
              (old_seat j e)
              (λ (q : (j ≡ length vs) × (right ≡ e)).
              let place : here ≡ j = sym (length-set s.views id left) ∙ sym q.0 in
              subst (λ (x : ℕ × SeatView). Fits told made c' x.0 x.1) (λ i. (place i, q.1 i)) right_fits)
              (at_snoc_place vs right e j p);
          count = let a = passes_more vs right in let b = passes_set s.views id d left at in let was = k.count in omega arith;
          each = λ x below. dite (ℕ_discrete x first)
              (λ (new : x ≡ first). (
                right,
                subst (λ (y : ℕ). get_elem? (vs ++ right ∷ []) (keeper y) ≡ some right) (sym new)
                    (subst (λ (j : ℕ). get_elem? (vs ++ right ∷ []) j ≡ some right) (sym moved) (at_last vs right here (length-set s.views id left))),
                inl (sym new),
              ))
              (λ (old : x ≢ first).
              let was = k.each x below in
              let same : keeper x ≡ c.keeper x = stays x old in
              dite (ℕ_discrete (c.keeper x) id)
              (λ (z : c.keeper x ≡ id).
              let e : was.0 ≡ d = same_one s.views id was.0 d (subst (λ (j : ℕ). get_elem? s.views j ≡ some was.0) z was.1) at in (
                left,
                subst (λ (j : ℕ). get_elem? (vs ++ right ∷ []) j ≡ some left) (sym (same ∙ z))
                    (at_longer vs (right ∷ []) id left (set_here s.views id left within)),
                ⊎_elim (λ (y : first ≡ x). absurd (old (sym y))) (λ (y : HasNumber x ks). y)
                    (subst (λ (u : SeatView). HasNumber x u.passes) e was.2),
              ))
              (λ (apart : c.keeper x ≢ id). (
                was.0,
                subst (λ (j : ℕ). get_elem? (vs ++ right ∷ []) j ≡ some was.0) (sym same)
                    (at_longer vs (right ∷ []) (c.keeper x) was.0 (set_else s.views id (c.keeper x) left apart ∙ was.1)),
                was.2,
              )));
        },
      )

  -- a pass is taken in again
  pub joins : (id : ℕ) (ks : List Knowledge) (other : ℕ) (n : Knowledge)
      → Joins (R told made facts start) id (seat Resting ks) other (seat Resting (n ∷ [])) (seat Resting (n ∷ ks)) (seat Resting [])
  joins id ks other n s r at apart there =
      let d : SeatView = seat Resting ks in
      let e : SeatView = seat Resting (n ∷ []) in
      let all : SeatView = seat Resting (n ∷ ks) in
      let spent : SeatView = seat Resting [] in
      let c : Course = r.0 in
      let k = r.1 in
      let desk = k.seats id d at in
      let vs : List SeatView = set s.views id all in
      let ws : List SeatView = set vs other spent in
      let was_there : get_elem? s.views other ≡ some e = sym (set_else s.views id other all apart) ∙ there in
      let gone = k.seats other e was_there in
      let keeper : ℕ → ℕ = λ m. if c.keeper m == other then id else c.keeper m in
      let c' : Course = record c { keeper = keeper } in
      let moved : (m : ℕ) → c.keeper m ≡ other → keeper m ≡ id = λ m z. ap (λ (b : Bool). if b then id else c.keeper m) (eq-eqb (c.keeper m) other z) in
      let stays : (m : ℕ) → c.keeper m ≢ other → keeper m ≡ c.keeper m = λ m z. ap (λ (b : Bool). if b then id else c.keeper m) (ne_eqb (c.keeper m) other z) in
      let ticket_on : (j u : ℕ) → HasTicket c j u → HasTicket c' j u = λ j u h. record { comes = h.comes; was_drawn = h.was_drawn; own = h.own } in
      let value_on : (j u : ℕ) (f : Facts) → HasValue c j u f → HasValue c' j u f = λ j u f v. record { ticket = ticket_on j u v.ticket; turn = v.turn; now = v.now } in
      let kept_on : (j : ℕ) → j ≢ other → (x : Knowledge) → IsKept told made c j x → IsKept told made c' j x = λ j not x h. record {
        keeper = stays x.number (λ (z : c.keeper x.number ≡ other). not (sym h.keeper ∙ z)) ∙ h.keeper;
        number = h.number;
        legal = h.legal;
        owns = h.owns;
      } in
      let kept_moved : (x : Knowledge) → IsKept told made c other x → IsKept told made c' id x = λ x h. record {
        keeper = moved x.number h.keeper;
        number = h.number;
        legal = h.legal;
        owns = h.owns;
      } in
      let id_else : id ≢ other = λ (z : id ≡ other). apart (sym z) in
      let all_fits : Fits told made c' id all = record {
        stage = tt;
        passes = All-append (IsKept told made c' id) (n ∷ []) ks
            (All-weaker (IsKept told made c other) (IsKept told made c' id) kept_moved (n ∷ []) gone.passes)
            (All-weaker (IsKept told made c id) (IsKept told made c' id) (kept_on id id_else) ks desk.passes);
      } in
      let here : get_elem? ws id ≡ some all = set_else vs other id spent id_else ∙ set_here s.views id all (inside s.views id d at) in
      let elsewhere : (j : ℕ) (x : SeatView) → j ≢ id → j ≢ other → get_elem? s.views j ≡ some x → get_elem? ws j ≡ some x =
      λ j x not_id not_other p. set_else vs other j spent not_other ∙ (set_else s.views id j all not_id ∙ p) in (
        c',
        record {
          words = k.words;
          order = k.order;
          sound = k.sound;
          stands = k.stands;
          size = k.size;
          name = k.name;
          slot = ⊎_elim
              (λ (home : IsHome facts c.now s.homes s.views). inl (
                home.0,
                home.1,
                home.2,
                λ j x p it. ⊎_elim
                    (λ (z : (j ≡ other) × (spent ≡ x)). absurd (subst (λ (u : SeatView). HasIt u.stage) (sym z.1) it))
                    (λ (z : (j ≢ other) × (get_elem? vs j ≡ some x)). ⊎_elim
                    (λ (y : (j ≡ id) × (all ≡ x)). absurd (subst (λ (u : SeatView). HasIt u.stage) (sym y.1) it))
                    (λ (y : (j ≢ id) × (get_elem? s.views j ≡ some x)). home.3 j x y.1 it)
                    (at_set s.views id j all x z.1))
                    (at_set vs other j spent x p),
              ))
              (λ (out : IsAway facts s.homes s.views). let o = out.1 in
              let not_id : o.0 ≢ id = λ (same : o.0 ≡ id).
              let z : o.1 ≡ d = same_one s.views id o.1 d (subst (λ (j : ℕ). get_elem? s.views j ≡ some o.1) same o.2) at in
              absurd (subst (λ (u : SeatView). HasIt u.stage) z o.3) in
              let not_other : o.0 ≢ other = λ (same : o.0 ≡ other).
              let z : o.1 ≡ e = same_one s.views other o.1 e (subst (λ (j : ℕ). get_elem? s.views j ≡ some o.1) same o.2) was_there in
              absurd (subst (λ (u : SeatView). HasIt u.stage) z o.3) in
              inr (out.0, (o.0, o.1, elsewhere o.0 o.1 not_id not_other o.2, o.3, o.4)))
              k.slot;
          seats = λ j x p. ⊎_elim
              (λ (z : (j ≡ other) × (spent ≡ x)). subst (λ (q : ℕ × SeatView). Fits told made c' q.0 q.1) (λ i. (sym z.0 i, z.1 i))
              (record { stage = tt; passes = All-nil (IsKept told made c' other) }))
              (λ (z : (j ≢ other) × (get_elem? vs j ≡ some x)). ⊎_elim
              (λ (y : (j ≡ id) × (all ≡ x)). subst (λ (q : ℕ × SeatView). Fits told made c' q.0 q.1) (λ i. (sym y.0 i, y.1 i)) all_fits)
              (λ (y : (j ≢ id) × (get_elem? s.views j ≡ some x)).
              let f = k.seats j x y.1 in
              record {
                stage = stage_on c c' j (ticket_on j) (value_on j) x.stage f.stage;
                passes = All-weaker (IsKept told made c j) (IsKept told made c' j) (kept_on j z.0) x.passes f.passes;
              })
              (at_set s.views id j all x z.1))
              (at_set vs other j spent x p);
          count = let a = passes_set s.views id d all at in let b = passes_set vs other e spent there in let was = k.count in omega arith;
          each = λ m below.
              let was = k.each m below in
              let j : ℕ = c.keeper m in
              dite (ℕ_discrete j other)
              (λ (z : j ≡ other).
              let same : was.0 ≡ e = same_one s.views other was.0 e (subst (λ (i : ℕ). get_elem? s.views i ≡ some was.0) z was.1) was_there in (
                all,
                subst (λ (i : ℕ). get_elem? ws i ≡ some all) (sym (moved m z)) here,
                has_left m (n ∷ []) ks (subst (λ (u : SeatView). HasNumber m u.passes) same was.2),
              ))
              (λ (not_other : j ≢ other). dite (ℕ_discrete j id)
              (λ (z : j ≡ id).
              let same : was.0 ≡ d = same_one s.views id was.0 d (subst (λ (i : ℕ). get_elem? s.views i ≡ some was.0) z was.1) at in (
                all,
                subst (λ (i : ℕ). get_elem? ws i ≡ some all) (sym (stays m not_other ∙ z)) here,
                has_right m (n ∷ []) ks (subst (λ (u : SeatView). HasNumber m u.passes) same was.2),
              ))
              (λ (not_id : j ≢ id). (
                was.0,
                subst (λ (i : ℕ). get_elem? ws i ≡ some was.0) (sym (stays m not_other)) (elsewhere j was.0 not_id not_other was.1),
                was.2,
              )));
        },
      )
