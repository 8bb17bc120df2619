-- The steps, as the calls that make them see their seats.
use Rattle.std.proofs.Common.{◌≡◌, ℕ, zero, suc, ◌+◌, ◌-◌, ◌<◌, eqb, Bool, List, [], ◌∷◌, ◌++◌, append_assoc, sym, ap, ◌∙◌, subst, arith, Option, Some, None}
use Rattle.turn_cell.proofs.Names.{after_turn, All, All-cons, All-head, All-nil, All-push, All-tail, Allows, AreIn, AreNew, AreSound, behind_first, both, called, Did, drew, either, Facts, facts_of, first_alone, first_of, FoundInPlace, HasCome, HasTaken, HistoryEntry, Holding, IsLegal, IsOwnSession, IsPassIn, IsPlaced, IsSettled, Joins, kept, KeptTurn, Knowledge, knowledge, left, looked, newcomer, newcomers_from, none, Owes, Pass, rest, Resting, seat, Seated, SeatView, settled, Splits, Standing, standing, Step, step, Took, Waiting, WhereTold, without_first}
use mathlib.Core.List.{map-append}
use Rattle.atomic_table.specs.Seated.{TableId}
use Rattle.turn_cell.proofs.Joins.{joins, splits}
use Rattle.turn_cell.proofs.Keeps.{R, calls, draws, leaves, looks, placed_on, settles}
use Rattle.turn_cell.proofs.Lists.{all_first, head_of}
use Rattle.turn_cell.proofs.TurnLemmas.{legal_own}

module _ {V : Type 0} (told : Bool) (made : ℕ) (facts : V → Facts) (start : Facts) where
  pub draws_at : (slots id next : ℕ) (ks : List Knowledge) (me : Seated V) → me ≡ (seat Resting ks, [])
      → Allows (R told made facts start) slots id me 0 (λ n. either (eqb n next) (next + 1) n) (drew (step slots 0 next (next + 1) none) me)
  draws_at slots id next ks me is =
      subst (λ (m : Seated V). Allows (R told made facts start) slots id m 0 (λ n. either (eqb n next) (next + 1) n) (drew (step slots 0 next (next + 1) none) m)) (sym is)
      (draws told made facts start slots id next ks)

  pub calls_at : (slots id t : ℕ) (n : Knowledge) (me : Seated V) (many : ℕ) (first : Facts) → many ≡ made → first ≡ start → me ≡ (seat (Waiting t) (n ∷ []), [])
      → Allows (R told made facts start) slots id me 1 (λ x. x) (called facts told many first (step slots 1 0 0 none) me)
  calls_at slots id t n me many first as_made as_first is =
      subst (λ (m : Seated V). Allows (R told made facts start) slots id m 1 (λ x. x) (called facts told many first (step slots 1 0 0 none) m)) (sym is)
      (subst (λ (k : ℕ). Allows (R told made facts start) slots id waits 1 (λ x. x) (called facts told k first (step slots 1 0 0 none) waits)) (sym as_made)
      (subst (λ (f : Facts). Allows (R told made facts start) slots id waits 1 (λ x. x) (called facts told made f (step slots 1 0 0 none) waits)) (sym as_first)
      (calls told made facts start slots id t n)))
    where
      waits : Seated V
      waits = (seat (Waiting t) (n ∷ []), [])

  pub leaves_at : (slots id t : ℕ) (v : V) (ks : List Knowledge) (me : Seated V) → me ≡ (seat (Holding t (standing (facts v))) ks, (0, Some v) ∷ [])
      → Allows (R told made facts start) slots id me 1 (λ _. t + 1) (λ _. left (step slots 1 (t + 1) 0 none) me (t + 1))
  leaves_at slots id t v ks me is =
      subst (λ (m : Seated V). Allows (R told made facts start) slots id m 1 (λ _. t + 1) (λ _. left (step slots 1 (t + 1) 0 none) m (t + 1))) (sym is) (leaves told made facts start slots id t v ks)

  pub looks_at : (slots id : ℕ) (n : Knowledge) (me : Seated V) → me ≡ (seat Resting (n ∷ []), [])
      → Allows (R told made facts start) slots id me 2 (λ x. x) (looked facts told (step slots 2 0 0 none) me)
  looks_at slots id n me is =
      subst (λ (m : Seated V). Allows (R told made facts start) slots id m 2 (λ x. x) (looked facts told (step slots 2 0 0 none) m)) (sym is) (looks told made facts start slots id n)

  pub splits_at : (id first n : ℕ) (d : SeatView) → d ≡ seat Resting (newcomers_from start first (suc n)) → Splits (R told made facts start) id d (without_first d) (first_alone d)
  splits_at id first n d is = subst (λ (e : SeatView). Splits (R told made facts start) id e (without_first e) (first_alone e)) (sym is) (splits told made facts start id first n)

  pub splits_next : (id first count : ℕ) (d : SeatView) → first < count → d ≡ seat Resting (newcomers_from start first (count - first)) → Splits (R told made facts start) id d (without_first d) (first_alone d)
  splits_next id first count d below is =
      let more : count - first ≡ suc (count - first - 1) = omega arith in
      splits_at id first (count - first - 1) d (is ∙ ap (λ (n : ℕ). seat Resting (newcomers_from start first n)) more)

  pub joins_at : (id : ℕ) (ks : List Knowledge) (other : ℕ) (n : Knowledge) (d e : SeatView) → d ≡ seat Resting ks → e ≡ seat Resting (n ∷ [])
      → Joins (R told made facts start) id d other e (both d e) (seat Resting [])
  joins_at id ks other n d e is that =
      subst (λ (x : SeatView). Joins (R told made facts start) id x other e (both x e) (seat Resting [])) (sym is)
      (subst (λ (x : SeatView). Joins (R told made facts start) id (seat Resting ks) other x (both (seat Resting ks) x) (seat Resting [])) (sym that)
      (joins told made facts start id ks other n))

  module _ {T A : Type 0} (session : T → Option ℕ) (does : T → V → V → A → Bool → List HistoryEntry → Type 0) (turn : Option T) (value : Option V) (answer : Option A) where
    pub settles_at : (slots id t : ℕ) (f : Standing) (n : Knowledge) (v : V) (long : ℕ) (me : Seated V) → me ≡ (seat (Holding t f) (n ∷ []), (0, Some v) ∷ []) → long ≡ (facts v).length
        → AreSound told (facts v) → Owes told (facts_of f) (facts v) → (did : Did facts told session does turn value answer (facts_of f) v) → IsOwnSession (session did.turn_is) n
        → Allows (R told made facts start) slots id me 2 (λ _. long) (λ _. settled facts told session does turn value answer (step slots 2 long 0 none) me long)
    settles_at slots id t f n v long me is same leaves owes did own =
        subst (λ (m : Seated V). Allows (R told made facts start) slots id m 2 (λ _. long) (λ _. settled facts told session does turn value answer (step slots 2 long 0 none) m long)) (sym is)
        (settles told made facts start session does turn value answer slots id t f n v long same leaves owes did own)

module _ {V : Type 0} (told : Bool) (facts : V → Facts) {T A : Type 0} (session : T → Option ℕ) (does : T → V → V → A → Bool → List HistoryEntry → Type 0) (turn : Option T) (value : Option V) (answer : Option A) where
  -- what a step that settles tells
  pub settled_is : (s : Step (Option V)) (t : ℕ) (f : Facts) (n : Knowledge) (v : V) (long : ℕ) (me me' : Seated V) → me ≡ (seat (Holding t (standing f)) (n ∷ []), (0, Some v) ∷ [])
      → settled facts told session does turn value answer s me long me' → IsSettled facts told session does turn value answer t f n v me'
  settled_is s t f n v long me me' is st = by_value (subst (λ (m : Seated V). settled facts told session does turn value answer s m long me') is st)
    where
      by_value : settled facts told session does turn value answer s (seat (Holding t (standing f)) (n ∷ []), (0, Some v) ∷ []) long me'
          → IsSettled facts told session does turn value answer t f n v me'
      by_value h =
          let x : V = h.0 in
          let d : Did facts told session does turn value answer f x = h.1 in
          let slot : ◌≡◌ {A = List (ℕ × Option V)} ((0, Some v) ∷ []) ((0, Some x) ∷ []) = h.2 in
          let e : Some v ≡ Some x = ap (λ (l : List (ℕ × Option V)). (head_of (0, None) l).1) slot in
          let same : v ≡ x = cc e in
          let after : first_of me'.0.passes ≡ after_turn n f (facts x) d.drops d.added = ap (λ (m : Seated V). first_of m.0.passes) h.3 in
          subst (λ (y : V). IsSettled facts told session does turn value answer t f n y me') (sym same)
          (record {
            did = d;
            after = after;
            is_left = h.3 ∙ (λ i. (seat (Holding t (standing (facts x))) (sym after i ∷ []), (0, Some (same i)) ∷ []));
          })

-- the slot that a seat has
pub has_slot : {S : Type 0} (l : List (ℕ × S)) (x : S) → l ≡ (0, x) ∷ [] → l ≡ (0, x) ∷ rest l
has_slot l x e = e ∙ (λ i. (0, x) ∷ rest (sym e i))

pub slot_is : {S : Type 0} (l : List (ℕ × S)) (x y : S) → l ≡ (0, x) ∷ [] → l ≡ (0, y) ∷ rest l → y ≡ x
slot_is {S} l x y e f = ap (λ (m : List (ℕ × S)). (head_of (0, y) m).1) (sym f ∙ e)

module _ {V A : Type 0} (told : Bool) (facts : V → Facts) (session : Option ℕ) (does : V → V → A → Bool → List HistoryEntry → Type 0) where
  -- a turn that was taken with a value that may come to it
  pub took_is : (made : ℕ) (start : Facts) (ticket : ℕ) (x : V) (answer : A) (m0 m1 m2 : Seated V) → HasCome facts told made start ticket m0 → m0.1 ≡ (0, Some x) ∷ rest m0.1 → m1.0 ≡ m0.0
      → HasTaken facts told session does ticket x (first_of m1.0.passes) answer m2
      → Took told facts session does (first_of m0.0.passes) answer (first_of m2.0.passes)
  took_is made start ticket x answer m0 m1 m2 comes slot mid taken =
      let v : V = comes.0 in
      let here : m0.1 ≡ (0, Some v) ∷ [] = ap (λ (m : Seated V). m.1) comes.1 in
      let is : Some x ≡ Some v = slot_is m0.1 (Some v) (Some x) here slot in
      let same : x ≡ v = cc is in
      let know : first_of m1.0.passes ≡ first_of m0.0.passes = ap (λ (d : SeatView). first_of d.passes) mid in
      record {
        found = x;
        left = taken.left;
        drops = taken.drops;
        added = taken.added;
        sound = (subst (λ (y : V). AreSound told (facts y)) (sym same) comes.3, taken.sound);
        legal = subst (λ (y : V). IsLegal told (first_of m0.0.passes) (facts y)) (sym same) (All-head (λ (k : Knowledge). IsLegal told k (facts v)) (first_of m0.0.passes) [] comes.2);
        owes = taken.owes;
        adds = taken.adds;
        does_so = taken.does_so;
        kept = taken.after ∙ ap (λ (k : Knowledge). after_turn k (facts x) (facts taken.left) taken.drops taken.added) know;
      }

  -- which found the entries of its pass in their places
  pub placed_is : (made : ℕ) (start : Facts) (ticket : ℕ) (x : V) (answer : A) (m0 m1 m2 : Seated V) → HasCome facts told made start ticket m0 → m0.1 ≡ (0, Some x) ∷ rest m0.1 → m1.0 ≡ m0.0
      → HasTaken facts told session does ticket x (first_of m1.0.passes) answer m2
      → WhereTold told (FoundInPlace made start (first_of m0.0.passes) (first_of m2.0.passes))
  placed_is made start ticket x answer m0 m1 m2 comes slot mid taken told_it =
      let v : V = comes.0 in
      let here : m0.1 ≡ (0, Some v) ∷ [] = ap (λ (m : Seated V). m.1) comes.1 in
      let is : Some x ≡ Some v = slot_is m0.1 (Some v) (Some x) here slot in
      let same : x ≡ v = cc is in
      let turn : KeptTurn = kept (facts x) (facts taken.left) taken.drops taken.added in
      record {
        turn = turn;
        one_more = ap (λ (k : Knowledge). k.turns) taken.after ∙ ap (λ (d : SeatView). (first_of d.passes).turns ++ turn ∷ []) mid;
        placed = subst (λ (y : V). IsPlaced made start (facts y) (first_of m0.0.passes)) (sym same) (comes.4 told_it);
      }

  -- behind which the seat has a value that may come to a turn more
  pub comes_again : (made : ℕ) (start : Facts) (ticket : ℕ) (x : V) (answer : A) (m0 m1 m2 : Seated V) → HasCome facts told made start ticket m0 → m0.1 ≡ (0, Some x) ∷ rest m0.1 → m1.0 ≡ m0.0
      → IsOwnSession session (first_of m0.0.passes) → HasTaken facts told session does ticket x (first_of m1.0.passes) answer m2
      → HasCome facts told made start ticket m2
  comes_again made start ticket x answer m0 m1 m2 comes slot mid own taken =
      let v : V = comes.0 in
      let here : m0.1 ≡ (0, Some v) ∷ [] = ap (λ (m : Seated V). m.1) comes.1 in
      let is : Some x ≡ Some v = slot_is m0.1 (Some v) (Some x) here slot in
      let same : x ≡ v = cc is in
      let before : Knowledge = first_of m0.0.passes in
      let left : Facts = facts taken.left in
      let sound : AreSound told (facts x) = subst (λ (y : V). AreSound told (facts y)) (sym same) comes.3 in
      let legal : IsLegal told before (facts x) =
      subst (λ (y : V). IsLegal told before (facts y)) (sym same) (All-head (λ (k : Knowledge). IsLegal told k (facts v)) before [] comes.2) in
      let after : first_of m2.0.passes ≡ after_turn before (facts x) left taken.drops taken.added =
      taken.after ∙ ap (λ (d : SeatView). after_turn (first_of d.passes) (facts x) left taken.drops taken.added) mid in (
        taken.left,
        taken.is_left,
        All-cons (λ (k : Knowledge). IsLegal told k left) (first_of m2.0.passes) []
            (subst (λ (k : Knowledge). IsLegal told k left) (sym after)
            (legal_own told before (facts x) left taken.drops taken.added legal taken.owes sound taken.sound)) (All-nil (λ (k : Knowledge). IsLegal told k left)),
        taken.sound,
        λ told_it. subst (λ (k : Knowledge). IsPlaced made start left k) (sym after)
            (placed_on made start (facts x) left session before taken.drops taken.added (subst (λ (y : V). IsPlaced made start (facts y) before) (sym same) (comes.4 told_it))
            (sound.begins told_it) (taken.owes.firm told_it) (taken.adds told_it) own),
      )

-- what all of a list are, its last is
all_last : {X : Type 0} (P : X → Type 0) (xs : List X) (x : X) → All P (xs ++ x ∷ []) → P x
all_last P [] x h = All-head P x [] h
all_last P (y ∷ xs) x h = all_last P xs x (All-tail P y (xs ++ x ∷ []) h)

pub is_in : (table : TableId) (all now left behind : List Pass) (pass : Pass) → AreIn table all → all ≡ now ++ behind → now ≡ left ++ pass ∷ [] → IsPassIn table pass
is_in table all now left behind pass h split last =
    all_last (IsPassIn table) left pass (subst (All (IsPassIn table)) last (all_first (IsPassIn table) now behind (subst (All (IsPassIn table)) split h)))

pub one_behind : (all now left behind : List Pass) (pass : Pass) → all ≡ now ++ behind → now ≡ left ++ pass ∷ [] → all ≡ left ++ (pass ∷ behind)
one_behind all now left behind pass split last = split ∙ ap (λ (l : List Pass). l ++ behind) last ∙ append_assoc left (pass ∷ []) behind

-- newcomers, with one more
newcomers_more : (start : Facts) (first n : ℕ) → newcomers_from start first (suc n) ≡ newcomers_from start first n ++ newcomer (first + n) start ∷ []
newcomers_more start first zero = ap (λ (x : ℕ). newcomer x start ∷ []) (omega arith)
newcomers_more start first (suc n) = ap (λ (l : List Knowledge). newcomer first start ∷ l)
    (newcomers_more start (suc first) n ∙ ap (λ (x : ℕ). newcomers_from start (suc first) n ++ newcomer x start ∷ []) (omega arith))

pub next_first : (start : Facts) (first count : ℕ) → first < count → first_of (newcomers_from start first (count - first)) ≡ newcomer first start
next_first start first count below =
    let more : count - first ≡ suc (count - first - 1) = omega arith in
    ap (λ (n : ℕ). first_of (newcomers_from start first n)) more

pub next_rest : (start : Facts) (first count : ℕ) → first < count → behind_first (newcomers_from start first (count - first)) ≡ newcomers_from start (first + 1) (count - (first + 1))
next_rest start first count below =
    let more : count - first ≡ suc (count - (first + 1)) = omega arith in
    let one : suc first ≡ first + 1 = omega arith in
    ap (λ (n : ℕ). behind_first (newcomers_from start first n)) more ∙ ap (λ (m : ℕ). newcomers_from start m (count - (first + 1))) one

pub new_more : (table : TableId) (start : Facts) (n : ℕ) (passes : List Pass) (pass : Pass) → AreNew table start n passes → IsPassIn table pass → knowledge pass ≡ newcomer n start
    → AreNew table start (n + 1) (passes ++ pass ∷ [])
new_more table start n passes pass new own know =
    let more : newcomers_from start 0 (suc n) ≡ newcomers_from start 0 n ++ newcomer n start ∷ [] =
    newcomers_more start 0 n ∙ ap (λ (x : ℕ). newcomers_from start 0 n ++ newcomer x start ∷ []) (omega arith) in
    let one : suc n ≡ n + 1 = omega arith in
    subst (λ (m : ℕ). AreNew table start m (passes ++ pass ∷ [])) one (
      All-push (IsPassIn table) passes pass new.0 own,
      map-append knowledge passes (pass ∷ []) ∙ (λ i. new.1 i ++ know i ∷ []) ∙ sym more,
    )
