-- Each step on the words keeps the rule, and tells what it says.
use Rattle.std.proofs.Common.{◌≡◌, ◌≢◌, inl, inr, ⊎_elim, ℕ, ◌+◌, ◌<◌, ◌==◌, eqb, Bool, true, false, List, [], ◌∷◌, ◌++◌, get_or, set, if◌then◌else◌, refl, sym, ap, ◌∙◌, subst, arith, Option, Some, None, eq-eqb, ne_eqb}
use Rattle.turn_cell.proofs.Names.{Adds, after_turn, All, All-cons, All-head, All-nil, All-weaker, Allows, AreSound, at_set, Begins, called, Course, Did, dite, drew, either, Facts, facts_of, get_elem?, gives, HasIt, HasTicket, HistoryEntry, Holding, IsAway, IsHome, IsKept, IsLegal, IsOwnSession, IsPlaced, keeps, Knowledge, left, looked, none, Owes, Owns, Resting, Rule, Runs, Saw, seat, SeatView, set_here, settled, some, Standing, standing, Stands, State, step, stepped, takes, Waiting, WhereTold, ℕ_discrete}
use mathlib.Core.Option as maybe
use Rattle.turn_cell.proofs.Courses.{Brings, holds_served, reseat, same_state, stage_on, stays_somewhere}
use Rattle.turn_cell.proofs.Lists.{Entries}
use Rattle.turn_cell.proofs.Seats.{inside, same_one}
use Rattle.turn_cell.proofs.TurnLemmas.{cut_at, knowing, legal_on, legal_own, legal_seen, owns_on, owns_own, saw, stands_on}

-- a course with other tickets
abbrev ticketed : Course → ℕ → ℕ → (ℕ → ℕ) → Course
ticketed c drawn served holder = record c { drawn = drawn; served = served; holder = holder }

kept_ticketed : (told : Bool) (made : ℕ) (c : Course) (drawn served : ℕ) (holder : ℕ → ℕ) (j : ℕ) (ks : List Knowledge) → All (IsKept told made c j) ks → All (IsKept told made (ticketed c drawn served holder) j) ks
kept_ticketed told made c drawn served holder j ks h = All-weaker (IsKept told made c j) (IsKept told made (ticketed c drawn served holder) j)
    (λ (k : Knowledge) x. record { keeper = x.keeper; number = x.number; legal = x.legal; owns = x.owns }) ks h

module _ {V : Type 0} (told : Bool) (made : ℕ) (facts : V → Facts) (start : Facts) where
  abbrev pub R : State (Option V) SeatView → Type 0
  R = Rule told made facts start

  -- a ticket is drawn
  pub draws : (slots id next : ℕ) (ks : List Knowledge)
      → Allows R slots id (seat Resting ks, []) 0 (λ n. either (eqb n next) (next + 1) n) (drew (step slots 0 next (next + 1) none) (seat Resting ks, []))
  draws slots id next ks s r _ at _ =
      let d : SeatView = seat Resting ks in
      let x : ℕ = get_or s.words 0 0 in
      let c : Course = r.0 in
      let k = r.1 in
      let is : x ≡ c.drawn = ap (λ (ws : List ℕ). get_or ws 0 0) k.words in
      dite (ℕ_discrete x next)
      (λ (hit : x ≡ next).
      let holder : ℕ → ℕ = λ t. if t == next then id else c.holder t in
      let c' : Course = ticketed c (next + 1) c.served holder in
      let w : SeatView = seat (Waiting x) ks in
      let order = k.order in
      let drawn : c.drawn ≡ next = sym is ∙ hit in
      let old : (j t : ℕ) → HasTicket c j t → HasTicket c' j t = λ j t h.
      let below = h.was_drawn in
      record {
        comes = h.comes;
        was_drawn = omega arith;
        own = ap (λ (b : Bool). if b then id else c.holder t) (ne_eqb t next (λ e. omega arith)) ∙ h.own;
      } in
      let brings : Brings told made facts start c c' s id d w (set s.words 0 (next + 1)) s.homes = record {
        words_are = ap (λ (ws : List ℕ). set ws 0 (next + 1)) k.words;
        order = omega arith;
        sound = k.sound;
        stands = k.stands;
        size = k.size;
        name = k.name;
        slot = stays_somewhere facts c.now s.homes s.views id d w at (λ it. it) (λ it. it) refl k.slot;
        own = record {
          stage = record {
            comes = omega arith;
            was_drawn = omega arith;
            own = ap (λ (b : Bool). if b then id else c.holder x) (eq-eqb x next hit);
          };
          passes = kept_ticketed told made c (next + 1) c.served holder id ks (k.seats id d at).passes;
        };
        others = λ j e _ _ f. record {
          stage = stage_on c c' j (old j) (λ t g v. record { ticket = old j t v.ticket; turn = v.turn; now = v.now }) e.stage f.stage;
          passes = kept_ticketed told made c (next + 1) c.served holder j e.passes f.passes;
        };
        count = refl;
        numbers = λ n h. h;
        keeper = λ n. refl;
      } in (
        w,
        keeps,
        tt,
        subst (λ b. R (stepped s 0 (either b (next + 1) x) id [] w keeps)) (sym (eq-eqb x next hit))
            (c', reseat told made facts start c c' s k id d w (set s.words 0 (next + 1)) s.homes at brings),
        (λ _. refl, λ miss. absurd (miss hit)),
      ))
      (λ (miss : x ≢ next). (
        d,
        keeps,
        tt,
        subst (λ b. R (stepped s 0 (either b (next + 1) x) id [] d keeps)) (sym (ne_eqb x next miss)) (same_state told made facts start s 0 id [] d r at),
        (λ hit. absurd (miss hit), λ _. refl),
      ))

  -- nobody has the value where a seat waits with the ticket whose turn it is
  none_has : (c : Course) (s : State (Option V) SeatView) (k : Runs told made facts start c s) (id t : ℕ) (d : SeatView) → get_elem? s.views id ≡ some d → HasTicket c id t → t ≡ c.served
      → (HasIt d.stage → ⊥) → (j : ℕ) (e : SeatView) → get_elem? s.views j ≡ some e → HasIt e.stage → ⊥
  none_has c s k id t d at ticket turn not j e p it =
      let who : j ≡ id = sym (holds_served c j e.stage (k.seats j e p).stage it) ∙ ap c.holder (sym turn) ∙ ticket.own in
      let same : e ≡ d = same_one s.views id e d (subst (λ (z : ℕ). get_elem? s.views z ≡ some e) who p) at in
      not (subst (λ (z : SeatView). HasIt z.stage) same it)

  -- the turn comes
  pub calls : (slots id t : ℕ) (n : Knowledge)
      → Allows R slots id (seat (Waiting t) (n ∷ []), []) 1 (λ x. x) (called facts told made start (step slots 1 0 0 none) (seat (Waiting t) (n ∷ []), []))
  calls slots id t n s r _ at _ =
      let d : SeatView = seat (Waiting t) (n ∷ []) in
      let x : ℕ = get_or s.words 1 0 in
      let c : Course = r.0 in
      let k = r.1 in
      let is : x ≡ c.served = ap (λ (ws : List ℕ). get_or ws 1 0) k.words in
      let fits = k.seats id d at in
      dite (ℕ_discrete x t)
      (λ (hit : x ≡ t).
      let turn : t ≡ c.served = sym hit ∙ is in
      let free = none_has c s k id t d at fits.stage turn (λ it. it) in
      let mine = All-head (IsKept told made c id) n [] fits.passes in
      ⊎_elim
      (λ (home : IsHome facts c.now s.homes s.views).
      let v : V = home.0 in
      let w : SeatView = seat (Holding t (standing (facts v))) (n ∷ []) in
      let here : get_elem? (set s.views id w) id ≡ some w = set_here s.views id w (inside s.views id d at) in
      let brings : Brings told made facts start c c s id d w (set s.words 1 x) (set s.homes 0 none) = record {
        words_are = ap (λ (ws : List ℕ). set ws 1 x) k.words ∙ (λ i. c.drawn ∷ is i ∷ c.now.length ∷ []);
        order = k.order;
        sound = k.sound;
        stands = k.stands;
        size = k.size;
        name = k.name;
        slot = inr (ap (λ (hs : List (maybe.Option (Option V))). set hs 0 none) home.1, (id, w, here, tt, omega arith));
        own = record { stage = record { ticket = fits.stage; turn = turn; now = home.2 }; passes = fits.passes };
        others = λ j e _ _ f. f;
        count = refl;
        numbers = λ m h. h;
        keeper = λ m. refl;
      } in (
        w,
        takes 0 (Some v),
        ap (λ (hs : List (maybe.Option (Option V))). get_elem? hs 0) home.1,
        (c, reseat told made facts start c c s k id d w (set s.words 1 x) (set s.homes 0 none) at brings),
        (
          λ _. (
            v,
            refl,
            All-weaker (IsKept told made c id) (λ (m : Knowledge). IsLegal told m (facts v)) (λ (m : Knowledge) h. subst (IsLegal told m) (sym home.2) h.legal) (n ∷ []) fits.passes,
            subst (AreSound told) (sym home.2) k.sound,
            λ told_it. subst (λ (f : Facts). IsPlaced made start f n) (sym home.2)
                (record { number = mine.number; stood = c.stood; tail = c.tail; stands = k.stands told_it; owns = mine.owns told_it }),
          ),
          λ miss. absurd (miss hit),
        ),
      ))
      (λ (out : IsAway facts s.homes s.views). let o = out.1 in absurd (free o.0 o.1 o.2 o.3))
      k.slot)
      (λ (miss : x ≢ t). (d, keeps, tt, same_state told made facts start s 1 id [] d r at, (λ hit. absurd (miss hit), λ _. refl)))

  -- the value is put back
  pub leaves : (slots id t : ℕ) (v : V) (ks : List Knowledge)
      → Allows R slots id (seat (Holding t (standing (facts v))) ks, (0, Some v) ∷ []) 1 (λ _. t + 1)
      (λ _. left (step slots 1 (t + 1) 0 none) (seat (Holding t (standing (facts v))) ks, (0, Some v) ∷ []) (t + 1))
  leaves slots id t v ks s r _ at _ =
      let d : SeatView = seat (Holding t (standing (facts v))) ks in
      let c : Course = r.0 in
      let k = r.1 in
      let fits = k.seats id d at in
      let value = fits.stage in
      let ticket = value.ticket in
      let c' : Course = ticketed c c.drawn (t + 1) c.holder in
      let w : SeatView = seat Resting ks in
      let turn : t ≡ c.served = value.turn in
      let mine : c.holder t ≡ id = ticket.own in
      let below : t < c.drawn = ticket.was_drawn in
      let put : set s.homes 0 (some (Some v)) ≡ some (Some v) ∷ [] = ⊎_elim
      (λ (home : IsHome facts c.now s.homes s.views). ap (λ (hs : List (maybe.Option (Option V))). set hs 0 (some (Some v))) home.1)
      (λ (out : IsAway facts s.homes s.views). ap (λ (hs : List (maybe.Option (Option V))). set hs 0 (some (Some v))) out.0) k.slot in
      let old : (j u : ℕ) → j ≢ id → HasTicket c j u → HasTicket c' j u = λ j u apart h.
      let comes = h.comes in
      let other : u ≢ t = λ e. apart (sym h.own ∙ ap c.holder e ∙ mine) in
      record { comes = omega arith; was_drawn = h.was_drawn; own = h.own } in
      let none_else : (j : ℕ) (e : SeatView) → j ≢ id → get_elem? s.views j ≡ some e → HasIt e.stage → ⊥ = λ j e apart p it.
      apart (sym (holds_served c j e.stage (k.seats j e p).stage it) ∙ ap c.holder (sym turn) ∙ mine) in
      let brings : Brings told made facts start c c' s id d w (set s.words 1 (t + 1)) (set s.homes 0 (some (Some v))) = record {
        words_are = ap (λ (ws : List ℕ). set ws 1 (t + 1)) k.words;
        order = omega arith;
        sound = k.sound;
        stands = k.stands;
        size = k.size;
        name = k.name;
        slot = inl (
          v,
          put,
          value.now,
          λ j e p it. ⊎_elim
              (λ (z : (j ≡ id) × (w ≡ e)). subst (λ (u : SeatView). HasIt u.stage) (sym z.1) it)
              (λ (z : (j ≢ id) × (get_elem? s.views j ≡ some e)). none_else j e z.0 z.1 it)
              (at_set s.views id j w e p),
        );
        own = record { stage = tt; passes = kept_ticketed told made c c.drawn (t + 1) c.holder id ks fits.passes };
        others = λ j e apart p f. record {
          stage = stage_on c c' j (λ u. old j u apart)
              (λ u g h. absurd (apart (sym (h.ticket.own) ∙ ap c.holder (h.turn ∙ sym turn) ∙ mine))) e.stage f.stage;
          passes = kept_ticketed told made c c.drawn (t + 1) c.holder j e.passes f.passes;
        };
        count = refl;
        numbers = λ n h. h;
        keeper = λ n. refl;
      } in (
        w,
        gives,
        tt,
        (c', reseat told made facts start c c' s k id d w (set s.words 1 (t + 1)) (set s.homes 0 (some (Some v))) at brings),
        refl,
      )

  -- the length is seen
  pub looks : (slots id : ℕ) (n : Knowledge)
      → Allows R slots id (seat Resting (n ∷ []), []) 2 (λ x. x) (looked facts told (step slots 2 0 0 none) (seat Resting (n ∷ []), []))
  looks slots id n s r _ at _ =
      let d : SeatView = seat Resting (n ∷ []) in
      let x : ℕ = get_or s.words 2 0 in
      let c : Course = r.0 in
      let k = r.1 in
      let is : x ≡ c.now.length = ap (λ (ws : List ℕ). get_or ws 2 0) k.words in
      let mine = All-head (IsKept told made c id) n [] (k.seats id d at).passes in
      let n' : Knowledge = knowing told n c.now in
      let w : SeatView = seat Resting (n' ∷ []) in
      let brings : Brings told made facts start c c s id d w (set s.words 2 x) s.homes = record {
        words_are = ap (λ (ws : List ℕ). set ws 2 x) k.words ∙ (λ i. c.drawn ∷ c.served ∷ is i ∷ []);
        order = k.order;
        sound = k.sound;
        stands = k.stands;
        size = k.size;
        name = k.name;
        slot = stays_somewhere facts c.now s.homes s.views id d w at (λ it. it) (λ it. it) refl k.slot;
        own = record {
          stage = tt;
          passes = All-cons (IsKept told made c id) n' [] (record { keeper = mine.keeper; number = mine.number; legal = legal_seen told n c.now mine.legal; owns = mine.owns }) (All-nil (IsKept told made c id));
        };
        others = λ j e _ _ f. f;
        count = refl;
        numbers = λ m h. h;
        keeper = λ m. refl;
      } in (
        w,
        keeps,
        tt,
        (c, reseat told made facts start c c s k id d w (set s.words 2 x) s.homes at brings),
        (n', refl, subst (λ (z : ℕ). Saw told z n n') (sym is) (saw told n c.now mine.legal k.sound)),
      )

-- which entries stand behind a turn that added some
record Advances (told : Bool) (made : ℕ) (start : Facts) (c : Course) (found left : Facts) (n : ℕ) (drops : Bool) (added : Entries) : Type 0 where
  pub stood' : Entries
  pub tail' : Entries
  pub stands : WhereTold told (Stands made start left stood' tail')
  pub others : (k : Knowledge) → n ≢ k.number → WhereTold told (Owns c.stood c.tail k) → WhereTold told (Owns stood' tail' k)
  pub own : (k : Knowledge) → n ≡ k.number → WhereTold told (Owns c.stood c.tail k) → WhereTold told (Owns stood' tail' (after_turn k found left drops added))

advance : (told : Bool) (made : ℕ) (start : Facts) (c : Course) (found left : Facts) (session : Option ℕ) (n : ℕ) (drops : Bool) (added : Entries)
    → WhereTold told (Stands made start found c.stood c.tail) → WhereTold told (Begins found.firm found.list) → WhereTold told (Begins found.firm left.firm)
    → WhereTold told (Adds session found left drops added) → ((m : ℕ) → session ≡ Some m → m ≡ n) → n < made → Advances told made start c found left n drops added
advance false made start c found left session n drops added stands sound firm adds own below = record {
  stood' = c.stood;
  tail' = c.tail;
  stands = λ t. absurd (let e : false ≡ true = t in cc e);
  others = λ k apart o. o;
  own = λ k same o t. absurd (let e : false ≡ true = t in cc e);
}
advance true made start c found left session n drops added stands sound firm adds own below =
    let s = stands refl in
    let a = adds refl in
    let part = cut_at made start found c.stood c.tail s drops (sound refl) in
    record {
      stood' = part.stood';
      tail' = part.tail' ++ added;
      stands = λ _. stands_on made start found c.stood c.tail s left session n drops added (sound refl) a (firm refl) own below part;
      others = λ k apart o _. owns_on c.stood c.tail found left session n drops added a own part k apart (o refl);
      own = λ k same o _. owns_own c.stood c.tail found left session n drops added a own part k same (o refl);
    }

named_by : (session : Option ℕ) (k : Knowledge) → IsOwnSession session k → (m : ℕ) → session ≡ Some m → m ≡ k.number
named_by None k own m e = absurd (cc e)
named_by (Some x) k own m e = let same : x ≡ m = cc e in sym same ∙ own

-- the entries of a pass stand in their places behind a turn of its own
pub placed_on : (made : ℕ) (start found left : Facts) (session : Option ℕ) (k : Knowledge) (drops : Bool) (added : Entries)
    → IsPlaced made start found k → Begins found.firm found.list → Begins found.firm left.firm → Adds session found left drops added → IsOwnSession session k
    → IsPlaced made start left (after_turn k found left drops added)
placed_on made start found left session k drops added p sound firm adds own =
    let named = named_by session k own in
    let part = cut_at made start found p.stood p.tail p.stands drops sound in
    record {
      number = p.number;
      stood = part.stood';
      tail = part.tail' ++ added;
      stands = stands_on made start found p.stood p.tail p.stands left session k.number drops added sound adds firm named p.number part;
      owns = owns_own p.stood p.tail found left session k.number drops added adds named part k refl p.owns;
    }

module _ {V : Type 0} (told : Bool) (made : ℕ) (facts : V → Facts) (start : Facts) {T A : Type 0} (session : T → Option ℕ) (does : T → V → V → A → Bool → List HistoryEntry → Type 0)
    (turn : Option T) (value : Option V) (answer : Option A) where
  -- the length is raised, with what the turn left
  pub settles : (slots id t : ℕ) (f : Standing) (n : Knowledge) (v : V) (long : ℕ) → long ≡ (facts v).length → AreSound told (facts v) → Owes told (facts_of f) (facts v)
      → (did : Did facts told session does turn value answer (facts_of f) v) → IsOwnSession (session did.turn_is) n
      → Allows (R told made facts start) slots id (seat (Holding t f) (n ∷ []), (0, Some v) ∷ []) 2 (λ _. long)
      (λ _. settled facts told session does turn value answer (step slots 2 long 0 none) (seat (Holding t f) (n ∷ []), (0, Some v) ∷ []) long)
  settles slots id t f n v long is leaves owes did named s r _ at _ =
      let d : SeatView = seat (Holding t f) (n ∷ []) in
      let c : Course = r.0 in
      let k = r.1 in
      let fits = k.seats id d at in
      let it = fits.stage in
      let ticket = it.ticket in
      let found : Facts = facts_of f in
      let now : found ≡ c.now = it.now in
      let turn_is : t ≡ c.served = it.turn in
      let mine = All-head (IsKept told made c id) n [] fits.passes in
      let sound : AreSound told found = subst (AreSound told) (sym now) k.sound in
      let stands : WhereTold told (Stands made start found c.stood c.tail) = subst (λ (z : Facts). WhereTold told (Stands made start z c.stood c.tail)) (sym now) k.stands in
      let a = advance told made start c found (facts v) (session did.turn_is) n.number did.drops did.added stands sound.begins owes.firm did.adds (named_by (session did.turn_is) n named) mine.number in
      let c' : Course = record c { now = facts v; stood = a.stood'; tail = a.tail' } in
      let n' : Knowledge = after_turn n found (facts v) did.drops did.added in
      let w : SeatView = seat (Holding t (standing (facts v))) (n' ∷ []) in
      let ticket_on : (j u : ℕ) → HasTicket c j u → HasTicket c' j u = λ j u h. record { comes = h.comes; was_drawn = h.was_drawn; own = h.own } in
      let legal_of : (m : Knowledge) → IsLegal told m c.now → IsLegal told m found = λ m l. subst (IsLegal told m) (sym now) l in
      let none_else : (j : ℕ) → j ≢ id → c.holder c.served ≡ j → ⊥ = λ j apart who. apart (sym who ∙ ap c.holder (sym turn_is) ∙ ticket.own) in
      let brings : Brings told made facts start c c' s id d w (set s.words 2 long) s.homes = record {
        words_are = ap (λ (ws : List ℕ). set ws 2 long) k.words ∙ (λ i. c.drawn ∷ c.served ∷ is i ∷ []);
        order = k.order;
        sound = leaves;
        stands = a.stands;
        size = owes.size ∙ ap (λ (z : Facts). z.size) now ∙ k.size;
        name = owes.name ∙ ap (λ (z : Facts). z.name) now ∙ k.name;
        slot = ⊎_elim
            (λ (home : IsHome facts c.now s.homes s.views). absurd (home.3 id d at tt))
            (λ (gone : IsAway facts s.homes s.views). inr (gone.0, (id, w, set_here s.views id w (inside s.views id d at), tt, omega arith)))
            k.slot;
        own = record {
          stage = record { ticket = ticket_on id t ticket; turn = turn_is; now = refl };
          passes = All-cons (IsKept told made c' id) n' [] (record {
            keeper = mine.keeper;
            number = mine.number;
            legal = legal_own told n found (facts v) did.drops did.added (legal_of n mine.legal) owes sound leaves;
            owns = a.own n refl mine.owns;
          }) (All-nil (IsKept told made c' id));
        };
        others = λ j e apart p g. record {
          stage = stage_on c c' j (ticket_on j)
              (λ u h x. absurd (none_else j apart (ap c.holder (sym x.turn) ∙ x.ticket.own))) e.stage g.stage;
          passes = All-weaker (IsKept told made c j) (IsKept told made c' j)
              (λ (m : Knowledge) x. record {
                keeper = x.keeper;
                number = x.number;
                legal = legal_on told m found (facts v) (legal_of m x.legal) owes sound;
                owns = a.others m (λ (same : n.number ≡ m.number). apart (sym x.keeper ∙ ap c.keeper (sym same) ∙ mine.keeper)) x.owns;
              }) e.passes g.passes;
        };
        count = refl;
        numbers = λ m h. h;
        keeper = λ m. refl;
      } in (
        w,
        keeps,
        tt,
        (c', reseat told made facts start c c' s k id d w (set s.words 2 long) s.homes at brings),
        (v, did, refl, refl),
      )
