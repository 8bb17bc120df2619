-- How a step on a running cell keeps its rule, where it changes what one seat knows.
use Rattle.std.proofs.Common.{◌≡◌, ◌≢◌, inl, inr, ⊎_elim, ℕ, ◌<◌, ◌≤◌, Bool, List, [], ◌∷◌, length, get_or, set, sym, ap, ◌∙◌, subst, arith, Option}
use Rattle.turn_cell.proofs.Names.{AreSound, at_set, Course, dite, Facts, facts_of, Fits, get_elem?, HasIt, HasNumber, HasTicket, HasValue, Holding, IsAtStage, IsSomewhere, keeps, Resting, Rule, Runs, SeatView, set_again, set_else, set_here, some, Stands, State, stepped, Waiting, WhereTold, ℕ_discrete}
use mathlib.Core.Option as maybe
use lib.Seq.{set-get_or}
use Rattle.turn_cell.proofs.Seats.{inside, same_one, passes_set}
use Rattle.turn_cell.specs.declared.knowing.Stage.{Stage}

-- who has the value has the ticket whose turn it is
pub holds_served : (c : Course) (j : ℕ) (stage : Stage) → IsAtStage c j stage → HasIt stage → c.holder c.served ≡ j
holds_served c j (Holding t f) at it = ap c.holder (sym at.turn) ∙ at.ticket.own
holds_served c j _ at it = absurd it

-- a stage stays as it is where what it rests on does
pub stage_on : (c c' : Course) (j : ℕ) → ((t : ℕ) → HasTicket c j t → HasTicket c' j t) → ((t : ℕ) (f : Facts) → HasValue c j t f → HasValue c' j t f)
    → (stage : Stage) → IsAtStage c j stage → IsAtStage c' j stage
stage_on c c' j tickets values Resting at = tt
stage_on c c' j tickets values (Waiting t) at = tickets t at
stage_on c c' j tickets values (Holding t f) at = values t (facts_of f) at

module _ {V : Type 0} (facts : V → Facts) where
  -- the value stays where it is
  pub stays_somewhere : (now : Facts) (homes : List (maybe.Option (Option V))) (views : List SeatView) (id : ℕ) (d d' : SeatView) → get_elem? views id ≡ some d
      → (HasIt d.stage → HasIt d'.stage) → (HasIt d'.stage → HasIt d.stage) → length d'.passes ≡ length d.passes
      → IsSomewhere facts now homes views → IsSomewhere facts now homes (set views id d')
  stays_somewhere now homes views id d d' at more less count (inl home) = inl (
    home.0,
    home.1,
    home.2,
    λ j e p it. ⊎_elim
        (λ (t : (j ≡ id) × (d' ≡ e)). home.3 id d at (less (subst (λ (z : SeatView). HasIt z.stage) (sym t.1) it)))
        (λ (t : (j ≢ id) × (get_elem? views j ≡ some e)). home.3 j e t.1 it)
        (at_set views id j d' e p),
  )
  stays_somewhere now homes views id d d' at more less count (inr out) = let o = out.1 in inr (
    out.0,
    dite (ℕ_discrete o.0 id)
        (λ (here : o.0 ≡ id).
        let same : o.1 ≡ d = same_one views id o.1 d (subst (λ (z : ℕ). get_elem? views z ≡ some o.1) here o.2) at in
        (id, d', set_here views id d' (inside views id d at), more (subst (λ (z : SeatView). HasIt z.stage) same o.3), subst (λ (n : ℕ). 0 < n) (ap (λ (z : SeatView). length z.passes) same ∙ sym count) o.4))
        (λ (else : o.0 ≢ id). (o.0, o.1, set_else views id o.0 d' else ∙ o.2, o.3, o.4)),
  )

module _ {V : Type 0} (told : Bool) (made : ℕ) (facts : V → Facts) (start : Facts) where
  abbrev pub St : Type 0
  St = State (Option V) SeatView

  -- a step that changes nothing
  pub same_state : (s : St) (i id : ℕ) (cs : List (ℕ × Option V)) (w : SeatView) → Rule told made facts start s → get_elem? s.views id ≡ some w
      → Rule told made facts start (stepped s i (get_or s.words i 0) id cs w keeps)
  same_state s i id cs w r at = subst (λ (z : St). Rule told made facts start z)
      (λ k. record { words = sym (set-get_or s.words i 0) k; homes = s.homes; views = sym (set_again s.views id w at) k }) r

  -- what a step brings, where the seat id had the view d and has the view d' afterwards
  pub record Brings (c c' : Course) (s : St) (id : ℕ) (d d' : SeatView) (words : List ℕ) (homes : List (maybe.Option (Option V))) : Type 0 where
    pub words_are : words ≡ c'.drawn ∷ c'.served ∷ c'.now.length ∷ []
    pub order : c'.served ≤ c'.drawn
    pub sound : AreSound told c'.now
    pub stands : WhereTold told (Stands made start c'.now c'.stood c'.tail)
    pub size : c'.now.size ≡ start.size
    pub name : c'.now.name ≡ start.name
    pub slot : IsSomewhere facts c'.now homes (set s.views id d')
    pub own : Fits told made c' id d'
    pub others : (j : ℕ) (e : SeatView) → j ≢ id → get_elem? s.views j ≡ some e → Fits told made c j e → Fits told made c' j e
    pub count : length d'.passes ≡ length d.passes
    pub numbers : (n : ℕ) → HasNumber n d.passes → HasNumber n d'.passes
    pub keeper : (n : ℕ) → c'.keeper n ≡ c.keeper n

  pub reseat : (c c' : Course) (s : St) (r : Runs told made facts start c s) (id : ℕ) (d d' : SeatView) (words : List ℕ) (homes : List (maybe.Option (Option V)))
      → get_elem? s.views id ≡ some d → Brings c c' s id d d' words homes
      → Runs told made facts start c' record { words = words; homes = homes; views = set s.views id d' }
  reseat c c' s r id d d' words homes at b = record {
    words = b.words_are;
    order = b.order;
    sound = b.sound;
    stands = b.stands;
    size = b.size;
    name = b.name;
    slot = b.slot;
    seats = λ j e p. ⊎_elim
        (λ (t : (j ≡ id) × (d' ≡ e)). subst (λ (x : ℕ × SeatView). Fits told made c' x.0 x.1) (λ i. (sym t.0 i, t.1 i)) b.own)
        (λ (t : (j ≢ id) × (get_elem? s.views j ≡ some e)). b.others j e t.0 t.1 (r.seats j e t.1))
        (at_set s.views id j d' e p);
    count = let h = passes_set s.views id d d' at in let same = b.count in let was = r.count in omega arith;
    each = λ n below.
        let was = r.each n below in
        subst (λ (j : ℕ). (e : SeatView) × (get_elem? (set s.views id d') j ≡ some e) × HasNumber n e.passes) (sym (b.keeper n))
        (dite (ℕ_discrete (c.keeper n) id)
        (λ (here : c.keeper n ≡ id).
        let same : was.0 ≡ d = same_one s.views id was.0 d (subst (λ (z : ℕ). get_elem? s.views z ≡ some was.0) here was.1) at in (
          d',
          subst (λ (z : ℕ). get_elem? (set s.views id d') z ≡ some d') (sym here) (set_here s.views id d' (inside s.views id d at)),
          b.numbers n (subst (λ (z : SeatView). HasNumber n z.passes) same was.2),
        ))
        (λ (else : c.keeper n ≢ id). (was.0, set_else s.views id (c.keeper n) d' else ∙ was.1, was.2)));
  }
