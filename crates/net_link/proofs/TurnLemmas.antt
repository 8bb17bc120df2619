-- Tallies of turns by addresses, of which one is raised.
use Rattle.std.proofs.Common.{◌≡◌, ◌≢◌, ◌⊎◌, ⊎_elim, inl, inr, ℕ, ◌+◌, ◌-◌, ◌^◌, ◌<◌, ◌==◌, ◌&&◌, Bool, true, false, true≢false, if◌then◌else◌, List, length, get_or, set, map, sym, ap, ◌∙◌, arith}
use Rattle.std.proofs.lemmas.Bool.{cases_lt}
use Rattle.std.proofs.lemmas.Bool.Decides.{eqb_tells}
use Rattle.std.proofs.lemmas.List.{get_or-map, map-set, set-get_or}
use Rattle.std.proofs.lemmas.List.Sums.{get_or-le-sum_by, sum_by-set}
use Rattle.gw_base.specs.declared.address.Addr.{Addr}
use Rattle.net_link.specs.declared.turns.Tally.{Tally}
use Rattle.net_link.specs.Datagrams.{added}
use Rattle.net_link.specs.Making.{RoseBy}
use Rattle.net_link.specs.Turns.{CountsMore, is_at, place_of, raised, turns_at, turns_in}

-- this answer of the test of two addresses tells whether they are equal
abbrev Tells : Addr → Addr → Bool → Type 0
Tells a b answer = ((answer ≡ true) × (a ≡ b)) ⊎ ((answer ≡ false) × (a ≢ b))

at_tells : (a b : Addr) → Tells a b (is_at a b)
at_tells a b = ⊎_elim same_ip other_ip (eqb_tells a.ip b.ip)
  where
    other_ip : ((a.ip == b.ip) ≡ false) × (a.ip ≢ b.ip) → Tells a b (is_at a b)
    other_ip off = inr (
      ap (λ t. t && (a.port == b.port)) off.0,
      λ same. off.1 (ap (λ (n : Addr). n.ip) same),
    )

    same_ip : ((a.ip == b.ip) ≡ true) × (a.ip ≡ b.ip) → Tells a b (is_at a b)
    same_ip here =
        let left : is_at a b ≡ (a.port == b.port) = ap (λ t. t && (a.port == b.port)) here.0 in
        ⊎_elim
        (λ both. inl (left ∙ both.0, λ i. record { ip = here.1 i; port = both.1 i }))
        (λ off. inr (left ∙ off.0, λ same. off.1 (ap (λ (n : Addr). n.port) same)))
        (eqb_tells a.port b.port)

pub at_same : (a b : Addr) → is_at a b ≡ true → a ≡ b
at_same a b is = ⊎_elim (λ here. here.1) (λ off. absurd (true≢false (sym is ∙ off.0))) (at_tells a b)

pub at_apart : (a b : Addr) → is_at a b ≡ false → a ≢ b
at_apart a b is = ⊎_elim (λ here. absurd (true≢false (sym here.0 ∙ is))) (λ off. off.1) (at_tells a b)

pub is_at_same : (a b : Addr) → a ≡ b → is_at a b ≡ true
is_at_same a b same = ⊎_elim (λ here. here.0) (λ off. absurd (off.1 same)) (at_tells a b)

pub is_at_other : (a b : Addr) → a ≢ b → is_at a b ≡ false
is_at_other a b other = ⊎_elim (λ here. absurd (other here.1)) (λ off. off.0) (at_tells a b)

-- what a tally of an address counts for it, and for another
turns_own : (a : Addr) (tally : Tally) → tally.at ≡ a → turns_in a tally ≡ tally.turns
turns_own a tally here = ap (λ t. if t then tally.turns else 0) (is_at_same a tally.at (sym here))

turns_other : (a : Addr) (tally : Tally) → a ≢ tally.at → turns_in a tally ≡ 0
turns_other a tally other = ap (λ t. if t then tally.turns else 0) (is_at_other a tally.at other)

-- One tally is raised: then the turns at its address are more, those at others are the same, and so are the addresses.
module _ (tallies : List Tally) (place : ℕ) (none : Tally) (more : ℕ) (within : place < length tallies) where
  abbrev tally : Tally
  tally = get_or tallies place none

  turns_raised : (at : Addr) → tally.at ≡ at →
      turns_at at (set tallies place (raised tally more)) ≡ added (turns_at at tallies) more
  turns_raised at here =
      let f : Tally → ℕ = turns_in at in
      omega (
        arith,
        sum_by-set f tallies place (raised tally more) none within,
        get_or-le-sum_by f tallies place none within,
        turns_own at tally here,
        turns_own at (raised tally more) here,
      )

  turns_elsewhere : (a : Addr) → a ≢ tally.at → turns_at a (set tallies place (raised tally more)) ≡ turns_at a tallies
  turns_elsewhere a other =
      let f : Tally → ℕ = turns_in a in
      omega (
        arith,
        sum_by-set f tallies place (raised tally more) none within,
        turns_other a tally other,
        turns_other a (raised tally more) other,
      )

  places_stay : map place_of (set tallies place (raised tally more)) ≡ map place_of tallies
  places_stay =
      let there : get_or (map place_of tallies) place tally.at ≡ tally.at =
      get_or-map place_of tallies place none tally.at within in
      map-set place_of tallies place (raised tally more)
      ∙ ap (λ (a : Addr). set (map place_of tallies) place a) (sym there)
      ∙ set-get_or (map place_of tallies) place tally.at

  pub counts_more : (at : Addr) → tally.at ≡ at → CountsMore at more tallies (set tallies place (raised tally more))
  counts_more at here = record {
    places = places_stay;
    turns = turns_raised at here;
    others = λ a other. turns_elsewhere a (λ same. other (same ∙ here));
  }

-- a count that another is added to rose by it
pub rose : (before more after : ℕ) → after ≡ added before more → RoseBy before more after
rose before more after e =
    ⊎_elim (λ low. inl (omega arith)) (λ high. inr (omega arith)) (cases_lt (before + more) (2 ^ 64 - 1))
