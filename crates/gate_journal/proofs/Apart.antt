-- Octets stand for one list of batches, or start, or are foreign at one place.
use Rattle.std.proofs.Common.{◌≡◌, ℕ, List, ◌∷◌, ◌++◌, length, take, sym, ◌∙◌, ap, subst, arith}
use Rattle.gate_journal.specs.Before.{AreBefore}
use Rattle.gate_journal.proofs.Names.{batch_before, compare, end_of, equal, front_before, gate_at, IsBroken, IsWhole, longer, open_gate, place_of, shorter, Stands, stands_before}

-- the batches before a gate that is closed or has no whole batch behind it
pub record Stop (header octets : List ℕ) (at : ℕ) (batches : List (List ℕ)) : Type 0 where
  pub before : AreBefore header octets at batches
  pub stops : gate_at octets at ≡ open_gate → IsWhole octets at → ⊥

module _ (header : List ℕ) (long : length header ≡ 32) (octets : List ℕ) where
  pub stop_of_stands : (batches : List (List ℕ)) → Stands header octets batches → Stop header octets (end_of batches) batches
  stop_of_stands batches stands = record { before = stands_before header long octets batches stands; stops = λ opened. absurd (stands.shut opened) }

  pub stop_of_broken : (at : ℕ) (broken : IsBroken header octets at) → Stop header octets at broken.batches
  stop_of_broken at broken = record { before = record { front = broken.front; small = broken.small; inside = broken.inside }; stops = λ opened. broken.unwhole }

  -- a list that goes on behind a stop is none
  goes_on : (at : ℕ) (some : List (List ℕ)) (stop : Stop header octets at some) (batch : List ℕ) (more : List (List ℕ)) (far : ℕ) → AreBefore header octets far (some ++ batch ∷ more) → ⊥
  goes_on at some stop batch more far other =
      let at_is : at ≡ end_of some = place_of header long octets at some stop.before in
      let next = batch_before header long octets far some batch more other in
      stop.stops (ap (λ n. gate_at octets n) at_is ∙ next.opened) (subst (λ n. IsWhole octets n) (sym at_is) next.whole)

  pub one_stop : (at far : ℕ) (some other : List (List ℕ)) → Stop header octets at some → Stop header octets far other → some ≡ other
  one_stop at far some other one two = grind (arith, compare, equal, longer, goes_on, shorter)

  pub one_place : (at far : ℕ) (some other : List (List ℕ)) → Stop header octets at some → Stop header octets far other → at ≡ far
  one_place at far some other one two =
      place_of header long octets at some one.before ∙ ap end_of (one_stop at far some other one two) ∙ sym (place_of header long octets far other two.before)

  -- what an opening reads, and what else the octets might be
  pub one_list : (some other : List (List ℕ)) → Stands header octets some → Stands header octets other → some ≡ other
  one_list some other one two = one_stop (end_of some) (end_of other) some other (stop_of_stands some one) (stop_of_stands other two)

  pub one_broken : (at far : ℕ) → IsBroken header octets at → IsBroken header octets far → at ≡ far
  one_broken at far one two = one_place at far one.batches two.batches (stop_of_broken at one) (stop_of_broken far two)

  pub broken_front : (at : ℕ) → IsBroken header octets at → take 32 octets ≡ header
  broken_front at broken = front_before header long octets at broken.batches (stop_of_broken at broken).before
