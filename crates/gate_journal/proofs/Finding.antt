-- What a gate that was read says of the content behind it.
use Rattle.std.proofs.Common.{◌≡◌, ℕ, ◌+◌, ◌<◌, ◌≤◌, List, ◌∷◌, ◌++◌, length, take, drop, ⊎_elim, ◌⊎◌, inl, inr, suc, Bool, true, false, sym, ◌∙◌, ap, subst, arith, rules}
use Rattle.gate_journal.proofs.Names.{AreaLaws, batches, batches_below, behind_some, content_at, Cut, end_of, Fits, gate_before, gate_is_open, Ghosts, header, IfSome, if◌then◌else◌, is_closed, IsBehind, IsSmall, Journal, leb_tells, length-header, length_is, longest_batch, nat_lt, None, Option, Shut, small_among, Some, spelled, Told, Whole, whole_there}
use Rattle.gate_journal.specs.Reading.{IsGate}
use Rattle.gate_journal.specs.declared.reading.Behind.{Behind}
use Rattle.gate_journal.proofs.States.{settled, now, inside}

ltb_tells : (a b : ℕ) → ((nat_lt a b ≡ true) × (a < b)) ⊎ ((nat_lt a b ≡ false) × (b ≤ a))
ltb_tells a b = ⊎_elim (λ yes. inl (yes.0, omega (arith, yes.1))) (λ no. inr (no.0, omega (arith, no.1))) (leb_tells (suc a) b)

abbrev answer : Bool → ℕ → ℕ → Option (ℕ × ℕ)
answer outside at n = if outside then None else Some (at, n)

-- what a gate that was read says of the content behind it
module _ (header : List ℕ) (long : length header ≡ 32) (place : ℕ) (octets : List ℕ) (some : List (List ℕ)) (batch : List ℕ) (more : List (List ℕ)) (inside : place < length octets)
    (listed : drop 1 (take place octets) ≡ drop 1 header ++ spelled (some ++ batch ∷ more)) (small : IsSmall batch) where
  pub content_found : (behind : Behind) → IsBehind octets (end_of some) behind → content_at behind (end_of some) place ≡ Some (end_of some + 5, length batch)
  content_found Shut shut = absurd (shut (gate_is_open header long place octets some batch more (omega arith) listed))
  content_found Cut cut = absurd (cut.1 (whole_there header long place octets some batch more (omega arith) listed small inside))
  content_found (Whole n) whole =
      let is : n ≡ length batch = whole.1 ∙ length_is header long place octets some batch more (omega arith) listed small in
      let fits : end_of some + 5 + n ≤ place = omega (arith, gate_before header long place octets some batch more (omega arith) listed) in
      let P : Bool → Type 0 = λ b. answer b (end_of some + 5) n ≡ answer false (end_of some + 5) (length batch) in
      subst P (sym (⊎_elim (λ yes. absurd (omega (arith, yes.1, fits))) (λ no. no.0) (ltb_tells place (end_of some + 5 + n)))) (ap (λ m. answer false (end_of some + 5) m) is)

-- what stands behind a gate of a journal
module _ {A : Type 0} (tells : Ghosts A) (laws : AreaLaws tells) (j : Journal A tells) (told : Told tells) (gate : ℕ) (behind : Behind) (reads : IsBehind (tells.octets j.area) gate behind) where
  pub found_at : (some : List (List ℕ)) (batch : List ℕ) (more : List (List ℕ)) → batches_below j.gate (tells.octets j.area) ≡ some ++ batch ∷ more → gate ≡ end_of some → content_at behind gate j.gate ≡ Some (gate + 5, length batch)
  found_at some batch more is at =
      let h = header (tells.size j.area) j.address j.generation in
      subst (λ n. content_at behind n j.gate ≡ Some (n + 5, length batch)) (sym at)
      (content_found h (length-header (tells.size j.area) j.address j.generation) j.gate (tells.octets j.area) some
      batch more (inside tells laws j told)
      ((now tells laws j told).listed ∙ ap (λ (bs : List (List ℕ)). drop 1 h ++ spelled bs) is)
      (small_among (batches_below j.gate (tells.octets j.area)) some batch more is (j.sound.small told)) behind (subst (λ n. IsBehind (tells.octets j.area) n behind) at reads))

  -- before the first closed gate there is one
  module _ (open' : is_closed j ≡ false) (is_gate : IsGate j gate) (before : gate < j.gate) where
    pub next : (batch : List ℕ) × (more : List (List ℕ)) × (batches_below j.gate (tells.octets j.area) ≡ (is_gate.behind told).0 ++ batch ∷ more)
    unfolding batches
    next =
        let is = is_gate.behind told in
        behind_some (batches_below j.gate (tells.octets j.area)) is.0 is.1 is.2 (omega (arith, (settled tells laws j open').place told, is.3, before))

    pub there : content_at behind gate j.gate ≡ Some (gate + 5, length next.0)
    there = found_at (is_gate.behind told).0 next.0 next.1 next.2 (is_gate.behind told).3

pub content_inside : (size : ℕ) (behind : Behind) (gate end : ℕ) → Fits size gate behind → IfSome (content_at behind gate end) (λ content. (content.0 ≡ gate + 5) × (content.0 + content.1 ≤ end) × (content.1 ≤ longest_batch))
content_inside size behind gate end fits = grind (arith, ltb_tells)

-- a fact of what there is
pub if_some : {X : Type 0} (found : Option X) (P Q : X → Type 0) → IfSome found P → ((x : X) → found ≡ Some x → P x → Q x) → IfSome found Q
if_some found P Q p f = search rules
