-- Batches before a place: where they end, what stands behind each gate, and how two such lists agree.
use Rattle.std.proofs.Common.{◌≡◌, ◌⊎◌, inl, inr, ⊎_elim, ℕ, suc, ◌+◌, ◌<◌, ◌≤◌, List, [], ◌∷◌, ◌++◌, length, get_or, take, drop, refl, sym, ◌∙◌, ap, subst, arith, length-append, append_assoc, take-append-drop}
use Rattle.std.specs.Prelude.{All}
use Rattle.std.proofs.lemmas.Bool.{cases_order}
use Rattle.std.proofs.lemmas.Bool.Decides.{leb_tells}
use Rattle.std.proofs.lemmas.List.{take_at, drop_at, drop-append-le, get_or_past, take-take, get_or-take, length-take-le}
use Rattle.std.proofs.lemmas.List.Elements.{All-head, All-tail, All-take}
use Rattle.byteorder.specs.Endian.{big_bytes, big_number}
use Rattle.gate_journal.specs.Before.{AreBefore, batch_at}
use Rattle.gate_journal.specs.Format.{open_gate, spelled, end_of, IsSmall, IsWhole, gate_at, length_at, Stands, Starts, IsUnfinished, Differs}
use Rattle.gate_journal.specs.Fronts.{at_front}
use Rattle.gate_journal.specs.Places.{gate_is_open, length_is, content_is, whole_there, small_among}
use Rattle.gate_journal.specs.Spelling.{spelled-cons, spelled-append, taken-append, length-spelled, read_length, take_content, drop_content}

-- two lists whose spellings begin the same: they are one, or one goes on where the other ends
pub data Compared (some other : List (List ℕ)) : Type 0 where
  equal : some ≡ other → Compared some other
  longer : (batch : List ℕ) (more : List (List ℕ)) → other ≡ some ++ batch ∷ more → Compared some other
  shorter : (batch : List ℕ) (more : List (List ℕ)) → some ≡ other ++ batch ∷ more → Compared some other

compared_cons : (batch : List ℕ) (some other : List (List ℕ))
    → Compared some other → Compared (batch ∷ some) (batch ∷ other)
compared_cons batch some other (equal e) = equal (ap (λ (l : List (List ℕ)). batch ∷ l) e)
compared_cons batch some other (longer b m e) = longer b m (ap (λ (l : List (List ℕ)). batch ∷ l) e)
compared_cons batch some other (shorter b m e) = shorter b m (ap (λ (l : List (List ℕ)). batch ∷ l) e)

cons_rest : (batch : List ℕ) (some : List (List ℕ)) (rest : List ℕ)
    → drop 1 (spelled (batch ∷ some) ++ rest) ≡ big_bytes 4 (length batch) ++ batch ++ (spelled some ++ rest)
cons_rest batch some rest =
    ap (λ (l : List ℕ). drop 1 (l ++ rest)) (spelled-cons batch some)
    ∙ append_assoc (big_bytes 4 (length batch) ++ batch) (spelled some) rest

compared : (some other : List (List ℕ)) (rest back : List ℕ)
    → All IsSmall some → All IsSmall other → spelled some ++ rest ≡ spelled other ++ back → Compared some other
compared [] [] rest back s o e = equal refl
compared [] (c ∷ other) rest back s o e = longer c other refl
compared (b ∷ some) [] rest back s o e = shorter b some refl
compared (b ∷ some) (c ∷ other) rest back s o e =
    let sb : IsSmall b = All-head IsSmall b some s in
    let sc : IsSmall c = All-head IsSmall c other o in
    let t : big_bytes 4 (length b) ++ b ++ (spelled some ++ rest)
    ≡ big_bytes 4 (length c) ++ c ++ (spelled other ++ back) =
    sym (cons_rest b some rest) ∙ ap (λ (l : List ℕ). drop 1 l) e ∙ cons_rest c other back in
    let n : length b ≡ length c = sym (read_length b (spelled some ++ rest) sb)
    ∙ ap (λ (l : List ℕ). big_number 4 l) t ∙ read_length c (spelled other ++ back) sc in
    let content : b ≡ c =
    sym (take_content b (spelled some ++ rest) sb)
    ∙ ap (λ (l : List ℕ). take (length b) (drop 4 l)) t
    ∙ ap (λ k. take k (drop 4 (big_bytes 4 (length c) ++ c ++ (spelled other ++ back)))) n
    ∙ take_content c (spelled other ++ back) sc in
    let after : spelled some ++ rest ≡ spelled other ++ back =
    sym (drop_content b (spelled some ++ rest) sb)
    ∙ ap (λ (l : List ℕ). drop (length b) (drop 4 l)) t
    ∙ ap (λ k. drop k (drop 4 (big_bytes 4 (length c) ++ c ++ (spelled other ++ back)))) n
    ∙ drop_content c (spelled other ++ back) sc in
    subst (λ (x : List ℕ). Compared (b ∷ some) (x ∷ other)) content (compared_cons b some other
    (compared some other rest back (All-tail IsSmall b some s) (All-tail IsSmall c other o) after))

-- This batch stands whole behind the gate at this place, which is open.
pub record IsBatchAt (octets : List ℕ) (at : ℕ) (batch : List ℕ) : Type 0 where
  pub opened : gate_at octets at ≡ open_gate
  pub number : length_at octets at ≡ length batch
  pub whole : IsWhole octets at
  pub content : batch_at octets at ≡ batch

module _ (header : List ℕ) (long : length header ≡ 32) (octets : List ℕ) where
  pub place_of : (at : ℕ) (batches : List (List ℕ)) → AreBefore header octets at batches → at ≡ end_of batches
  place_of at batches before = omega (
    arith,
    long,
    ap length before.front,
    length-take-le at octets (omega (arith, before.inside)),
    length-append header (spelled batches),
    length-spelled batches,
    before.inside,
  )

  pub front_before : (at : ℕ) (batches : List (List ℕ)) → AreBefore header octets at batches → take 32 octets ≡ header
  front_before at batches before =
      sym (take-take 32 at octets (omega (arith, place_of at batches before)))
      ∙ ap (λ (l : List ℕ). take 32 l) before.front ∙ take_at header (spelled batches) 32 long

  behind : (at : ℕ) (batches : List (List ℕ))
      → AreBefore header octets at batches → drop 32 octets ≡ spelled batches ++ drop at octets
  behind at batches before =
      ap (λ (l : List ℕ). drop 32 l) (sym (take-append-drop at octets) ∙ ap
      (λ (l : List ℕ). l ++ drop at octets) before.front ∙ append_assoc header (spelled batches) (drop at octets))
      ∙ drop_at header (spelled batches ++ drop at octets) 32 long

  -- two lists before two places agree as far as both go
  pub compare : (at far : ℕ) (some other : List (List ℕ))
      → AreBefore header octets at some → AreBefore header octets far other → Compared some other
  compare at far some other one two =
      compared some other (drop at octets) (drop far octets) one.small two.small
      (sym (behind at some one) ∙ behind far other two)

  -- the first of them end at their own place
  pub part_before : (at : ℕ) (some more : List (List ℕ))
      → AreBefore header octets at (some ++ more) → AreBefore header octets (end_of some) some
  part_before at some more before =
      let at_is = place_of at (some ++ more) before in
      let early : end_of some ≤ at = omega (arith, at_is, taken-append some more) in
      let front : length (header ++ spelled some) ≡ end_of some =
      omega (arith, long, length-append header (spelled some), length-spelled some) in
      record {
        front =
            sym (take-take (end_of some) at octets early)
            ∙ ap (λ (l : List ℕ). take (end_of some) l) (before.front ∙ ap (λ (l : List ℕ). header ++ l)
            (spelled-append some more) ∙ sym (append_assoc header (spelled some) (spelled more)))
            ∙ take_at (header ++ spelled some) (spelled more) (end_of some) front;
        small = subst (λ (l : List (List ℕ)). All IsSmall l)
            (take_at some more (length some) refl) (All-take IsSmall (length some) (some ++ more) before.small);
        inside = omega (arith, early, before.inside);
      }

  -- and the next one stands there
  module _ (at : ℕ) (some : List (List ℕ))
      (batch : List ℕ) (more : List (List ℕ)) (before : AreBefore header octets at (some ++ batch ∷ more)) where
    pub listed_before : drop 1 (take at octets) ≡ drop 1 header ++ spelled (some ++ batch ∷ more)
    listed_before = ap (λ (l : List ℕ). drop 1 l) before.front
        ∙ drop-append-le 1 header (spelled (some ++ batch ∷ more)) (omega (arith, long))

    pub small_before : IsSmall batch
    small_before = small_among (some ++ batch ∷ more) some batch more refl before.small

    pub batch_before : IsBatchAt octets (end_of some) batch
    batch_before =
        let high : at ≤ length octets = omega (arith, before.inside) in
        let number = length_is header long at octets some batch more high listed_before small_before in
        record {
          opened = gate_is_open header long at octets some batch more high listed_before;
          number = number;
          whole = whole_there header long at octets some batch more high listed_before small_before before.inside;
          content = ap (λ n. take n (drop (end_of some + 5) octets)) number
              ∙ content_is header long at octets some batch more high listed_before small_before;
        }

  -- what stands for batches has them before their end
  pub stands_before : (batches : List (List ℕ))
      → Stands header octets batches → AreBefore header octets (end_of batches) batches
  stands_before batches stands = record {
    front = stands.front;
    small = stands.small;
    inside = ⊎_elim (λ lt. lt) (λ le. absurd (stands.shut (get_or_past octets (end_of batches) open_gate le)))
        (within (end_of batches) (length octets));
  }
    where
      within : (m n : ℕ) → (m < n) ⊎ (n ≤ m)
      within m n = ⊎_elim (λ yes. inl (omega (arith, yes.1))) (λ no. inr (omega (arith, no.1))) (leb_tells (suc m) n)

  -- the whole header stands
  pub same_not_starts : take 32 octets ≡ header → get_or header 0 0 ≡ 67 → Starts header octets → ⊥
  same_not_starts same begins starts =
      let first : get_or octets 0 0 ≡ get_or header 0 0 =
      sym (get_or-take 32 octets 0 0 (omega arith)) ∙ ap (λ (l : List ℕ). get_or l 0 0) same in
      ⊎_elim (λ zeroed. omega arith) (λ (u : IsUnfinished header octets). u.first first) starts

  pub same_not_differs : take 32 octets ≡ header → (at : ℕ) → Differs header octets at → ⊥
  same_not_differs same at differs =
      differs.other (sym (get_or-take 32 octets at 0 differs.inside) ∙ ap (λ (l : List ℕ). get_or l at 0) same)

  pub one_difference : (at far : ℕ) → Differs header octets at → Differs header octets far → at ≡ far
  one_difference at far one two =
      ⊎_elim (λ e. e)
      (λ apart.
      absurd
      (⊎_elim (λ lt. one.other (at_front at far 0 octets header lt two.same))
      (λ lt. two.other (at_front far at 0 octets header lt one.same)) apart))
      (cases_order at far)
