-- Batches before a place of an area: the gate of each, and the content behind it.
use Rattle.std.proofs.Common.{◌≡◌, ℕ, ◌+◌, ◌-◌, ◌<◌, ◌≤◌, List, [], ◌∷◌, ◌++◌, length, get_or, take, drop, refl, sym, ◌∙◌, ap, subst, arith, length-append, append_assoc}
use Rattle.std.specs.Prelude.{All}
use Rattle.std.proofs.lemmas.List.{take_at, drop_at, append-nil, drop-drop, drop-take, take-take, get_or-take, get_or-drop, length-take-le, length-drop}
use Rattle.std.proofs.lemmas.List.Elements.{All-drop, All-head}
use Rattle.byteorder.specs.Endian.{big_bytes, big_number}
use Rattle.byteorder.specs.Numbers.{big_from-take, length-bytes_high_first}
use Rattle.gate_journal.specs.Format.{open_gate, spelled, taken, end_of, IsSmall, IsWhole, gate_at, length_at}
use Rattle.gate_journal.specs.Spelling.{spelled-append, taken-append, spelled-cons, length-spelled, read_length, drop_length}

module _ (header : List ℕ) (long : length header ≡ 32) (place : ℕ)
    (octets : List ℕ) (some : List (List ℕ)) (batch : List ℕ) (more : List (List ℕ)) (high : place ≤ length octets)
    (listed : drop 1 (take place octets) ≡ drop 1 header ++ spelled (some ++ batch ∷ more)) where
  -- from the gate of the batch on
  from_gate : drop (end_of some) (take place octets) ≡ open_gate ∷ (big_bytes 4 (length batch) ++ batch ++ spelled more)
  from_gate =
      let at : 1 + (31 + taken some) ≡ end_of some = omega arith in
      let front : length (drop 1 header ++ spelled some) ≡ 31 + taken some = omega
      (arith, long, length-drop 1 header, length-spelled some, length-append (drop 1 header) (spelled some)) in
      ap (λ n. drop n (take place octets)) (sym at)
      ∙ sym (drop-drop (31 + taken some) 1 (take place octets))
      ∙ ap (λ (l : List ℕ). drop (31 + taken some) l)
      (listed ∙ ap (λ (l : List ℕ). drop 1 header ++ l) (spelled-append some (batch ∷ more))
      ∙ sym (append_assoc (drop 1 header) (spelled some) (spelled (batch ∷ more))))
      ∙ drop_at (drop 1 header ++ spelled some) (spelled (batch ∷ more)) (31 + taken some) front
      ∙ spelled-cons batch more

  tail : List ℕ
  tail = big_bytes 4 (length batch) ++ batch ++ spelled more

  length-from_gate : place - end_of some ≡ 5 + length batch + taken more
  length-from_gate = omega (
    arith,
    ap length from_gate,
    length-drop (end_of some) (take place octets),
    length-take-le place octets high,
    length-append (big_bytes 4 (length batch) ++ batch) (spelled more),
    length-append (big_bytes 4 (length batch)) batch,
    length-bytes_high_first 4 (length batch),
    length-spelled more,
  )

  pub gate_before : end_of some + 5 + length batch ≤ place
  gate_before = omega (arith, length-from_gate)

  pub gate_is_open : gate_at octets (end_of some) ≡ open_gate
  gate_is_open =
      let here : end_of some + 0 ≡ end_of some = omega arith in
      sym (get_or-take place octets (end_of some) open_gate (omega (arith, gate_before)))
      ∙ ap (λ i. get_or (take place octets) i open_gate) (sym here)
      ∙ sym (get_or-drop (end_of some) (take place octets) 0 open_gate)
      ∙ ap (λ (l : List ℕ). get_or l 0 open_gate) from_gate

  behind_gate : (n : ℕ) → 1 ≤ n
      → drop (end_of some + n) (take place octets) ≡ drop (n - 1) (big_bytes 4 (length batch) ++ batch ++ spelled more)
  behind_gate n low =
      let one : 1 + (n - 1) ≡ n = omega arith in
      sym (drop-drop n (end_of some) (take place octets))
      ∙ ap (λ (l : List ℕ). drop n l) from_gate
      ∙ ap (λ k. drop k (open_gate ∷ (big_bytes 4 (length batch) ++ batch ++ spelled more))) (sym one)
      ∙ sym (drop-drop (n - 1) 1 (open_gate ∷ (big_bytes 4 (length batch) ++ batch ++ spelled more)))

  -- a range behind the gate reads the same before the place and in the whole
  within : (n m : ℕ) → n + m ≤ place → take m (drop n octets) ≡ take m (drop n (take place octets))
  within n m le =
      let all : n + (place - n) ≡ place = omega arith in
      sym (take-take m (place - n) (drop n octets) (omega arith))
      ∙ ap (λ (l : List ℕ). take m l) (sym (drop-take n (place - n) octets))
      ∙ ap (λ k. take m (drop n (take k octets))) all

  module _ (small : IsSmall batch) where
    pub length_is : length_at octets (end_of some) ≡ length batch
    length_is =
        sym (big_from-take 0 4 4 (drop (end_of some + 1) octets) (omega arith))
        ∙ ap (λ (l : List ℕ). big_number 4 l) (within (end_of some + 1) 4 (omega (arith, gate_before)))
        ∙ big_from-take 0 4 4 (drop (end_of some + 1) (take place octets)) (omega arith)
        ∙ ap (λ (l : List ℕ). big_number 4 l) (behind_gate 1 (omega arith))
        ∙ read_length batch (spelled more) small

    pub whole_there : place < length octets → IsWhole octets (end_of some)
    whole_there inside =
        record { short = omega (arith, length_is, small); inside = omega (arith, length_is, gate_before) }

    pub content_is : take (length batch) (drop (end_of some + 5) octets) ≡ batch
    content_is =
        within (end_of some + 5) (length batch) (omega (arith, gate_before))
        ∙ ap (λ (l : List ℕ). take (length batch) l)
        (behind_gate 5 (omega arith) ∙ drop_length batch (spelled more) small)
        ∙ take_at batch (spelled more) (length batch) refl

    pub part_is : (at n : ℕ) → end_of some + 5 ≤ at → at + n ≤ end_of some + 5 + length batch
        → take n (drop at octets) ≡ take n (drop (at - (end_of some + 5)) batch)
    part_is at n low fits =
        let start = end_of some + 5 in
        let k = at - (end_of some + 5) in
        let at_is : end_of some + 5 + (at - (end_of some + 5)) ≡ at = omega arith in
        ap (λ i. take n (drop i octets)) (sym at_is)
        ∙ ap (λ (l : List ℕ). take n l) (sym (drop-drop (at - (end_of some + 5)) (end_of some + 5) octets))
        ∙ sym (drop-take (at - (end_of some + 5)) n (drop (end_of some + 5) octets))
        ∙ ap (λ (l : List ℕ). drop (at - (end_of some + 5)) l)
        (sym (take-take (at - (end_of some + 5) + n) (length batch) (drop (end_of some + 5) octets) (omega arith))
        ∙ ap (λ (l : List ℕ). take (at - (end_of some + 5) + n) l) content_is)
        ∙ drop-take (at - (end_of some + 5)) n batch

-- a gate before the place has a batch behind it
pub behind_some : (batches some more : List (List ℕ)) → batches ≡ some ++ more
    → end_of some < end_of batches → (batch : List ℕ) × (rest : List (List ℕ)) × (batches ≡ some ++ batch ∷ rest)
behind_some batches some [] is lt = absurd (omega (arith, ap taken (is ∙ append-nil some)))
behind_some batches some (batch ∷ rest) is lt = (batch, rest, is)

small_one : (some : List (List ℕ)) (batch : List ℕ) (more : List (List ℕ))
    → All IsSmall (some ++ batch ∷ more) → IsSmall batch
small_one [] batch more small = All-head IsSmall batch more small
small_one (b ∷ some) batch more small =
    small_one some batch more (All-drop IsSmall 1 (b ∷ (some ++ batch ∷ more)) small)

pub small_among : (batches some : List (List ℕ)) (batch : List ℕ) (more : List (List ℕ))
    → batches ≡ some ++ batch ∷ more → All IsSmall batches → IsSmall batch
small_among batches some batch more is small =
    small_one some batch more (subst (λ (bs : List (List ℕ)). All IsSmall bs) is small)

-- and no batch is behind the place itself
pub before_end : (batches some : List (List ℕ)) (batch : List ℕ) (more : List (List ℕ))
    → batches ≡ some ++ batch ∷ more → end_of some < end_of batches
before_end batches some batch more is = omega (arith, ap taken is, taken-append some (batch ∷ more))

-- one more batch leads to the next gate
pub next_gate : (batches before : List (List ℕ)) (content : List ℕ) (behind : List (List ℕ)) (gate : ℕ)
    → batches ≡ before ++ content ∷ behind → gate ≡ end_of before
    → (batches ≡ before ++ content ∷ [] ++ behind) × (gate + 5 + length content ≡ end_of (before ++ content ∷ []))
next_gate batches before content behind gate is at =
    (is ∙ sym (append_assoc before (content ∷ []) behind), omega (arith, at, taken-append before (content ∷ [])))
