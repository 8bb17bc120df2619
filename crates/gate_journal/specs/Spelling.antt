-- Batches spelled, and what a place behind them says.
use Rattle.std.proofs.Common.{◌≡◌, ℕ, zero, suc, ◌+◌, ◌≤◌, List, [], ◌∷◌, ◌++◌, length, get_or, take, drop, refl, sym, ◌∙◌, ap, arith, length-append, append_assoc}
use Rattle.std.specs.Prelude.{All}
use Rattle.std.proofs.lemmas.List.{take_at, drop_at, drop-drop, append-nil}
use Rattle.std.proofs.lemmas.List.Elements.{All-head, All-tail}
use Rattle.byteorder.specs.Endian.{big_bytes, big_number}
use Rattle.byteorder.specs.Numbers.{big_number-reads_back, length-bytes_high_first}
use Rattle.gate_journal.specs.Format.{open_gate, closed_gate, frame, header, spelled, taken, IsSmall}
use Rattle.gate_journal.specs.State.{batches_in, batches_below}

pub spelled-cons : (batch : List ℕ) (batches : List (List ℕ))
    → spelled (batch ∷ batches) ≡ open_gate ∷ (big_bytes 4 (length batch) ++ batch ++ spelled batches)
unfolding spelled
spelled-cons batch batches = refl

pub spelled-nil : spelled [] ≡ []
unfolding spelled
spelled-nil = refl

pub length-spelled : (batches : List (List ℕ)) → length (spelled batches) ≡ taken batches
length-spelled [] = ap length spelled-nil
length-spelled (batch ∷ batches) = omega (
  arith,
  ap length (spelled-cons batch batches),
  length-spelled batches,
  length-append (big_bytes 4 (length batch) ++ batch) (spelled batches),
  length-append (big_bytes 4 (length batch)) batch,
  length-bytes_high_first 4 (length batch),
)

pub spelled-append : (some more : List (List ℕ)) → spelled (some ++ more) ≡ spelled some ++ spelled more
spelled-append [] more = ap (λ (l : List ℕ). l ++ spelled more) (sym spelled-nil)
spelled-append (batch ∷ some) more =
    spelled-cons batch (some ++ more)
    ∙ ap (λ (l : List ℕ). open_gate ∷ (big_bytes 4 (length batch) ++ batch ++ l)) (spelled-append some more)
    ∙ ap (λ (l : List ℕ). open_gate ∷ l)
    (sym (append_assoc (big_bytes 4 (length batch) ++ batch) (spelled some) (spelled more)))
    ∙ ap (λ (l : List ℕ). l ++ spelled more) (sym (spelled-cons batch some))

pub taken-append : (some more : List (List ℕ)) → taken (some ++ more) ≡ taken some + taken more
taken-append [] more = omega arith
taken-append (batch ∷ some) more = omega (arith, taken-append some more)

pub spelled-one : (batch : List ℕ) → spelled (batch ∷ []) ≡ open_gate ∷ (big_bytes 4 (length batch) ++ batch)
spelled-one batch = spelled-cons batch [] ∙ ap (λ (l : List ℕ). open_gate ∷ (big_bytes 4 (length batch) ++ batch ++ l))
    spelled-nil ∙ ap (λ (l : List ℕ). open_gate ∷ l) (append-nil (big_bytes 4 (length batch) ++ batch))

pub frame-is : (batch : List ℕ) → frame batch ≡ big_bytes 4 (length batch) ++ batch ++ closed_gate ∷ []
unfolding frame
frame-is batch = refl

pub length-frame : (batch : List ℕ) → length (frame batch) ≡ length batch + 5
length-frame batch = omega (
  arith,
  ap length (frame-is batch),
  length-append (big_bytes 4 (length batch) ++ batch) (closed_gate ∷ []),
  length-append (big_bytes 4 (length batch)) batch,
  length-bytes_high_first 4 (length batch),
)

-- a length and what follows it
module _ (batch rest : List ℕ) (small : IsSmall batch) where
  pub read_length : big_number 4 (big_bytes 4 (length batch) ++ batch ++ rest) ≡ length batch
  read_length = ap (λ (l : List ℕ). big_number 4 l) (append_assoc (big_bytes 4 (length batch)) batch rest)
      ∙ big_number-reads_back 4 (length batch) (batch ++ rest) (omega arith)

  pub drop_length : drop 4 (big_bytes 4 (length batch) ++ batch ++ rest) ≡ batch ++ rest
  drop_length = ap (λ (l : List ℕ). drop 4 l) (append_assoc (big_bytes 4 (length batch)) batch rest)
      ∙ drop_at (big_bytes 4 (length batch)) (batch ++ rest) 4 (length-bytes_high_first 4 (length batch))

  pub take_content : take (length batch) (drop 4 (big_bytes 4 (length batch) ++ batch ++ rest)) ≡ batch
  take_content = ap (λ (l : List ℕ). take (length batch) l) drop_length ∙ take_at batch rest (length batch) refl

  pub drop_content : drop (length batch) (drop 4 (big_bytes 4 (length batch) ++ batch ++ rest)) ≡ rest
  drop_content = ap (λ (l : List ℕ). drop (length batch) l) drop_length ∙ drop_at batch rest (length batch) refl

batches_in-cons : (most gate : ℕ) (octets : List ℕ) → batches_in (suc most) (gate ∷ octets)
    ≡ take (big_number 4 octets) (drop 4 octets) ∷ batches_in most (drop (big_number 4 octets) (drop 4 octets))
unfolding batches_in
batches_in-cons most gate octets = refl

batches_in-nil : (most : ℕ) → batches_in most [] ≡ []
unfolding batches_in
batches_in-nil zero = refl
batches_in-nil (suc most) = refl

-- what is spelled is read back
pub batches_in-spelled : (batches : List (List ℕ)) (most : ℕ)
    → All IsSmall batches → taken batches ≤ most → batches_in most (spelled batches) ≡ batches
batches_in-spelled [] most small le = ap (λ (l : List ℕ). batches_in most l) spelled-nil ∙ batches_in-nil most
batches_in-spelled (batch ∷ batches) zero small le = absurd (omega arith)
batches_in-spelled (batch ∷ batches) (suc most) small le =
    let here : IsSmall batch = All-head IsSmall batch batches small in
    let tail = spelled batches in
    let octets = big_bytes 4 (length batch) ++ batch ++ tail in
    ap (λ (l : List ℕ). batches_in (suc most) l) (spelled-cons batch batches)
    ∙ batches_in-cons most open_gate octets
    ∙ ap (λ n. take n (drop 4 octets) ∷ batches_in most (drop n (drop 4 octets))) (read_length batch tail here)
    ∙ ap (λ (b : List ℕ). b ∷ batches_in most (drop (length batch) (drop 4 octets))) (take_content batch tail here)
    ∙ ap (λ (l : List ℕ). batch ∷ batches_in most l) (drop_content batch tail here)
    ∙ ap (λ (bs : List (List ℕ)). batch ∷ bs)
    (batches_in-spelled batches most (All-tail IsSmall batch batches small) (omega arith))

-- the batches below a place are those that are spelled there
pub batches_below-is : (place : ℕ) (octets rest : List ℕ) (batches : List (List ℕ))
    → length rest ≡ 31 → drop 1 (take place octets) ≡ rest ++ spelled batches → All IsSmall batches
    → batches_below place octets ≡ batches
unfolding batches_below
batches_below-is place octets rest batches long listed small =
    let spelling : drop 32 (take place octets) ≡ spelled batches = sym (drop-drop 31 1 (take place octets))
    ∙ ap (λ (l : List ℕ). drop 31 l) listed ∙ drop_at rest (spelled batches) 31 long in
    ap (λ (l : List ℕ). batches_in (length l) l) spelling
    ∙ batches_in-spelled batches (length (spelled batches)) small (omega (arith, length-spelled batches))

pub length-header : (size address generation : ℕ) → length (header size address generation) ≡ 32
unfolding header
length-header size address generation = refl

pub first-header : (size address generation : ℕ) → get_or (header size address generation) 0 0 ≡ 67
unfolding header
first-header size address generation = refl
