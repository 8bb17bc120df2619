-- A piece that is taken in ends at the end of a message, or is taken in whole.
use Rattle.std.proofs.Common.{◌≡◌, ℕ, zero, suc, ◌+◌, ◌-◌, ◌<◌, ◌≤◌, ◌==◌, ◌⊎◌, min, not, Bool, true, false, if◌then◌else◌, nat_lt, List, [], ◌∷◌, ◌++◌, length, length-append, take, drop, Option, None, Some, Result, Ok, Err, refl, sym, ap, subst, ◌∙◌, append_assoc, inl, inr, arith}
use Rattle.std.proofs.Math.Seq.{take-add}
use Rattle.std.proofs.lemmas.Bool.{cases_lt, le-ltb, lt-ltb}
use Rattle.std.proofs.lemmas.List.{append-nil, length-drop, length-take}
use Rattle.gtpp_header.specs.Header.{protocol_type_of, two_octets, version_of}
use Rattle.gtpp_header.specs.Reading.{header_reading}
use Rattle.gtpp_header.specs.declared.Header.{Header}
use Rattle.gtpp_header.specs.declared.fault.HeadFault.{HeadFault}
use Rattle.gtpp_header.specs.declared.fault.HeadFault.TheVariants.{Cut, NotPrime, Short, Version}
use Rattle.gtpp_stream.specs.Frames.{IsWhole, first_fault, flags_fault, length_of, whole_length}
use Rattle.gtpp_stream.specs.Taking.{IsBegun, Takes, lack_of}
use Rattle.gtpp_stream.specs.declared.frame.FrameKind.TheVariants as kinds
use Rattle.gtpp_stream.proofs.FrameLemmas.{whole_bounds}

-- the octets so far are a whole message, or the whole piece is taken and they are none
abbrev IsDone : List ℕ → ℕ → List ℕ → Type 0
IsDone piece count octets = IsWhole octets ⊎ ((whole_length octets ≡ None) × (count ≡ length piece))

-- what is read of six octets or more
pub reads : (a b c d x y : ℕ) (rest : List ℕ) (p v s : Bool) → (protocol_type_of a == 1) ≡ p → (version_of a == 2) ≡ v → nat_lt (length rest) (two_octets c d) ≡ s
    → header_reading (a ∷ b ∷ c ∷ d ∷ x ∷ y ∷ rest)
    ≡ (if p then Err NotPrime else (if not v then Err (Version (version_of a) b (two_octets x y)) else (if s then Err (Cut (two_octets c d)) else Ok (record { kind = b; length = two_octets c d; number = two_octets x y }))))
reads a b c d x y rest p v s e f g = λ i.
    if e i then Err NotPrime else (if not (f i) then Err (Version (version_of a) b (two_octets x y)) else (if g i then Err (Cut (two_octets c d)) else Ok (record { kind = b; length = two_octets c d; number = two_octets x y })))

good_prime : (a : ℕ) → flags_fault a ≡ None → (protocol_type_of a == 1) ≡ false
good_prime a e = by (protocol_type_of a == 1) refl e
  where
    by : (p : Bool) → (protocol_type_of a == 1) ≡ p → (if p then Some kinds.NotPrime else (if version_of a == 2 then None else Some kinds.Version)) ≡ None → p ≡ false
    by true f e = absurd (cc)
    by false f e = refl

good_version : (a : ℕ) → flags_fault a ≡ None → (version_of a == 2) ≡ true
good_version a e = by (protocol_type_of a == 1) (version_of a == 2) e
  where
    by : (p v : Bool) → (if p then Some kinds.NotPrime else (if v then None else Some kinds.Version)) ≡ None → v ≡ true
    by true v e = absurd (cc)
    by false true e = refl
    by false false e = absurd (cc)

-- ---- what is lacking of a message whose header has come

from_header : (a b c d x y : ℕ) (rest piece : List ℕ) (n : ℕ) → flags_fault a ≡ None → length rest < two_octets c d → n ≡ min (6 + two_octets c d - length (a ∷ b ∷ c ∷ d ∷ x ∷ y ∷ rest)) (length piece)
    → IsDone piece n ((a ∷ b ∷ c ∷ d ∷ x ∷ y ∷ rest) ++ take n piece)
unfolding whole_length
from_header a b c d x y rest piece n good short is =
    let len : length (rest ++ take n piece) ≡ length rest + n = omega (arith, length-append rest (take n piece), length-take n piece, is) in
    elim (cases_lt (length rest + n) (two_octets c d)) [
      | inl lt ↦ inr (
        ap length_of (reads a b c d x y (rest ++ take n piece) false true true (good_prime a good) (good_version a good) (lt-ltb (length (rest ++ take n piece)) (two_octets c d) (omega (arith, len, lt)))),
        omega (arith, is, lt),
      )
      | inr le ↦ inl (
          ap length_of (reads a b c d x y (rest ++ take n piece) false true false (good_prime a good) (good_version a good) (le-ltb (length (rest ++ take n piece)) (two_octets c d) (omega (arith, len, le))))
          ∙ (let same : 6 + two_octets c d ≡ length ((a ∷ b ∷ c ∷ d ∷ x ∷ y ∷ rest) ++ take n piece) = omega (arith, len, is, le, short) in λ i. Some (same i))
          )
    ]

-- ---- fewer octets than a header has

short_read : (octets : List ℕ) → length octets < 6 → header_reading octets ≡ Err Short
short_read (a ∷ b ∷ c ∷ d ∷ x ∷ y ∷ rest) lt = absurd (omega (arith, lt))
short_read _ lt = refl

short_none : (octets : List ℕ) → length octets < 6 → whole_length octets ≡ None
unfolding whole_length
short_none octets lt = ap length_of (short_read octets lt)

-- ---- six octets or more

whole_lack : (octets : List ℕ) (k count : ℕ) → whole_length octets ≡ Some k → lack_of (header_reading octets) count ≡ 0
unfolding whole_length
whole_lack octets k count e = by (header_reading octets) e
  where
    by : (r : Result Header HeadFault) → length_of r ≡ Some k → lack_of r count ≡ 0
    by (Ok header) e = refl
    by (Err fault) e = absurd (cc)

none_taken : (octets piece : List ℕ) (n : ℕ) → n ≡ 0 → octets ++ take n piece ≡ octets
none_taken octets piece n e = ap (λ (m : ℕ). octets ++ take m piece) e ∙ append-nil octets

whole_read : (a b c d x y : ℕ) (rest : List ℕ) → flags_fault a ≡ None → two_octets c d ≤ length rest → whole_length (a ∷ b ∷ c ∷ d ∷ x ∷ y ∷ rest) ≡ Some (6 + two_octets c d)
unfolding whole_length
whole_read a b c d x y rest good le = ap length_of (reads a b c d x y rest false true false (good_prime a good) (good_version a good) (le-ltb (length rest) (two_octets c d) le))

-- a message whose header has come
pub with_header : (octets piece : List ℕ) (n : ℕ) → 6 ≤ length octets → first_fault octets ≡ None → ((k : ℕ) → whole_length octets ≡ Some k → k ≡ length octets)
    → n ≡ min (lack_of (header_reading octets) (length octets)) (length piece) → IsDone piece n (octets ++ take n piece)
with_header (a ∷ b ∷ c ∷ d ∷ x ∷ y ∷ rest) piece n long good exact is = elim (cases_lt (length rest) (two_octets c d)) [
  | inl lt ↦
      let read : header_reading (a ∷ b ∷ c ∷ d ∷ x ∷ y ∷ rest) ≡ Err (Cut (two_octets c d)) =
      reads a b c d x y rest false true true (good_prime a good) (good_version a good) (lt-ltb (length rest) (two_octets c d) lt) in
      from_header a b c d x y rest piece n good lt (is ∙ ap (λ (r : Result Header HeadFault). min (lack_of r (length (a ∷ b ∷ c ∷ d ∷ x ∷ y ∷ rest))) (length piece)) read)
  | inr le ↦
      let whole : whole_length (a ∷ b ∷ c ∷ d ∷ x ∷ y ∷ rest) ≡ Some (6 + two_octets c d) = whole_read a b c d x y rest good le in
      let none : n ≡ 0 = omega (arith, is, whole_lack (a ∷ b ∷ c ∷ d ∷ x ∷ y ∷ rest) (6 + two_octets c d) (length (a ∷ b ∷ c ∷ d ∷ x ∷ y ∷ rest)) whole) in
      let full : whole_length (a ∷ b ∷ c ∷ d ∷ x ∷ y ∷ rest) ≡ Some (length (a ∷ b ∷ c ∷ d ∷ x ∷ y ∷ rest)) = whole ∙ ap (λ (k : ℕ). Some k) (exact (6 + two_octets c d) whole) in
      inl ((λ i. whole_length (none_taken (a ∷ b ∷ c ∷ d ∷ x ∷ y ∷ rest) piece n none i)) ∙ full
      ∙ (λ i. Some (length (sym (none_taken (a ∷ b ∷ c ∷ d ∷ x ∷ y ∷ rest) piece n none) i))))
]
with_header _ piece n long good exact is = absurd (omega (arith, long))

-- ---- both rounds

pub fault_front : (octets piece : List ℕ) (n : ℕ) → first_fault (octets ++ piece) ≡ None → first_fault (octets ++ take n piece) ≡ None
fault_front [] [] zero good = refl
fault_front [] [] (suc n) good = refl
fault_front [] (a ∷ piece) zero good = refl
fault_front _ _ _ good = good

taken_on : (octets piece : List ℕ) (n m : ℕ) → (octets ++ take n piece) ++ take m (drop n piece) ≡ octets ++ take (n + m) piece
taken_on octets piece n m = append_assoc octets (take n piece) (take m (drop n piece)) ∙ ap (λ (l : List ℕ). octets ++ l) (sym (take-add n m piece))

-- where the first round takes the whole piece, or ends a message, the second takes none
stops : (octets piece : List ℕ) (n m : ℕ) → m ≡ 0 → IsDone piece n (octets ++ take n piece) → IsDone piece (n + m) (octets ++ take (n + m) piece)
stops octets piece n m e done =
    let same : n ≡ n + m = omega (arith, e) in
    subst (λ (k : ℕ). IsDone piece k (octets ++ take k piece)) same done

both_rounds : (octets piece : List ℕ) (n m : ℕ) → IsBegun octets → first_fault (octets ++ piece) ≡ None
    → n ≡ min (lack_of (header_reading octets) (length octets)) (length piece)
    → m ≡ min (lack_of (header_reading (octets ++ take n piece)) (length (octets ++ take n piece))) (length (drop n piece))
    → IsDone piece (n + m) (octets ++ take (n + m) piece)
both_rounds octets piece n m begun good is next = elim (cases_lt (length octets) 6) [
  | inl lt ↦
      let lacks : n ≡ min (6 - length octets) (length piece) = is ∙ ap (λ (r : Result Header HeadFault). min (lack_of r (length octets)) (length piece)) (short_read octets lt) in
      let len : length (octets ++ take n piece) ≡ length octets + n = omega (arith, length-append octets (take n piece), length-take n piece, is) in
      elim (cases_lt (length piece) (6 - length octets)) [
        | inl few ↦ stops octets piece n m (omega (arith, next, length-drop n piece, lacks, few)) (inr (short_none (octets ++ take n piece) (omega (arith, len, lacks, few)), omega (arith, lacks, few)))
        | inr many ↦
            let six : length (octets ++ take n piece) ≡ 6 = omega (arith, len, lacks, many, lt) in
            joins octets piece n m (omega (arith, lacks, many)) (with_header (octets ++ take n piece) (drop n piece) m (omega (arith, six)) (fault_front octets piece n good)
            (λ k e. let b = whole_bounds (octets ++ take n piece) k e in omega (arith, six, b.0, b.1)) next)
      ]
  | inr long ↦
      let done : IsDone piece n (octets ++ take n piece) = with_header octets piece n long begun.good (λ k e. absurd (none_some k (sym begun.none ∙ e))) is in
      stops octets piece n m (rests octets piece n m next done) done
]
  where
    none_some : (k : ℕ) → ◌≡◌ {A = Option ℕ} None (Some k) → ⊥
    none_some k e = cc

    rests : (octets piece : List ℕ) (n m : ℕ) → m ≡ min (lack_of (header_reading (octets ++ take n piece)) (length (octets ++ take n piece))) (length (drop n piece))
        → IsDone piece n (octets ++ take n piece) → m ≡ 0
    rests octets piece n m next (inl w) = omega (arith, next, whole_lack (octets ++ take n piece) (length (octets ++ take n piece)) (length (octets ++ take n piece)) w)
    rests octets piece n m next (inr w) = omega (arith, next, length-drop n piece, w.1)

    joins : (octets piece : List ℕ) (n m : ℕ) → n ≤ length piece → IsDone (drop n piece) m ((octets ++ take n piece) ++ take m (drop n piece)) → IsDone piece (n + m) (octets ++ take (n + m) piece)
    joins octets piece n m fits (inl w) = inl (subst IsWhole (taken_on octets piece n m) w)
    joins octets piece n m fits (inr w) = inr (subst (λ (l : List ℕ). whole_length l ≡ None) (taken_on octets piece n m) w.0, omega (arith, w.1, length-drop n piece, fits))

pub takes_both : (old piece mid rest new : List ℕ) (n m : ℕ) → IsBegun old → first_fault (old ++ piece) ≡ None
    → n ≡ min (lack_of (header_reading old) (length old)) (length piece) → mid ≡ old ++ take n piece → rest ≡ drop n piece
    → m ≡ min (lack_of (header_reading mid) (length mid)) (length rest) → new ≡ mid ++ take m rest → Takes piece (n + m) old new
takes_both old piece mid rest new n m begun good is middle left next all =
    record {
      inside = omega (arith, is, next, ap (λ (l : List ℕ). length l) left, length-drop n piece);
      octets = joined;
      whole = λ k e. ends done k e;
      more = λ e. whole_piece done e;
      advances = λ k e. some_taken (n + m) joined k e;
    }
  where
    joined : new ≡ old ++ take (n + m) piece
    joined = all ∙ (λ i. middle i ++ take m (left i)) ∙ taken_on old piece n m

    done : IsDone piece (n + m) new
    done = subst (λ (l : List ℕ). IsDone piece (n + m) l) (sym joined)
        (both_rounds old piece n m begun good is (next ∙ (λ i. min (lack_of (header_reading (middle i)) (length (middle i))) (length (left i)))))

    ends : IsDone piece (n + m) new → (k : ℕ) → whole_length new ≡ Some k → k ≡ length new
    ends (inl w) k e = let same : ◌≡◌ {A = Option ℕ} (Some k) (Some (length new)) = sym e ∙ w in cc
    ends (inr w) k e = let wrong : ◌≡◌ {A = Option ℕ} None (Some k) = sym w.0 ∙ e in absurd (cc)

    whole_piece : IsDone piece (n + m) new → whole_length new ≡ None → n + m ≡ length piece
    whole_piece (inl w) e = let wrong : ◌≡◌ {A = Option ℕ} None (Some (length new)) = sym e ∙ w in absurd (cc)
    whole_piece (inr w) e = w.1

    -- what has begun isn't whole, so that it takes an octet more to be
    some_taken : (j : ℕ) → new ≡ old ++ take j piece → (k : ℕ) → whole_length new ≡ Some k → 0 < j
    some_taken zero same k e =
        let wrong : ◌≡◌ {A = Option ℕ} None (Some k) = sym begun.none ∙ ap (λ (l : List ℕ). whole_length l) (sym (same ∙ append-nil old)) ∙ e in
        absurd (cc)
    some_taken (suc j) same k e = omega arith
