-- The messages of a stream, and where it may be cut.
use Rattle.std.proofs.Common.{◌≡◌, ℕ, zero, suc, ◌+◌, ◌-◌, ◌≤◌, ◌==◌, not, Bool, true, false, if◌then◌else◌, nat_lt, List, [], ◌∷◌, ◌++◌, length, take, drop, Option, None, Some, Result, Ok, Err, refl, sym, ap, ◌∙◌, arith}
use Rattle.std.specs.Option.{option_map_or}
use Rattle.std.proofs.lemmas.Bool.{ltb-false}
use Rattle.std.proofs.lemmas.List.{drop-append-le, length-drop, take-append-le}
use Rattle.gtpp_header.specs.Header.{protocol_type_of, two_octets, version_of}
use Rattle.gtpp_header.specs.Reading.{IsFinal, header_reading}
use Rattle.gtpp_header.specs.declared.Header.{Header}
use Rattle.gtpp_header.specs.declared.fault.HeadFault.{HeadFault}
use Rattle.gtpp_header.specs.declared.fault.HeadFault.TheVariants.{Cut, NotPrime, Version}
use Rattle.gtpp_stream.specs.Frames.{first_fault, frames, frames_within, length_of, rest_of, rest_within, whole_length}
use Rattle.gtpp_stream.specs.declared.frame.FrameKind.{FrameKind}
use Rattle.gtpp_stream.specs.declared.frame.FrameKind.TheVariants as kinds

-- Further octets don't change what is read of a whole message.
abbrev pub Further : Type 0
Further = (octets more : List ℕ) → IsFinal (header_reading octets) → header_reading (octets ++ more) ≡ header_reading octets

-- ---- a whole message

final_of : (r : Result Header HeadFault) (k : ℕ) → length_of r ≡ Some k → IsFinal r
final_of (Ok header) k e = tt
final_of (Err fault) k e = absurd (cc)

pub whole_more : Further → (octets more : List ℕ) (k : ℕ) → whole_length octets ≡ Some k → whole_length (octets ++ more) ≡ Some k
unfolding whole_length
whole_more further octets more k e = ap length_of (further octets more (final_of (header_reading octets) k e)) ∙ e

pub whole_bounds : (octets : List ℕ) (k : ℕ) → whole_length octets ≡ Some k → (6 ≤ k) × (k ≤ length octets)
unfolding whole_length
whole_bounds (a ∷ b ∷ c ∷ d ∷ x ∷ y ∷ rest) k e = by (protocol_type_of a == 1) (version_of a == 2) (nat_lt (length rest) (two_octets c d)) refl e
  where
    by : (p v s : Bool) → nat_lt (length rest) (two_octets c d) ≡ s
        → length_of (if p then Err NotPrime else (if not v then Err (Version (version_of a) b (two_octets x y)) else (if s then Err (Cut (two_octets c d)) else Ok (record { kind = b; length = two_octets c d; number = two_octets x y })))) ≡ Some k
        → (6 ≤ k) × (k ≤ length (a ∷ b ∷ c ∷ d ∷ x ∷ y ∷ rest))
    by true v s t e = absurd (cc)
    by false false s t e = absurd (cc)
    by false true true t e = absurd (cc)
    by false true false t e =
        let is : 6 + two_octets c d ≡ k = cc in
        let fits : two_octets c d ≤ length rest = ltb-false (length rest) (two_octets c d) t in
        (omega (arith, is), omega (arith, is, fits))
whole_bounds _ k e = absurd (cc)

-- ---- one message after the other

frames_enough : (n m : ℕ) (octets : List ℕ) → length octets ≤ n → length octets ≤ m → frames_within n octets ≡ frames_within m octets
frames_enough zero zero octets p q = refl
frames_enough zero (suc m) octets p q = by (whole_length octets) refl
  where
    by : (o : Option ℕ) → whole_length octets ≡ o → ◌≡◌ {A = List (List ℕ)} [] (option_map_or (λ k. take k octets ∷ frames_within m (drop k octets)) o [])
    by None e = refl
    by (Some k) e = let b = whole_bounds octets k e in absurd (omega (arith, b.0, b.1, p))
frames_enough (suc n) zero octets p q = by (whole_length octets) refl
  where
    by : (o : Option ℕ) → whole_length octets ≡ o → ◌≡◌ {A = List (List ℕ)} (option_map_or (λ k. take k octets ∷ frames_within n (drop k octets)) o []) []
    by None e = refl
    by (Some k) e = let b = whole_bounds octets k e in absurd (omega (arith, b.0, b.1, q))
frames_enough (suc n) (suc m) octets p q = by (whole_length octets) refl (λ k r t. frames_enough n m (drop k octets) r t)
  where
    by : (o : Option ℕ) → whole_length octets ≡ o
        → ((k : ℕ) → length (drop k octets) ≤ n → length (drop k octets) ≤ m → frames_within n (drop k octets) ≡ frames_within m (drop k octets))
        → option_map_or (λ k. take k octets ∷ frames_within n (drop k octets)) o [] ≡ option_map_or (λ k. take k octets ∷ frames_within m (drop k octets)) o []
    by None e next = refl
    by (Some k) e next =
        let b = whole_bounds octets k e in
        let less : length (drop k octets) ≡ length octets - k = length-drop k octets in
        ap (λ (l : List (List ℕ)). take k octets ∷ l) (next k (omega (arith, less, b.0, p)) (omega (arith, less, b.0, q)))

rest_enough : (n m : ℕ) (octets : List ℕ) → length octets ≤ n → length octets ≤ m → rest_within n octets ≡ rest_within m octets
rest_enough zero zero octets p q = refl
rest_enough zero (suc m) octets p q = by (whole_length octets) refl
  where
    by : (o : Option ℕ) → whole_length octets ≡ o → octets ≡ option_map_or (λ k. rest_within m (drop k octets)) o octets
    by None e = refl
    by (Some k) e = let b = whole_bounds octets k e in absurd (omega (arith, b.0, b.1, p))
rest_enough (suc n) zero octets p q = by (whole_length octets) refl
  where
    by : (o : Option ℕ) → whole_length octets ≡ o → option_map_or (λ k. rest_within n (drop k octets)) o octets ≡ octets
    by None e = refl
    by (Some k) e = let b = whole_bounds octets k e in absurd (omega (arith, b.0, b.1, q))
rest_enough (suc n) (suc m) octets p q = by (whole_length octets) refl (λ k r t. rest_enough n m (drop k octets) r t)
  where
    by : (o : Option ℕ) → whole_length octets ≡ o
        → ((k : ℕ) → length (drop k octets) ≤ n → length (drop k octets) ≤ m → rest_within n (drop k octets) ≡ rest_within m (drop k octets))
        → option_map_or (λ k. rest_within n (drop k octets)) o octets ≡ option_map_or (λ k. rest_within m (drop k octets)) o octets
    by None e next = refl
    by (Some k) e next =
        let b = whole_bounds octets k e in
        let less : length (drop k octets) ≡ length octets - k = length-drop k octets in
        next k (omega (arith, less, b.0, p)) (omega (arith, less, b.0, q))

none_within : (n : ℕ) (octets : List ℕ) → whole_length octets ≡ None → (frames_within n octets ≡ []) × (rest_within n octets ≡ octets)
none_within zero octets e = (refl, refl)
none_within (suc n) octets e = (rw e refl, rw e refl)

pub frames_none : (octets : List ℕ) → whole_length octets ≡ None → (frames octets ≡ []) × (rest_of octets ≡ octets)
unfolding frames rest_of
frames_none octets e = none_within (length octets) octets e

some_within : (n : ℕ) (octets : List ℕ) (k : ℕ) → length octets ≤ n → whole_length octets ≡ Some k
    → (frames_within n octets ≡ take k octets ∷ frames_within (length (drop k octets)) (drop k octets)) × (rest_within n octets ≡ rest_within (length (drop k octets)) (drop k octets))
some_within zero octets k le e = let b = whole_bounds octets k e in absurd (omega (arith, b.0, b.1, le))
some_within (suc n) octets k le e =
    let b = whole_bounds octets k e in
    let less : length (drop k octets) ≡ length octets - k = length-drop k octets in
    let fits : length (drop k octets) ≤ n = omega (arith, less, b.0, le) in (
      ap (λ (o : Option ℕ). option_map_or (λ j. take j octets ∷ frames_within n (drop j octets)) o []) e
          ∙ ap (λ (l : List (List ℕ)). take k octets ∷ l) (frames_enough n (length (drop k octets)) (drop k octets) fits (omega arith)),
      ap (λ (o : Option ℕ). option_map_or (λ j. rest_within n (drop j octets)) o octets) e ∙ rest_enough n (length (drop k octets)) (drop k octets) fits (omega arith),
    )

pub frames_some : (octets : List ℕ) (k : ℕ) → whole_length octets ≡ Some k → (frames octets ≡ take k octets ∷ frames (drop k octets)) × (rest_of octets ≡ rest_of (drop k octets))
unfolding frames rest_of
frames_some octets k e = some_within (length octets) octets k (omega arith) e

-- ---- cut in two

abbrev IsCut : List ℕ → List ℕ → Type 0
IsCut part more = (frames (part ++ more) ≡ frames part ++ frames (rest_of part ++ more)) × (rest_of (part ++ more) ≡ rest_of (rest_of part ++ more))

cut_none : (part more : List ℕ) → whole_length part ≡ None → IsCut part more
cut_none part more e = let f = frames_none part e in (rw (f.0, f.1) refl, rw f.1 refl)

cut_some : Further → (part more : List ℕ) (k : ℕ) → whole_length part ≡ Some k → IsCut (drop k part) more → IsCut part more
cut_some further part more k e rest =
    let b = whole_bounds part k e in
    let here = frames_some part k e in
    let joined = frames_some (part ++ more) k (whole_more further part more k e) in (
      joined.0
          ∙ (λ i. take-append-le k part more b.1 i ∷ frames (drop-append-le k part more b.1 i))
          ∙ ap (λ (l : List (List ℕ)). take k part ∷ l) (rest.0 ∙ ap (λ (l : List ℕ). frames (drop k part) ++ frames (l ++ more)) (sym here.1))
          ∙ ap (λ (l : List (List ℕ)). l ++ frames (rest_of part ++ more)) (sym here.0),
      joined.1 ∙ ap rest_of (drop-append-le k part more b.1) ∙ rest.1 ∙ ap (λ (l : List ℕ). rest_of (l ++ more)) (sym here.1),
    )

cut_within : Further → (n : ℕ) (part more : List ℕ) → length part ≤ n → IsCut part more
cut_within further zero part more le = by (whole_length part) refl
  where
    by : (o : Option ℕ) → whole_length part ≡ o → IsCut part more
    by None e = cut_none part more e
    by (Some k) e = let b = whole_bounds part k e in absurd (omega (arith, b.0, b.1, le))
cut_within further (suc n) part more le = by (whole_length part) refl (λ k fits. cut_within further n (drop k part) more fits)
  where
    by : (o : Option ℕ) → whole_length part ≡ o → ((k : ℕ) → length (drop k part) ≤ n → IsCut (drop k part) more) → IsCut part more
    by None e next = cut_none part more e
    by (Some k) e next =
        let b = whole_bounds part k e in
        let less : length (drop k part) ≡ length part - k = length-drop k part in
        cut_some further part more k e (next k (omega (arith, less, b.0, le)))

pub cut_in_two : Further → (part more : List ℕ) → (frames (part ++ more) ≡ frames part ++ frames (rest_of part ++ more)) × (rest_of (part ++ more) ≡ rest_of (rest_of part ++ more))
cut_in_two further part more = cut_within further (length part) part more (omega arith)

-- ---- bad octets

pub bad_none : (octets : List ℕ) (kind : FrameKind) → first_fault octets ≡ Some kind → whole_length octets ≡ None
unfolding whole_length
bad_none (a ∷ b ∷ c ∷ d ∷ x ∷ y ∷ rest) kind e = by (protocol_type_of a == 1) (version_of a == 2) (nat_lt (length rest) (two_octets c d)) e
  where
    by : (p v s : Bool) → (if p then Some kinds.NotPrime else (if v then None else Some kinds.Version)) ≡ Some kind
        → length_of (if p then Err NotPrime else (if not v then Err (Version (version_of a) b (two_octets x y)) else (if s then Err (Cut (two_octets c d)) else Ok (record { kind = b; length = two_octets c d; number = two_octets x y })))) ≡ None
    by true v s e = refl
    by false false s e = refl
    by false true s e = absurd (cc)
bad_none _ kind e = refl
