-- The fields whose octets are bound by others or by a limit, each as a part.
use Rattle.std.proofs.Common.{◌≡◌, ℕ, suc, ◌+◌, ◌*◌, ◌^◌, ◌<◌, ◌≤◌, ◌==◌, Bool, true, false, cond, ltb, List, [], ◌∷◌, ◌++◌, length, take, get_or, Ok, Err, refl, ap, ◌∙◌, inl, inr, arith, ◌↔◌}
use Rattle.std.proofs.Math.Nat.{mul-le-mul_right}
use Rattle.std.proofs.lemmas.Bool.{cases_Bool, cases_lt, eq-eqb, eqb-false, eqb-true, le-leb, le-ltb, lt-ltb, ne_eqb}
use Rattle.std.proofs.lemmas.List.{length-append}
use Rattle.byteorder.specs.Endian.{big_bytes, big_number}
use Rattle.entry_codec.specs.Reading.{◌>>=◌, Read, at_most, exactly, is_length, last_moment_octets, length_at, moment_at, octets_at}
use Rattle.entry_codec.specs.Spelling.{AreBelow}
use Rattle.byteorder.specs.Numbers.{big_from-cons, big_from-lt, big_from-take}
use Rattle.entry_codec.proofs.Lists.{AreBelow-append, places-AreBelow}
use Rattle.entry_codec.proofs.Fields.{AreOctets, bytes_below, number_of_bytes, octets_part, wide4, wide8}
use Rattle.entry_codec.proofs.Parts.{IsPart, bind_assoc, nothing_part, one_part, onto_part, pair_part}

-- ---- given octets

abbrev pub given_at : List ℕ → List ℕ → Read (Unit {0})
given_at wanted octets = exactly wanted octets >>= λ rest. Ok (tt, rest)

given_octet : (b : ℕ) → IsPart (λ u. Unit {0}) (λ u. b ∷ []) (given_at (b ∷ []))
given_octet b =
    one_part (λ u. b) (tt, tt) refl (λ u x octets f is. rw (eq-eqb x b is) refl)
    (λ x octets small. elim (cases_Bool (x == b)) [
      | inl is ↦ inl (tt, tt, eqb-true x b is)
      | inr other ↦
          inr (rw other refl)
    ])

given_more : (b : ℕ) (wanted octets : List ℕ) → given_at (b ∷ wanted) octets ≡
    (given_at (b ∷ []) octets >>= λ x. given_at wanted x.1 >>= λ y. Ok (tt, y.1))
given_more b wanted [] = refl
given_more b wanted (x ∷ octets) = elim (cases_Bool (x == b)) [
  | inl is ↦ rw is (simp bind_assoc)
  | inr other ↦ rw other refl
]

pub given_part : (wanted : List ℕ) → IsPart (λ u. Unit {0}) (λ u. wanted) (given_at wanted)
given_part [] = nothing_part
given_part (b ∷ wanted) =
    onto_part (λ t. tt) (pair_part (given_octet b) (λ u f. given_part wanted))
    (record { fits = λ t f. tt; spelled = λ t f. refl; from = λ u f. ((tt, tt), (tt, tt), refl) })
    (λ octets. given_more b wanted octets ∙ simp bind_assoc)

-- ---- a number that is at most another

-- octets of a number that is at most the one with the bound's octets
abbrev AreAtMost : List ℕ → List ℕ → Type 0
AreAtMost bound raw = AreOctets (length bound) raw × (big_number (length bound) raw ≤ big_number (length bound) bound)

abbrev at_most_at : List ℕ → List ℕ → Read (List ℕ)
at_most_at bound octets = at_most bound octets >>= λ rest. Ok (take (length bound) octets, rest)

-- the first octet, which is at most the bound's
abbrev first_at : ℕ → List ℕ → Read ℕ
first_at b [] = Err []
first_at b (x ∷ octets) = cond (ltb b x) (Err (x ∷ octets)) (Ok (x, octets))

-- the octets behind it, which are bound where it is the bound's
abbrev rest_at : ℕ → List ℕ → ℕ → List ℕ → Read (List ℕ)
rest_at b bound x octets = cond (x == b) (at_most_at bound octets) (octets_at (length bound) octets)

first_part : (b : ℕ) → IsPart (λ x. x ≤ b) (λ x. x ∷ []) (first_at b)
first_part b =
    one_part (λ x. x) (b, omega arith) refl (λ a x octets le is. rw (le-ltb b x (omega arith), is) refl)
    (λ x octets small. elim (cases_lt b x) [ inl lt ↦ inr (rw (lt-ltb b x lt) refl) | inr le ↦ inl (x, le, refl) ])

first_and_rest : (b : ℕ) (bound octets : List ℕ) → at_most_at (b ∷ bound) octets ≡
    (first_at b octets >>= λ x. rest_at b bound x.0 x.1 >>= λ y. Ok (x.0 ∷ y.0, y.1))
first_and_rest b bound [] = refl
first_and_rest b bound (x ∷ octets) = elim (cases_Bool (x == b)) [
  | inl is ↦ rw (le-ltb b x (omega (arith, eqb-true x b is)), is) (simp bind_assoc)
  | inr other ↦ elim (cases_Bool (ltb b x)) [
    | inl above ↦ rw (above, other) refl
    | inr low ↦ rw (low, other) (elim (cases_Bool (ltb (length octets) (length bound)))
        [ inl cut ↦ rw cut refl | inr long ↦ rw long refl ])
  ]
]

-- numbers are compared by their first octet, and by the others where that is the same
abbrev IsLess : ℕ → ℕ → ℕ → ℕ → Type 0
IsLess x n b m = (x ≤ b) × (x ≡ b → n ≤ m)

less_from : (p x n b m : ℕ) → n < p → m < p → x * p + n ≤ b * p + m → IsLess x n b m
less_from p x n b m np mp le = elim (cases_lt b x) [
  | inl lt ↦ absurd (omega (arith, mul-le-mul_right p lt))
  | inr low ↦ (low, λ same. let e : x * p ≡ b * p = ap (λ (y : ℕ). y * p) same in omega arith)
]

less_to : (p x n b m : ℕ) → n < p → IsLess x n b m → x * p + n ≤ b * p + m
less_to p x n b m np less = elim (cases_lt x b) [
  | inl lt ↦ omega (arith, mul-le-mul_right p lt)
  | inr ge ↦
      let same : x ≡ b = omega (arith, less.0) in
      let e : x * p ≡ b * p = ap (λ (y : ℕ). y * p) same in
      omega (arith, less.1 same)
]

-- what stands behind the first octet x
abbrev IsRest : ℕ → List ℕ → ℕ → List ℕ → Type 0
IsRest b bound x raw = AreOctets (length bound) raw × (x ≡ b →
    big_number (length bound) raw ≤ big_number (length bound) bound)

rest_part : (b : ℕ) (bound : List ℕ) → IsPart (AreAtMost bound) (λ raw. raw) (at_most_at bound) → (x : ℕ) (t : Bool) →
    (x == b) ≡ t
    → IsPart (IsRest b bound x) (λ raw. raw) (λ octets. cond t (at_most_at bound octets)
    (octets_at (length bound) octets))
rest_part b bound p x true is =
    onto_part (λ raw. raw) p
    (record {
      fits = λ raw f. (f.0, λ e. f.1);
      spelled = λ raw f. refl;
      from = λ raw f. (raw, (f.0, f.1 (eqb-true x b is)), refl);
    })
    (λ octets. simp bind_assoc)
rest_part b bound p x false is =
    onto_part (λ raw. raw) (octets_part (length bound))
    (record {
      fits = λ raw f. (f, λ e. absurd (eqb-false x b is e));
      spelled = λ raw f. refl;
      from = λ raw f. (raw, f.0, refl);
    })
    (λ octets. elim (cases_Bool (ltb (length octets) (length bound)))
    [ inl cut ↦ rw cut refl | inr long ↦ rw long refl ])

-- numbers of octets are compared so
at_most_cons : (b : ℕ) (bound : List ℕ) (x : ℕ) (raw : List ℕ) → AreBelow 256 (b ∷ bound) → AreOctets (length bound) raw
    → (big_number (suc (length bound)) (x ∷ raw) ≤ big_number (suc (length bound)) (b ∷ bound)) ↔
    IsLess x (big_number (length bound) raw) b (big_number (length bound) bound)
at_most_cons b bound x raw small are =
    let below : (o : List ℕ) → AreBelow 256 o → big_number (length bound) o < 256 ^ length bound =
    λ o low. big_from-lt 0 (length bound) o (places-AreBelow 256 o (omega arith) low) in
    rw (big_from-cons 0 (length bound) x raw, big_from-cons 0 (length bound) b bound) (
      less_from (256 ^ length bound) x _ b _ (below raw are.1) (below bound small.1),
      less_to (256 ^ length bound) x _ b _ (below raw are.1),
    )

at_most_part : (bound : List ℕ) → AreBelow 256 bound → IsPart (AreAtMost bound) (λ raw. raw) (at_most_at bound)
at_most_part [] small =
    onto_part (λ u. []) nothing_part
    (record { fits = λ u f. ((refl, tt), omega arith); spelled = λ u f. refl; from = λ raw f. none raw f.0.0 })
    (λ octets. refl)
  where
    none : (raw : List ℕ) → length raw ≡ 0 → (u : Unit {0}) × Unit {0} × ([] ≡ raw)
    none [] e = (tt, tt, refl)
    none (x ∷ raw) e = absurd (omega arith)
at_most_part (b ∷ bound) small =
    let p = at_most_part bound small.1 in
    onto_part (λ t. t.0 ∷ t.1) (pair_part (first_part b) (λ x le. rest_part b bound p x (x == b) refl))
    (record {
      fits = λ t f. (
        (ap suc f.1.0.0, (omega (arith, f.0, small.0), f.1.0.1)),
        (at_most_cons b bound t.0 t.1 small f.1.0).1 (f.0, f.1.1),
      );
      spelled = λ t f. refl;
      from = λ raw f. from raw f;
    })
    (λ octets. first_and_rest b bound octets ∙ simp bind_assoc)
  where
    from : (raw : List ℕ) → AreAtMost (b ∷ bound) raw → (t : ℕ × List ℕ) × ((t.0 ≤ b) × IsRest b bound t.0 t.1)
        × (t.0 ∷ t.1 ≡ raw)
    from [] f = absurd (omega (arith, f.0.0))
    from (x ∷ raw) f =
        let are : AreOctets (length bound) raw = (omega (arith, f.0.0), f.0.1.1) in
        let less = (at_most_cons b bound x raw small are).0 f.1 in
        ((x, raw), (less.0, (are, less.1)), refl)

-- ---- the moment

abbrev pub IsMoment : ℕ → Type 0
IsMoment m = m ≤ 4102444799

pub moment_part : IsPart IsMoment (big_bytes 8) moment_at
unfolding moment_at
moment_part =
    onto_part (big_number 8) (at_most_part last_moment_octets (omega arith))
    (record {
      fits = λ raw f. f.1;
      spelled = λ raw f. wide8 raw f.0;
      from = λ m le.
          let same = number_of_bytes 8 m (omega (arith, le)) in
          (big_bytes 8 m, ((refl, bytes_below 8 m), rw same le), same);
    })
    (λ octets. rw (bind_assoc (at_most last_moment_octets octets), big_from-take 0 8 8 octets (omega arith)) refl)

-- ---- the length

abbrev pub IsLength : ℕ → Type 0
IsLength n = (is_length n ≡ true) × (n < 256 ^ 4)

pub is_length_long : (n : ℕ) → 37 ≤ n → is_length n ≡ true
is_length_long n le =
    rw (ne_eqb n 25 (omega arith), ne_eqb n 32 (omega arith), ne_eqb n 33 (omega arith)) (le-leb 37 n le)

-- the last octet of a length
abbrev IsLast : List ℕ → ℕ → Type 0
IsLast raw x = (is_length (big_number 4 (raw ++ x ∷ [])) ≡ true) × (x < 256)

abbrev last_at : List ℕ → List ℕ → Read ℕ
last_at raw [] = Err []
last_at raw (x ∷ octets) = cond (is_length (big_number 4 (raw ++ x ∷ []))) (Ok (x, octets)) (Err (x ∷ octets))

last_part : (raw : List ℕ) → AreOctets 3 raw → IsPart (IsLast raw) (λ x. x ∷ []) (last_at raw)
last_part raw fits =
    one_part (λ x. x) (255, (long raw fits.0, omega arith)) refl (λ a x octets last is. rw (is, last.0) refl)
    (λ x octets small. elim (cases_Bool (is_length (big_number 4 (raw ++ x ∷ [])))) [
      | inl good ↦ inl (x, (good, small), refl)
      | inr bad ↦ inr (rw bad refl)
    ])
  where
    long : (raw : List ℕ) → length raw ≡ 3 → is_length (big_number 4 (raw ++ 255 ∷ [])) ≡ true
    long (a ∷ b ∷ c ∷ []) e = is_length_long (big_number 4 (a ∷ b ∷ c ∷ 255 ∷ [])) (omega arith)
    long raw e = absurd (omega arith)

pub length_part : IsPart IsLength (big_bytes 4) length_at
length_part =
    onto_part (λ t. big_number 4 (t.0 ++ t.1 ∷ [])) (pair_part (octets_part 3) (λ raw fits. last_part raw fits))
    (record {
      fits = λ t f. (
        f.1.0,
        big_from-lt 0 4 (t.0 ++ t.1 ∷ [])
            (places-AreBelow 256 _ (omega arith) (four t.0 t.1 f.0 f.1.1).1),
      );
      spelled = λ t f. wide4 (t.0 ++ t.1 ∷ []) (four t.0 t.1 f.0 f.1.1);
      from = λ n f.
          let raw = take 3 (big_bytes 4 n) in
          let small = bytes_below 4 n in
          let same = number_of_bytes 4 n f.1 in (
            (raw, get_or (big_bytes 4 n) 3 0),
            (
              (refl, (small.0, (small.1.0, (small.1.1.0, tt)))),
              (rw same f.0, small.1.1.1.0),
            ),
            same,
          );
    })
    (λ octets. by_four octets ∙ simp bind_assoc)
  where
    four : (raw : List ℕ) (x : ℕ) → AreOctets 3 raw → x < 256 → AreOctets 4 (raw ++ x ∷ [])
    four raw x fits lt = (
      omega (arith, fits.0, length-append raw (x ∷ [])),
      AreBelow-append 256 raw (x ∷ []) fits.1 (lt, tt),
    )

    by_four : (octets : List ℕ) → length_at octets ≡ (octets_at 3 octets >>= λ r. last_at r.0 r.1 >>= λ x.
        Ok (big_number 4 (r.0 ++ x.0 ∷ []), x.1))
    by_four (a ∷ b ∷ c ∷ d ∷ octets) =
        rw (
          le-ltb (length (a ∷ b ∷ c ∷ d ∷ octets)) 4 (omega arith),
          le-ltb (length (a ∷ b ∷ c ∷ d ∷ octets)) 3 (omega arith),
        )
        (elim (cases_Bool (is_length (big_number 4 (a ∷ b ∷ c ∷ d ∷ octets))))
        [ inl good ↦ rw good refl | inr bad ↦ rw bad refl ])
    by_four [] = refl
    by_four (a ∷ []) = refl
    by_four (a ∷ b ∷ []) = refl
    by_four (a ∷ b ∷ c ∷ []) = refl
