-- The fields of an entry, each as a part.
use Rattle.std.proofs.Common.{◌≡◌, ℕ, zero, suc, ◌+◌, ◌-◌, ◌*◌, ◌%◌, ◌^◌, ◌<◌, ◌≤◌, Bool, true, false, cond, ltb, List, [], ◌∷◌, ◌++◌, length, take, drop, replicate, Ok, Err, refl, sym, ap, subst, ◌∙◌, inl, inr, arith, drop-drop}
use Rattle.std.specs.List.{flat_map}
use Rattle.std.proofs.lemmas.Bool.{cases_lt, le-ltb, lt-ltb}
use Rattle.std.proofs.lemmas.List.{append-nil, take_at, drop_at, take-append-drop, length-append, length-replicate, length-take, length-drop}
use Rattle.std.proofs.lemmas.List.Concat.{flat_map-cons}
use Rattle.std.proofs.lemmas.Nat.{be_bytes_2, be_bytes_4, be_bytes_8}
use Rattle.byteorder.specs.Endian.{big_bytes, big_number}
use Rattle.byteorder.specs.Numbers.{big_from-append, big_from-lt, big_from-take, big_number-reads_back, length-bytes_high_first}
use Rattle.entry_codec.specs.Reading.{◌>>=◌, Read, number_at, numbers_at, octets_at}
use Rattle.entry_codec.specs.Spelling.{AreBelow}
use Rattle.entry_codec.proofs.Lists.{AreBelow-append, AreBelow-replicate, AreBelow-take, places-AreBelow}
use Rattle.entry_codec.proofs.Parts.{IsPart, bind_assoc, err, err_is, nothing_part, not_both, ok, ok_is, onto_part, pair_part}

-- ---- octets

abbrev pub AreOctets : ℕ → List ℕ → Type 0
AreOctets count raw = (length raw ≡ count) × AreBelow 256 raw

octets_cut : (count : ℕ) (octets : List ℕ) → length octets < count → octets_at count octets ≡ err []
octets_cut count octets lt = rw (lt-ltb (length octets) count lt) refl

octets_long : (count : ℕ) (octets : List ℕ) → count ≤ length octets → octets_at count octets
    ≡ ok (take count octets, drop count octets)
octets_long count octets le = rw (le-ltb (length octets) count le) refl

pub octets_part : (count : ℕ) → IsPart (AreOctets count) (λ raw. raw) (octets_at count)
octets_part count = record {
  some = (replicate count 0, (length-replicate {A = ℕ} count 0, AreBelow-replicate 256 count (omega arith)));
  takes = λ octets raw rest small e. elim (cases_lt (length octets) count) [
    | inl lt ↦ absurd (not_both (raw, rest) [] (sym e ∙ octets_cut count octets lt))
    | inr le ↦
        let same = ok_is (take count octets, drop count octets) (raw, rest) (sym (octets_long count octets le) ∙ e) in
        subst (λ (p : List ℕ × List ℕ). AreOctets count p.0 × (octets ≡ p.0 ++ p.1)) same (
          (omega (arith, length-take count octets, le), AreBelow-take 256 count octets small),
          sym (take-append-drop count octets),
        )
  ];
  again = λ raw rest fits.
      octets_long count (raw ++ rest) (omega (arith, length-append raw rest, fits.0))
      ∙ rw (take_at raw rest count fits.0, drop_at raw rest count fits.0) refl;
  stops = λ octets rest small e. elim (cases_lt (length octets) count) [
    | inl lt ↦
        let none = err_is {A = List ℕ × List ℕ} [] rest (sym (octets_cut count octets lt) ∙ e) in
        let pad : List ℕ = replicate (count - length octets) 0 in
        record {
          front = octets;
          parts = sym (append-nil octets) ∙ ap (λ (t : List ℕ). octets ++ t) none;
          value = octets ++ pad;
          fits = (
            omega (arith, length-append octets pad, length-replicate {A = ℕ} (count - length octets) 0, lt),
            AreBelow-append 256 octets pad small (AreBelow-replicate 256 (count - length octets) (omega arith)),
          );
          more = pad;
          begins = refl;
          refused = λ h t at c z fits begins. let both = none ∙ at in absurd cc;
        }
    | inr le ↦ absurd (not_both (take count octets, drop count octets) rest (sym (octets_long count octets le) ∙ e))
  ];
}

-- ---- numbers

-- octets are those of the number that they spell
abbrev pub IsWide : ℕ → Type 0
IsWide w = (raw : List ℕ) → AreOctets w raw → big_bytes w (big_number w raw) ≡ raw

pub wide1 : IsWide 1
wide1 (x ∷ []) fits = let e : (x * 1 + 0) % 256 ≡ x = omega (arith, fits.1.0) in ap (λ (y : ℕ). y ∷ []) e
wide1 raw fits = absurd (omega (arith, fits.0))

pub wide2 : IsWide 2
wide2 raw fits = be_bytes_2 raw (big_number 2 raw) fits.0 (places-AreBelow 256 raw (omega arith) fits.1) (omega arith)

pub wide4 : IsWide 4
wide4 raw fits = be_bytes_4 raw (big_number 4 raw) fits.0 (places-AreBelow 256 raw (omega arith) fits.1) (omega arith)

pub wide8 : IsWide 8
wide8 raw fits = be_bytes_8 raw (big_number 8 raw) fits.0 (places-AreBelow 256 raw (omega arith) fits.1) (omega arith)

pub bytes_below : (w x : ℕ) → AreBelow 256 (big_bytes w x)
bytes_below zero x = tt
bytes_below (suc zero) x = (omega arith, tt)
bytes_below (suc (suc w)) x = (omega arith, bytes_below (suc w) x)

pub number_of_bytes : (w x : ℕ) → x < 256 ^ w → big_number w (big_bytes w x) ≡ x
number_of_bytes w x lt = sym (big_from-append w (big_bytes w x) [] (omega (arith, length-bytes_high_first w x))) ∙ big_number-reads_back w x [] lt

-- a number is below a bound
abbrev pub IsNumber : ℕ → ℕ → Type 0
IsNumber w x = x < 256 ^ w

if_read : (w : ℕ) (octets : List ℕ) (b : Bool)
    → (let r : Read ℕ = cond b (Err []) (Ok (big_number w (take w octets), drop w octets)) in r) ≡
    ((let r : Read (List ℕ) = cond b (Err []) (Ok (take w octets, drop w octets)) in r) >>= λ x.
    Ok (big_number w x.0, x.1))
if_read w octets true = refl
if_read w octets false = refl

pub number_part : (w : ℕ) → IsWide w → IsPart (IsNumber w) (big_bytes w) (number_at w)
number_part w wide =
    onto_part (big_number w) (octets_part w)
    (record {
      fits = λ raw f. big_from-lt 0 w raw (places-AreBelow 256 raw (omega arith) f.1);
      spelled = λ raw f. wide raw f;
      from = λ x lt. (big_bytes w x, (length-bytes_high_first w x, bytes_below w x), number_of_bytes w x lt);
    })
    (λ octets. ap (λ (n : ℕ). let r : Read ℕ = cond (ltb (length octets) w) (Err []) (Ok (n, drop w octets)) in r)
    (sym (big_from-take 0 w w octets (omega arith))) ∙ if_read w octets (ltb (length octets) w))

-- ---- a list of numbers

abbrev pub AreNumbers : ℕ → List ℕ → Type 0
AreNumbers count xs = (length xs ≡ count) × AreBelow (2 ^ 64) xs

pub length_numbers : (xs : List ℕ) → length (flat_map (big_bytes 8) xs) ≡ 8 * length xs
length_numbers [] = refl
length_numbers (x ∷ xs) = omega (arith, ap length (flat_map-cons (big_bytes 8) x xs), length-append (big_bytes 8 x) (flat_map (big_bytes 8) xs), length-bytes_high_first 8 x, length_numbers xs)

-- one number, and so many behind it
one_and : (count : ℕ) (o : List ℕ) → numbers_at (suc count) o ≡
    (number_at 8 o >>= λ x. numbers_at count x.1 >>= λ xs. Ok (x.0 ∷ xs.0, xs.1))
one_and count o =
    let rest = length-drop 8 o in
    let size : 8 * suc count ≡ 8 + 8 * count = omega arith in
    elim (cases_lt (length o) (8 * suc count)) [
      | inr le ↦
          rw (le-ltb (length o) (8 * suc count) le, le-ltb (length o) 8 (omega arith))
          (rw (le-ltb (length (drop 8 o)) (8 * count) (omega arith)) (rw (size, drop-drop (8 * count) 8 o) refl))
      | inl lt ↦ elim (cases_lt (length o) 8) [
        | inl cut ↦ rw (lt-ltb (length o) (8 * suc count) lt, lt-ltb (length o) 8 cut) refl
        | inr le ↦
            rw (lt-ltb (length o) (8 * suc count) lt, le-ltb (length o) 8 le)
            (rw (lt-ltb (length (drop 8 o)) (8 * count) (omega arith)) refl)
      ]
    ]

pub numbers_part : (count : ℕ) → IsPart (AreNumbers count) (flat_map (big_bytes 8)) (numbers_at count)
numbers_part zero =
    onto_part (λ u. []) nothing_part (record {
      fits = λ u f. (refl, tt);
      spelled = λ u f. refl;
      from = λ xs f. none xs f;
    })
    (λ octets. rw (le-ltb (length octets) 0 (omega arith)) refl)
  where
    none : (xs : List ℕ) → AreNumbers 0 xs → (u : Unit {0}) × Unit {0} × ([] ≡ xs)
    none [] f = (tt, tt, refl)
    none (x ∷ xs) f = absurd (omega (arith, f.0))
numbers_part (suc count) =
    onto_part (λ t. t.0 ∷ t.1) (pair_part (number_part 8 wide8) (λ x f. numbers_part count))
    (record {
      fits = λ t f. (ap suc f.1.0, (f.0, f.1.1));
      spelled = λ t f. flat_map-cons (big_bytes 8) t.0 t.1;
      from = λ xs f. first xs f;
    })
    (λ octets. one_and count octets ∙ simp bind_assoc)
  where
    first : (xs : List ℕ) → AreNumbers (suc count) xs → (t : ℕ × List ℕ) × (IsNumber 8 t.0 × AreNumbers count t.1)
        × (t.0 ∷ t.1 ≡ xs)
    first [] f = absurd (omega (arith, f.0))
    first (x ∷ xs) f = ((x, xs), (f.1.0, (omega (arith, f.0), f.1.1)), refl)
