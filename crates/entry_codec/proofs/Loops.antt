-- Reading octet by octet, as a loop does.
use Rattle.std.proofs.Common.{◌≡◌, ℕ, zero, suc, ◌+◌, ◌-◌, ◌*◌, ◌/◌, ◌<◌, ◌≤◌, List, [], ◌∷◌, length, take, drop, refl, sym, ◌∙◌, arith, drop-drop}
use Rattle.std.proofs.Math.Seq.{drop-cons}
use Rattle.std.proofs.lemmas.Bool.{le-ltb}
use Rattle.std.proofs.lemmas.List.{nil_from_length, drop-take}
use Rattle.byteorder.specs.Endian.{IsRead, big_number}
use Rattle.entry_codec.specs.Reading.{at_most, exactly, numbers_at, numbers_in}
use Rattle.byteorder.specs.Numbers.{big_from-take}
use Rattle.entry_codec.proofs.Parts.{err, ok}

pub exactly_ends : (wanted octets rest : List ℕ) (i : ℕ) → i < length wanted → exactly (drop i wanted) rest ≡ exactly wanted octets → length rest ≡ 0 → exactly wanted octets ≡ err rest
exactly_ends wanted octets rest i lt so_far none =
    let empty : rest ≡ [] = nil_from_length rest none in
    sym so_far ∙ rw (drop-cons wanted i 0, empty) refl

pub at_most_ends : (bound octets rest : List ℕ) (i : ℕ) → i < length bound → at_most (drop i bound) rest ≡ at_most bound octets → length rest ≡ 0 → at_most bound octets ≡ err rest
at_most_ends bound octets rest i lt so_far none =
    let empty : rest ≡ [] = nil_from_length rest none in
    sym so_far ∙ rw (drop-cons bound i 0, empty) refl

numbers_are : (count : ℕ) (src dst : List ℕ) → length dst ≡ count → IsRead (λ n xs. big_number n xs) 8 src dst → dst ≡ numbers_in count src
numbers_are zero src [] len read = refl
numbers_are zero src (x ∷ dst) len read = absurd (omega (arith, len))
numbers_are (suc count) src [] len read = absurd (omega (arith, len))
numbers_are (suc count) src (x ∷ dst) len read =
    let first : x ≡ big_number 8 src = read 0 (omega arith) in
    let later : IsRead (λ n xs. big_number n xs) 8 (drop 8 src) dst =
    λ k lt. let size : 8 * suc k ≡ 8 + 8 * k = omega arith in read (suc k) (omega arith) ∙
    rw (size, drop-drop (8 * k) 8 src) refl in
    let others = numbers_are count (drop 8 src) dst (omega (arith, len)) later in
    cc

pub numbers_given : (count : ℕ) (octets front rest dst : List ℕ) → count ≤ length octets / 8 → front ≡ take (8 * count) octets → rest ≡ drop (8 * count) octets → length dst ≡ count → IsRead (λ n xs. big_number n xs) 8 front dst → numbers_at count octets ≡ ok (dst, rest)
numbers_given count octets front rest dst enough front-is rest-is len read =
    let each : IsRead (λ n xs. big_number n xs) 8 octets dst = λ k lt.
    let size : 8 * count ≡ 8 * k + 8 * (count - k) = omega arith in
    read k lt ∙ rw (front-is, size, drop-take (8 * k) (8 * (count - k)) octets)
    (big_from-take 0 8 (8 * (count - k)) (drop (8 * k) octets) (omega arith)) in
    rw (le-ltb (length octets) (8 * count) (omega arith), ← rest-is, ← numbers_are count octets dst len each) refl
