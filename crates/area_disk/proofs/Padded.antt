-- Octets with octets 0 behind them.
use Rattle.std.proofs.Common.{◌≡◌, ℕ, ◌+◌, ◌-◌, ◌≤◌, List, ◌++◌, length, take, drop, sym, ap, ◌∙◌, append_assoc, arith, length-append, length-drop}
use Rattle.std.proofs.lemmas.List.{append-nil, drop-append-le, drop-replicate, replicate-append-replicate, take-append-le, take-replicate}
use Rattle.std.proofs.Math.Seq.{drop-append-add, take-append-add}
use Rattle.area_disk.specs.Disk.{overwritten, zeros}
use Rattle.area_disk.specs.Octets.{length-overwritten, length_zeros}
use Rattle.area_disk.specs.Quiet.{padded}

pub length_padded : (n : ℕ) (octets : List ℕ) → length octets ≤ n → length (padded n octets) ≡ n
length_padded n octets le = omega (arith, length-append octets (zeros (n - length octets)), length_zeros (n - length octets))

pub padded_reaches : (n : ℕ) (octets : List ℕ) → n ≤ length (padded n octets)
padded_reaches n octets = omega (arith, length-append octets (zeros (n - length octets)), length_zeros (n - length octets))

-- octets that reach so far are padded with none
pub padded_whole : (n : ℕ) (octets : List ℕ) → n ≤ length octets → padded n octets ≡ octets
unfolding zeros
padded_whole n octets le =
    let none : n - length octets ≡ 0 = omega arith in
    ap (λ k. octets ++ zeros k) none ∙ append-nil octets

padded_twice : (m n : ℕ) (octets : List ℕ) → m ≤ n → length octets ≤ n → padded n (padded m octets) ≡ padded n octets
unfolding zeros
padded_twice m n octets le fits =
    append_assoc octets (zeros (m - length octets)) (zeros (n - length (padded m octets)))
    ∙ ap (λ (l : List ℕ). octets ++ l) (replicate-append-replicate (m - length octets) (n - length (padded m octets)) 0
    ∙ ap zeros (omega (arith, length-append octets (zeros (m - length octets)), length_zeros (m - length octets))))

-- a write into padded octets is one into those that reach its end
pub overwritten_padded : (n at : ℕ) (octets from : List ℕ) → at + length from ≤ n → length octets ≤ n
    → padded n (overwritten (padded (at + length from) octets) at from) ≡ overwritten (padded n octets) at from
overwritten_padded n at octets from inside fits =
    ap (λ k. overwritten some at from ++ zeros (n - k)) (length-overwritten some at from reaches)
    ∙ append_assoc (take at some ++ from) (drop end some) rest
    ∙ (λ i. sym (take-append-le at some rest (omega (arith, reaches))) i ++ from ++ sym (drop-append-le end some rest reaches) i)
    ∙ ap (λ (l : List ℕ). overwritten l at from) (padded_twice end n octets inside fits)
  where
    end : ℕ
    end = at + length from

    some : List ℕ
    some = padded end octets

    rest : List ℕ
    rest = zeros (n - length some)

    reaches : end ≤ length some
    reaches = padded_reaches end octets

pub length_written : (n at : ℕ) (octets from : List ℕ) → at + length from ≤ n → length octets ≤ n
    → length (overwritten (padded (at + length from) octets) at from) ≤ n
length_written n at octets from inside fits =
    let end = at + length from in
    omega (arith, inside, fits, length-overwritten (padded end octets) at from (padded_reaches end octets), length-append octets (zeros (end - length octets)), length_zeros (end - length octets))

-- ---- reading

-- so many octets of some and then of zeros
zeros_behind : (m k : ℕ) (octets : List ℕ) → length octets ≤ k → k ≤ length octets + m → take k (octets ++ zeros m) ≡ octets ++ zeros (k - length octets)
unfolding zeros
zeros_behind m k octets le fits =
    ap (λ j. take j (octets ++ zeros m)) (let e : k ≡ length octets + (k - length octets) = omega arith in e)
    ∙ take-append-add octets (zeros m) (k - length octets)
    ∙ ap (λ (l : List ℕ). octets ++ l) (take-replicate (k - length octets) m 0 (omega (arith, fits)))

pub read_over : (n at k : ℕ) (octets : List ℕ) → at ≤ length octets → length octets ≤ at + k → at + k ≤ n
    → take k (drop at (padded n octets)) ≡ drop at octets ++ zeros (k - (length octets - at))
read_over n at k octets here over inside =
    ap (take k) (drop-append-le at octets (zeros (n - length octets)) here)
    ∙ zeros_behind (n - length octets) k (drop at octets) (omega (arith, over, length-drop at octets)) (omega (arith, inside, length-drop at octets))
    ∙ ap (λ m. drop at octets ++ zeros (k - m)) (length-drop at octets)

pub read_behind : (n at k : ℕ) (octets : List ℕ) → length octets ≤ at → at + k ≤ n → take k (drop at (padded n octets)) ≡ zeros k
unfolding zeros
read_behind n at k octets behind inside =
    ap (take k) (ap (λ m. drop m (padded n octets)) (let e : at ≡ length octets + (at - length octets) = omega arith in e)
    ∙ drop-append-add octets (zeros (n - length octets)) (at - length octets)
    ∙ drop-replicate (at - length octets) (n - length octets) 0)
    ∙ take-replicate k (n - length octets - (at - length octets)) 0 (omega (arith, behind, inside))
