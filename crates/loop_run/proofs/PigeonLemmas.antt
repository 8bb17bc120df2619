-- The pigeonhole principle: what goes one to one into so many places is no more.
use Rattle.std.proofs.Common.{◌≡◌, ◌⊎◌, inl, inr, ℕ, zero, suc, ◌<◌, ◌≤◌, ◌==◌, Bool, if◌then◌else◌, refl, sym, ◌∙◌, arith}
use Rattle.std.proofs.lemmas.Bool.Decides.{nat_tests}

-- the places without one, whose guest takes that of the last
abbrev pub avoiding : (ℕ → ℕ) → ℕ → ℕ → ℕ → ℕ
avoiding f place last i = if f i == place then f last else f i

abbrev pub Avoids : ℕ → ℕ → ℕ → ℕ → Type 0
Avoids x place y r = ((x ≡ place) × (r ≡ y)) ⊎ ((x ≡ place → ⊥) × (r ≡ x))

avoids_by : (x place y : ℕ) (t : Bool) → (x == place) ≡ t → Avoids x place y (if t then y else x)
avoids_by x place y t e = grind (arith, nat_tests)

avoids : (x place y : ℕ) → Avoids x place y (if x == place then y else x)
avoids x place y = avoids_by x _ y _ refl

abbrev pub Into : (ℕ → ℕ) → ℕ → ℕ → Type 0
Into f n m = (i : ℕ) → i < n → f i < m

abbrev pub OneToOne : (ℕ → ℕ) → ℕ → Type 0
OneToOne f n = (i j : ℕ) → i < n → j < n → f i ≡ f j → i ≡ j

into_fewer : (f : ℕ → ℕ) (n m : ℕ) → Into f (suc n) (suc m) → OneToOne f (suc n) → Into (avoiding f m n) n m
into_fewer f n m into one i less = by_case (avoids _ m _)
  where
    here : f i < suc m
    here = into i (omega arith)

    there : f n < suc m
    there = into n (omega arith)

    apart : f i ≡ f n → ⊥
    apart e = omega (arith, (one i n (omega arith) (omega arith) e))

    by_case : {r : ℕ} → Avoids (f i) m (f n) r → r < m
    by_case (inl (is, r_is)) = omega (arith, there, apart)
    by_case (inr (isnt, r_is)) = omega (arith, here)

one_fewer : (f : ℕ → ℕ) (n m : ℕ) → OneToOne f (suc n) → OneToOne (avoiding f m n) n
one_fewer f n m one i j less less' = by_case (avoids _ m _) (avoids _ m _)
  where
    by_case : {r r' : ℕ} → Avoids (f i) m (f n) r → Avoids (f j) m (f n) r' → r ≡ r' → i ≡ j
    by_case (inl (is, r_is)) (inl (is', r_is')) e = one i j (omega arith) (omega arith) (is ∙ sym is')
    by_case (inl (is, r_is)) (inr (isnt, r_is')) e =
        absurd (omega (arith, (one n j (omega arith) (omega arith) (sym r_is ∙ e ∙ r_is'))))
    by_case (inr (isnt, r_is)) (inl (is', r_is')) e =
        absurd (omega (arith, (one i n (omega arith) (omega arith) (sym r_is ∙ e ∙ r_is'))))
    by_case (inr (isnt, r_is)) (inr (isnt', r_is')) e = one i j (omega arith) (omega arith) (sym r_is ∙ e ∙ r_is')

pub pigeonhole : (n m : ℕ) (f : ℕ → ℕ) → Into f n m → OneToOne f n → n ≤ m
pigeonhole zero m f into one = omega arith
pigeonhole (suc n) zero f into one = absurd (omega (arith, (into n (omega arith))))
pigeonhole (suc n) (suc m) f into one =
    let fewer = pigeonhole n m (avoiding f m n) (into_fewer f n m into one) (one_fewer f n m one) in
    omega arith
