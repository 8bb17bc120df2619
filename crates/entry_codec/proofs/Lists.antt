-- Lists of octets, and two lists that begin alike.
use Rattle.std.proofs.Common.{◌≡◌, ℕ, zero, suc, ◌<◌, List, [], ◌∷◌, ◌++◌, take, get_or, replicate, refl, ◌⊎◌, inl, inr}
use Rattle.entry_codec.specs.Spelling.{AreBelow}

pub AreBelow-append : (bound : ℕ) (a b : List ℕ) → AreBelow bound a → AreBelow bound b → AreBelow bound (a ++ b)
AreBelow-append bound [] b p q = q
AreBelow-append bound (x ∷ a) b p q = (p.0, AreBelow-append bound a b p.1 q)

pub AreBelow-back : (bound : ℕ) (a b : List ℕ) → AreBelow bound (a ++ b) → AreBelow bound b
AreBelow-back bound [] b p = p
AreBelow-back bound (x ∷ a) b p = AreBelow-back bound a b p.1

pub AreBelow-take : (bound n : ℕ) (a : List ℕ) → AreBelow bound a → AreBelow bound (take n a)
AreBelow-take bound (suc n) (x ∷ a) p = (p.0, AreBelow-take bound n a p.1)
AreBelow-take bound _ _ p = tt

pub AreBelow-replicate : (bound n : ℕ) → 0 < bound → AreBelow bound (replicate n 0)
AreBelow-replicate bound zero lt = tt
AreBelow-replicate bound (suc n) lt = (lt, AreBelow-replicate bound n lt)

-- each is below a bound that isn't 0, where each place is, also those past the end
pub AreBelow-places : (bound : ℕ) (a : List ℕ) → ((i : ℕ) → get_or a i 0 < bound) → AreBelow bound a
AreBelow-places bound [] p = tt
AreBelow-places bound (x ∷ a) p = (p 0, AreBelow-places bound a (λ i. p (suc i)))

pub places-AreBelow : (bound : ℕ) (a : List ℕ) → 0 < bound → AreBelow bound a → (i : ℕ) → get_or a i 0 < bound
places-AreBelow bound [] z p i = z
places-AreBelow bound (x ∷ a) z p zero = p.0
places-AreBelow bound (x ∷ a) z p (suc i) = places-AreBelow bound a z p.1 i

-- of two fronts of one list, where the second goes on with h, the first is a front of the second or goes on with h too
pub fronts : (u v f : List ℕ) (h : ℕ) (t : List ℕ) → u ++ v ≡ f ++ h ∷ t → ((z : List ℕ) × (f ≡ u ++ z)) ⊎ ((z : List ℕ) × (u ≡ f ++ h ∷ z))
fronts [] v f h t e = inl (f, refl)
fronts (x ∷ u) v [] h t e = inr (u, cc)
fronts (x ∷ u) v (y ∷ f) h t e =
    let tails : u ++ v ≡ f ++ h ∷ t = cc in
    elim (fronts u v f h t tails) [
      | inl p ↦ inl (p.0, let q = p.1 in cc)
      | inr p ↦ inr (p.0, let q = p.1 in cc)
    ]
