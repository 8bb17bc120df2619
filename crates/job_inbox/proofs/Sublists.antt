-- What stands in a list in its order, as the list goes on.
use Rattle.std.proofs.Common.{◌≡◌, ⊎_elim, inl, inr, List, [], ◌∷◌, ◌++◌, refl, subst, sym}
use Rattle.turn_cell.specs.Placed.{IsSublist}

module _ {A : Type 0} where
  sub_nil : (ys : List A) → IsSublist [] ys
  sub_nil [] = refl
  sub_nil (y ∷ ys) = tt

  sub_skip : (xs ys : List A) (y : A) → IsSublist xs ys → IsSublist xs (y ∷ ys)
  sub_skip [] ys y h = tt
  sub_skip (x ∷ xs) ys y h = inr h

  sub_self : (xs : List A) → IsSublist xs xs
  sub_self [] = refl
  sub_self (x ∷ xs) = inl (refl, sub_self xs)

  sub_behind : (ys zs : List A) → IsSublist zs (ys ++ zs)
  sub_behind [] zs = sub_self zs
  sub_behind (y ∷ ys) zs = sub_skip zs (ys ++ zs) y (sub_behind ys zs)

  -- both go on alike
  pub sub_append : (xs ys zs : List A) → IsSublist xs ys → IsSublist (xs ++ zs) (ys ++ zs)
  sub_append xs [] zs h = subst (λ (l : List A). IsSublist (l ++ zs) zs) (sym h) (sub_self zs)
  sub_append [] (y ∷ ys) zs h = sub_behind (y ∷ ys) zs
  sub_append (x ∷ xs) (y ∷ ys) zs h =
      ⊎_elim
      (λ (t : (x ≡ y) × IsSublist xs ys). inl (t.0, sub_append xs ys zs t.1))
      (λ (t : IsSublist (x ∷ xs) ys). inr (sub_append (x ∷ xs) ys zs t))
      h

  -- the longer one alone goes on
  pub sub_more : (xs ys zs : List A) → IsSublist xs ys → IsSublist xs (ys ++ zs)
  sub_more xs [] zs h = subst (λ (l : List A). IsSublist l zs) (sym h) (sub_nil zs)
  sub_more [] (y ∷ ys) zs h = tt
  sub_more (x ∷ xs) (y ∷ ys) zs h =
      ⊎_elim
      (λ (t : (x ≡ y) × IsSublist xs ys). inl (t.0, sub_more xs ys zs t.1))
      (λ (t : IsSublist (x ∷ xs) ys). inr (sub_more (x ∷ xs) ys zs t))
      h
