-- Which words are those of `loopback`.
use Rattle.std.proofs.Common.{◌≡◌, ℕ, true, List, [], ◌∷◌, length, map, codes, get_or, None, refl, sym, arith}
use Rattle.std.specs.Str.{bytes_eq}
use Rattle.cgf_top.specs.Looping.{looping_by, looping_of}

-- words that aren't five are none
pub other_words : {A : Type 0} (text : A → List ℕ) (words : List A) → (length words ≡ 5 → ⊥) → looping_of (map text words) ≡ None
other_words text (a ∷ b ∷ c ∷ d ∷ e ∷ []) not_five = absurd (not_five refl)
other_words text _ not_five = refl

-- five words are, where the name is that
pub chosen : (name gateways nodes packets turns : List ℕ) → bytes_eq name (codes "loopback") ≡ true
    → looping_of (name ∷ gateways ∷ nodes ∷ packets ∷ turns ∷ []) ≡ looping_by gateways nodes packets turns
chosen name gateways nodes packets turns named = rw named refl

-- five words, one after the other
pub five_words : {A : Type 0} (text : A → List ℕ) (words : List A) (a b c d e : A) → length words ≡ 5
    → a ≡ get_or words 0 a → b ≡ get_or words 1 b → c ≡ get_or words 2 c → d ≡ get_or words 3 d → e ≡ get_or words 4 e
    → map text words ≡ text a ∷ text b ∷ text c ∷ text d ∷ text e ∷ []
five_words text (u ∷ v ∷ w ∷ x ∷ y ∷ []) a b c d e five pa pb pc pd pe =
    λ i. text (sym pa i) ∷ text (sym pb i) ∷ text (sym pc i) ∷ text (sym pd i) ∷ text (sym pe i) ∷ []
five_words text _ a b c d e five pa pb pc pd pe = absurd (omega (arith, five))
