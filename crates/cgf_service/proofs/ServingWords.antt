-- Which words are those of `serve`.
use Rattle.std.proofs.Common.{◌≡◌, ℕ, true, false, List, [], ◌∷◌, length, map, codes, get_or, Option, None, Some, option_map, refl, sym, ap, ◌∙◌, arith}
use Rattle.cgf_service.proofs.Names.{bytes_eq, is_option, none-some, serve_places_in, serve_places_of, ServePlacesValue, Serving, serving_by, serving_of}

-- words that aren't seven are none
pub other_words : {A : Type 0} (text : A → List ℕ) (words : List A) → (length words ≡ 7 → ⊥) → serving_of (map text words) ≡ None
other_words text (a ∷ b ∷ c ∷ d ∷ e ∷ f ∷ g ∷ []) not_seven = absurd (not_seven refl)
other_words text _ not_seven = refl

-- seven words are, where the paths are no options and the name is that
pub chosen : (name ip port turns length area folder : List ℕ) → is_option area ≡ false → is_option folder ≡ false
    → bytes_eq name (codes "serve") ≡ true
    → serving_of (name ∷ ip ∷ port ∷ turns ∷ length ∷ area ∷ folder ∷ []) ≡ serving_by ip port turns length
chosen name ip port turns length area folder plain_area plain_folder named = rw (plain_area, plain_folder, named) refl

-- seven words, one after the other
pub seven_words : {A : Type 0} (text : A → List ℕ) (words : List A) (a b c d e f g : A) → length words ≡ 7
    → a ≡ get_or words 0 a → b ≡ get_or words 1 b → c ≡ get_or words 2 c → d ≡ get_or words 3 d → e ≡ get_or words 4 e
    → f ≡ get_or words 5 f → g ≡ get_or words 6 g
    → map text words ≡ text a ∷ text b ∷ text c ∷ text d ∷ text e ∷ text f ∷ text g ∷ []
seven_words text (u ∷ v ∷ w ∷ x ∷ y ∷ z ∷ t ∷ []) a b c d e f g seven pa pb pc pd pe pf pg =
    λ i. text (sym pa i) ∷ text (sym pb i) ∷ text (sym pc i) ∷ text (sym pd i) ∷ text (sym pe i) ∷ text (sym pf i) ∷ text (sym pg i) ∷ []
seven_words text _ a b c d e f g seven pa pb pc pd pe pf pg = absurd (omega (arith, seven))

-- the places that seven words name
pub places_there : {A : Type 0} (text : A → List ℕ) (words : List A) (of : Serving) (f g : A) (area folder : List ℕ)
    → Some of ≡ serving_of (map text words) → f ≡ get_or words 5 f → g ≡ get_or words 6 g → area ≡ text f → folder ≡ text g
    → ◌≡◌ {A = Option ServePlacesValue} (Some (record { length = of.length; area = area; folder = folder })) (serve_places_of (map text words))
places_there text (u ∷ v ∷ w ∷ x ∷ y ∷ z ∷ t ∷ []) of f g area folder asked pf pg is_area is_folder =
    (λ i. Some (record { length = of.length; area = (is_area ∙ ap text pf) i; folder = (is_folder ∙ ap text pg) i }))
    ∙ ap (λ (o : Option Serving). option_map (serve_places_in (map text (u ∷ v ∷ w ∷ x ∷ y ∷ z ∷ t ∷ []))) o) asked
places_there text _ of f g area folder asked pf pg is_area is_folder = absurd (none-some of (sym asked))
