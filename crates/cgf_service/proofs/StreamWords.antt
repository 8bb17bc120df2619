-- Which words are those of `stream`.
use Rattle.std.proofs.Common.{◌≡◌, ℕ, true, false, List, [], ◌∷◌, length, map, codes, get_or, Option, None, Some, option_map, refl, sym, ap, ◌∙◌}
use Rattle.cgf_service.proofs.Names.{bytes_eq, is_option, none-some, stream_places_in, stream_places_of, Streaming, streaming_by, streaming_of, StreamPlacesValue}

-- words that aren't seven are none
pub other_words : {A : Type 0} (text : A → List ℕ) (words : List A) → (length words ≡ 7 → ⊥) → streaming_of (map text words) ≡ None
other_words text (a ∷ b ∷ c ∷ d ∷ e ∷ f ∷ g ∷ []) not_seven = absurd (not_seven refl)
other_words text _ not_seven = refl

-- seven words are, where the paths are no options and the name is that
pub chosen : (name ip node length area folder file : List ℕ) → is_option area ≡ false → is_option folder ≡ false
    → is_option file ≡ false → bytes_eq name (codes "stream") ≡ true
    → streaming_of (name ∷ ip ∷ node ∷ length ∷ area ∷ folder ∷ file ∷ []) ≡ streaming_by ip node length
chosen name ip node length area folder file plain_area plain_folder plain_file named =
    rw (plain_area, plain_folder, plain_file, named) refl

-- the places that seven words name
pub places_there : {A : Type 0} (text : A → List ℕ) (words : List A) (of : Streaming) (e f g : A) (area folder file : List ℕ)
    → Some of ≡ streaming_of (map text words) → e ≡ get_or words 4 e → f ≡ get_or words 5 f → g ≡ get_or words 6 g
    → area ≡ text e → folder ≡ text f → file ≡ text g
    → ◌≡◌ {A = Option StreamPlacesValue} (Some (record { length = of.length; area = area; folder = folder; file = file })) (stream_places_of (map text words))
places_there text (u ∷ v ∷ w ∷ x ∷ y ∷ z ∷ t ∷ []) of e f g area folder file asked pe pf pg is_area is_folder is_file =
    (λ i. Some (record { length = of.length; area = (is_area ∙ ap text pe) i; folder = (is_folder ∙ ap text pf) i; file = (is_file ∙ ap text pg) i }))
    ∙ ap (λ (o : Option Streaming). option_map (stream_places_in (map text (u ∷ v ∷ w ∷ x ∷ y ∷ z ∷ t ∷ []))) o) asked
places_there text _ of e f g area folder file asked pe pf pg is_area is_folder is_file = absurd (none-some of (sym asked))
