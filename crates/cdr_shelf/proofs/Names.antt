-- A name among sealed files, and what is found by it.
use Rattle.std.proofs.Common.{◌≡◌, ◌≢◌, ⊎_elim, ◌⊎◌, inl, inr, Bool, true, false, ◌&&◌, ◌==◌, if◌then◌else◌, List, [], ◌∷◌, Some, is_some, sym, ◌∙◌, ap}
use Rattle.std.proofs.lemmas.Bool.Decides.{eqb_tells}
use Rattle.std.proofs.lemmas.List.Elements.{All-cons, All-nil}
use Rattle.cdr_shelf.specs.declared.file_name.FileName.{FileName}
use Rattle.cdr_shelf.specs.Files.{SealedFile, IsFresh, file_named, same_name}

-- this answer of the test of two names tells whether they are equal
abbrev Tells : FileName → FileName → Bool → Type 0
Tells a b answer = ((answer ≡ true) × (a ≡ b)) ⊎ ((answer ≡ false) × (a ≢ b))

name_tells : (a b : FileName) → Tells a b (same_name a b)
name_tells a b = ⊎_elim same_stream other_stream (eqb_tells a.stream b.stream)
  where
    other_stream : ((a.stream == b.stream) ≡ false) × (a.stream ≢ b.stream) → Tells a b (same_name a b)
    other_stream off = inr (
      ap (λ t. t && (a.sequence == b.sequence)) off.0,
      λ same. off.1 (ap (λ (n : FileName). n.stream) same),
    )

    same_stream : ((a.stream == b.stream) ≡ true) × (a.stream ≡ b.stream) → Tells a b (same_name a b)
    same_stream here =
        let left : same_name a b ≡ (a.sequence == b.sequence) = ap (λ t. t && (a.sequence == b.sequence)) here.0 in
        ⊎_elim
        (λ both. inl (left ∙ both.0, λ i. record { stream = here.1 i; sequence = both.1 i }))
        (λ off. inr (left ∙ off.0, λ same. off.1 (ap (λ (n : FileName). n.sequence) same)))
        (eqb_tells a.sequence b.sequence)

-- where none is found, no file has the name
pub none_is_fresh : (name : FileName) (files : List SealedFile) →
    is_some (file_named name files) ≡ false → IsFresh name files
none_is_fresh name [] none = All-nil (λ (f : SealedFile). f.name ≢ name)
none_is_fresh name (f ∷ files) none =
    let by_test = λ (t : Bool). is_some (if t then Some f.octets else file_named name files) in
    ⊎_elim
    (λ here. absurd (some_is_there (sym (ap by_test here.0) ∙ none)))
    (λ off.
    All-cons (λ (g : SealedFile). g.name ≢ name) f files off.1
    (none_is_fresh name files (sym (ap by_test off.0) ∙ none)))
    (name_tells f.name name)
  where
    some_is_there : true ≡ false → ⊥
    some_is_there e = cc
