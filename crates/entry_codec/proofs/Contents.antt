-- Entries one after the other: they are read back, go on, and divide in one way.
use Rattle.std.proofs.Common.{◌≡◌, ℕ, zero, suc, ◌≤◌, List, [], ◌∷◌, ◌++◌, length, All, refl, sym, ap, ◌∙◌, arith, append_assoc}
use Rattle.std.proofs.lemmas.List.{length-append}
use Rattle.std.proofs.lemmas.List.Concat.{flat_map-cons}
use Rattle.std.proofs.lemmas.List.Elements.{All-head, All-tail}
use Rattle.gw_base.specs.declared.history.HistoryEntry.{HistoryEntry}
use Rattle.entry_codec.specs.Content.{AreEntries, entries_of, entries_up_to, spelled, with_next}
use Rattle.entry_codec.specs.Reading.{entry_at}
use Rattle.entry_codec.specs.Spelling.{HasSpelling, spelling}
use Rattle.entry_codec.proofs.Entries.{entry_part}
use Rattle.entry_codec.proofs.Parts.{same_first}
pub use Rattle.entry_codec.specs.Laws.{costs_of-append, costs_of-spelled, length_of_spelling, more_entries, no_entries, one_entry}

-- ---- reading them back

none_at_end : (most : ℕ) → entries_up_to most [] ≡ []
unfolding entries_up_to entry_at
none_at_end zero = refl
none_at_end (suc most) = refl

one_more : (most : ℕ) (e : HistoryEntry) (rest : List ℕ) → HasSpelling e → entries_up_to (suc most) (spelling e ++ rest) ≡ e ∷ entries_up_to most rest
unfolding entries_up_to
one_more most e rest fits = ap (with_next (entries_up_to most)) (entry_part.again e rest fits)

read_back : (most : ℕ) (h : List HistoryEntry) → All HasSpelling h → length (spelled h) ≤ most → entries_up_to most (spelled h) ≡ h
read_back most [] each le = none_at_end most
read_back zero (e ∷ h) each le = absurd (omega (arith, le, ap (λ (o : List ℕ). length o) (flat_map-cons spelling e h), length-append (spelling e) (spelled h), length_of_spelling e))
read_back (suc most) (e ∷ h) each le =
    one_more most e (spelled h) (All-head HasSpelling e h each)
    ∙ ap (λ (g : List HistoryEntry). e ∷ g) (read_back most h (All-tail HasSpelling e h each) (omega (arith, le, length-append (spelling e) (spelled h), length_of_spelling e)))

pub entries_of_entries : (octets : List ℕ) (h : List HistoryEntry) → AreEntries octets h → entries_of octets ≡ h
entries_of_entries octets h are =
    ap (λ (o : List ℕ). entries_of o) are.spelling ∙ read_back (length (spelled h)) h are.each (omega arith)

-- ---- in parts

-- what is spelled in front of a whole is its first entries
pub first_entries : (h g : List HistoryEntry) (b : List ℕ) → All HasSpelling h → All HasSpelling g → spelled h ++ b ≡ spelled g → (f : List HistoryEntry) × (g ≡ h ++ f) × AreEntries b f
first_entries [] g b p q e = (g, refl, record { spelling = e; each = q })
first_entries (x ∷ h) [] b p q e = absurd (omega (arith, ap (λ (o : List ℕ). length o) e, length-append (spelled (x ∷ h)) b, length-append (spelling x) (spelled h), length_of_spelling x))
first_entries (x ∷ h) (y ∷ g) b p q e =
    let regrouped : spelling x ++ (spelled h ++ b) ≡ spelling y ++ spelled g = sym (append_assoc (spelling x) (spelled h) b) ∙ e in
    let same = same_first entry_part x y (spelled h ++ b) (spelled g) (All-head HasSpelling x h p)
    (All-head HasSpelling y g q) regrouped in
    let others = first_entries h g b (All-tail HasSpelling x h p) (All-tail HasSpelling y g q) same.1 in
    (others.0, (λ i. sym same.0 i ∷ others.1 i), others.2)
