-- How the settling of a gateway that answered a stream is a commit of its value, and a Close behind it.
use Rattle.std.proofs.Common.{◌≡◌, ℕ, Bool, true, false, if◌then◌else◌, List, [], ◌∷◌, ◌++◌, refl, ◌∙◌, append-nil}
use Rattle.area_disk.specs.declared.area.Area as areas
use Rattle.cgf_service.proofs.Names.{after_commit, base, Book, BookValue, facts_of, Fortune, Gone, history_of, HistoryEntry, torn_of, value_of, Whole}

abbrev pub Entries : Type 0
Entries = List HistoryEntry

-- what the device does to a commit that makes all firm, where torn entries are dropped or taken in
abbrev pub mending : Bool → Fortune
mending drops = record { fails = false; reopening = if drops then Gone else Whole }

abbrev value : Entries → Entries → ℕ → Bool → BookValue
value firm rest cuts is_broken = record { firm = firm; rest = rest; cuts = cuts; is_broken = is_broken }

-- the list behind which a Close is made
abbrev pub behind_of : Bool → BookValue → Entries
behind_of drops v = if drops then v.firm else history_of v ++ torn_of v

firmed_by : (firm rest : Entries) (cuts : ℕ) (b drops : Bool) → (b ≡ false → drops ≡ false)
    → behind_of drops (value firm rest cuts b) ≡ (after_commit (mending drops) (value firm rest cuts b)).firm
firmed_by firm rest cuts true true whole = refl
firmed_by firm rest cuts true false whole = refl
firmed_by firm rest cuts false true whole = absurd (true_false (whole refl))
  where
    true_false : true ≡ false → ⊥
    true_false e = cc
firmed_by firm [] cuts false false whole = append-nil (firm ++ []) ∙ append-nil firm
firmed_by firm (x ∷ rest) cuts false false whole = append-nil (firm ++ x ∷ rest)

mended_by : (firm rest : Entries) (cuts : ℕ) (b drops : Bool)
    → (after_commit (mending drops) (value firm rest cuts b)).is_broken ≡ false
mended_by firm rest cuts true true = refl
mended_by firm rest cuts true false = refl
mended_by firm [] cuts false drops = refl
mended_by firm (x ∷ rest) cuts false drops = refl

pub firmed : (v : BookValue) (drops : Bool) → (v.is_broken ≡ false → drops ≡ false)
    → behind_of drops v ≡ (after_commit (mending drops) v).firm
firmed v drops whole = firmed_by v.firm v.rest v.cuts v.is_broken drops whole

pub mended : (v : BookValue) (drops : Bool) → (after_commit (mending drops) v).is_broken ≡ false
mended v drops = mended_by v.firm v.rest v.cuts v.is_broken drops

-- the same of a book, whose facts say it
base_is : {A : Type 0} {tells : areas.Ghosts A} (book : Book A tells) (drops : Bool)
    → base drops (facts_of book) ≡ behind_of drops (value_of book)
base_is book true = refl
base_is book false = refl

pub base_firmed : {A : Type 0} {tells : areas.Ghosts A} (book : Book A tells) (drops : Bool)
    → ((value_of book).is_broken ≡ false → drops ≡ false)
    → base drops (facts_of book) ≡ (after_commit (mending drops) (value_of book)).firm
base_firmed book drops whole = base_is book drops ∙ firmed (value_of book) drops whole
