-- What words ask for, by what clap found in them; and that it is nothing where one of them is an option.
use Rattle.std.proofs.Common.{◌≡◌, ◌∙◌, refl, sym, ap, ap₂, ℕ, Bool, true, false, cond, ◌||◌, ◌==◌, true≢false, List, [], ◌∷◌, length, map, codes, Option, Some, None, inl, inr, if◌then◌else◌, eqb-true, arith}
use Rattle.std.proofs.lemmas.Bool.{or_cases}
use Rattle.cgf_jobs.proofs.Names.{all_of, Command, command_named, command_of, counted, first_of, first_value, found_in, is_option, last_seed, list_any, matched_of, option_and_then, option_map, raw_values, rows_of, same_Some, Seeded, seeded_named, seeded_of, Text}
use Rattle.clap.specs.declared.parser.matches.Found.{Found}
use Rattle.clap.proofs.WalkLemmas.{first_value-rows, raw_values-rows}
use Rattle.route_filter.specs.Words.{number_up_to}
use Rattle.cgf_jobs.proofs.EndingLemmas.{some_is_none}
use Rattle.cgf_jobs.proofs.WordLemmas.{any_of_map, neither_second}

-- values of another number ask for nothing
pub other_values : {A : Type 0} (text : A → List ℕ) (name : List ℕ) (values : List A) → (length values ≡ 1 → ⊥) → (length values ≡ 4 → ⊥) →
    command_of (name ∷ map text values) ≡ None
other_values text name (a ∷ []) one four = absurd (one refl)
other_values text name (a ∷ b ∷ c ∷ d ∷ []) one four = absurd (four refl)
other_values text name _ one four = refl

-- a value that is no option is a file's name
pub file_value : {A : Type 0} (text : A → List ℕ) (name : List ℕ) (values : List A) → length values ≡ 1 →
    list_any (λ value. is_option (text value)) values ≡ false → command_named name ≡ command_of (name ∷ map text values)
file_value text name (a ∷ []) one none = go (is_option (text a)) (command_named name) none
  where
    go : (b : Bool) (of : Option Command) → (b || false) ≡ false → of ≡ cond b None of
    go true of is = absurd (true≢false is)
    go false of is = refl
file_value text name _ one none = absurd (omega (arith, one))

-- What is asked for by a name and values, where both are there.

abbrev pub said_by : Option Text → Option (List Text) → Option Command
said_by (Some name) (Some values) = command_of (name ∷ values)
said_by _ _ = None

said_rows : (words : List Text) → said_by (first_of (codes "COMMAND") (found_in words)) (all_of (codes "VALUES") (found_in words)) ≡ command_of words
said_rows (name ∷ []) = refl
said_rows _ = refl

pub said_found : (f : Found) (words : List Text) → rows_of f ≡ found_in words →
    said_by (first_value f (codes "COMMAND")) (option_map raw_values (matched_of f (codes "VALUES"))) ≡ command_of words
said_found f words rows =
    ap₂ said_by (first_value-rows f (codes "COMMAND") ∙ ap (first_of (codes "COMMAND")) rows)
    (raw_values-rows f (codes "VALUES") ∙ ap (all_of (codes "VALUES")) rows)
    ∙ said_rows words

pub no_name : (f : Found) (words : List Text) → rows_of f ≡ found_in words → first_value f (codes "COMMAND") ≡ None → None ≡ command_of words
no_name f words rows none =
    ap (λ (name : Option Text). said_by name (option_map raw_values (matched_of f (codes "VALUES")))) (sym none) ∙ said_found f words rows

pub no_values : (f : Found) (words : List Text) → rows_of f ≡ found_in words →
    option_map raw_values (matched_of f (codes "VALUES")) ≡ None → None ≡ command_of words
no_values f words rows none = none_said (first_value f (codes "COMMAND")) ∙ ap (said_by (first_value f (codes "COMMAND"))) (sym none) ∙ said_found f words rows
  where
    none_said : (name : Option Text) → None ≡ said_by name None
    none_said None = refl
    none_said (Some name) = refl

pub both_said : (f : Found) (words : List Text) (name : Text) (values : List Text) → rows_of f ≡ found_in words →
    first_value f (codes "COMMAND") ≡ Some name → option_map raw_values (matched_of f (codes "VALUES")) ≡ Some values →
    command_of (name ∷ values) ≡ command_of words
both_said f words name values rows name_is values_are = ap₂ said_by (sym name_is) (sym values_are) ∙ said_found f words rows

-- values among words that are no options are none
pub values_plain : (f : Found) (words : List Text) {A : Type 0} (text : A → Text) (values : List A) → rows_of f ≡ found_in words →
    list_any is_option words ≡ false → option_map raw_values (matched_of f (codes "VALUES")) ≡ Some (map text values) →
    list_any (λ value. is_option (text value)) values ≡ false
values_plain f words text values rows none are =
    sym (any_of_map text values)
    ∙ none_found words (map text values) none (sym are ∙ raw_values-rows f (codes "VALUES") ∙ ap (all_of (codes "VALUES")) rows)
  where
    none_found : (words values : List Text) → list_any is_option words ≡ false → Some values ≡ all_of (codes "VALUES") (found_in words) →
        list_any is_option values ≡ false
    none_found [] values none are = some_is_none values are
    none_found (name ∷ []) values none are = some_is_none values are
    none_found (name ∷ v ∷ vs) values none are =
        ap (list_any is_option) (same_Some values (v ∷ vs) are) ∙ neither_second (is_option name) (list_any is_option (v ∷ vs)) none

-- Words with an option among them ask for nothing.

no_number : (most : ℕ) (word : List ℕ) → is_option word ≡ true → number_up_to most word ≡ None
no_number most (x ∷ y ∷ xs) is =
    ap (λ (z : ℕ). number_up_to most (z ∷ y ∷ xs)) (eqb-true x 45 is)
no_number most _ is = absurd (true≢false (sym is))

no_count : (most : ℕ) (word : List ℕ) → is_option word ≡ true → counted most word ≡ None
no_count most word is = ap (option_and_then (λ (n : ℕ). if n == 0 then None else Some n)) (no_number most word is)

no_file_command : (name : List ℕ) → is_option name ≡ true → command_named name ≡ None
no_file_command (x ∷ y ∷ xs) is = ap (λ (z : ℕ). command_named (z ∷ y ∷ xs)) (eqb-true x 45 is)
no_file_command _ is = absurd (true≢false (sym is))

no_seed_command : (name : List ℕ) (seeded : Seeded) → is_option name ≡ true → seeded_named name seeded ≡ None
no_seed_command (x ∷ y ∷ xs) seeded is = ap (λ (z : ℕ). seeded_named (z ∷ y ∷ xs) seeded) (eqb-true x 45 is)
no_seed_command _ seeded is = absurd (true≢false (sym is))

nothing : {A B : Type 0} (f : A → Option B) (of : Option A) → ((a : A) → f a ≡ None) → option_and_then f of ≡ None
nothing f None none = refl
nothing f (Some a) none = none a

no_file : (name file : List ℕ) → (is_option name || (is_option file || false)) ≡ true → command_of (name ∷ file ∷ []) ≡ None
no_file name file is = elim (or_cases (is_option name) (is_option file || false) is) [
  | inl first ↦ rw (no_file_command name first) (go (is_option file) None)
  | inr more ↦ elim (or_cases (is_option file) false more) [ inl second ↦ rw second refl | inr false_is ↦ absurd (true≢false (sym false_is)) ]
]
  where
    go : (b : Bool) (of : Option Command) → cond b of of ≡ of
    go true of = refl
    go false of = refl

abbrev script : ℕ → ℕ → ℕ → ℕ → Seeded
script s n g p = record { seed = s; nodes = n; gateways = g; packets = p }

no_seeded : (seed nodes gateways packets : List ℕ) → (is_option seed || (is_option nodes || (is_option gateways || (is_option packets || false)))) ≡ true →
    seeded_of seed nodes gateways packets ≡ None
no_seeded seed nodes gateways packets is = elim (or_cases (is_option seed) (is_option nodes || (is_option gateways || (is_option packets || false))) is) [
  | inl at ↦ rw (no_number last_seed seed at) refl
  | inr later ↦ nothing _ (number_up_to last_seed seed) (λ s. by_nodes s later)
]
  where
    by_packets : (s n g : ℕ) → (is_option packets || false) ≡ true →
        option_map (λ (p : ℕ). script s n g p) (counted 20000 packets) ≡ None
    by_packets s n g is = elim (or_cases (is_option packets) false is) [
      | inl at ↦ rw (no_count 20000 packets at) refl
      | inr false_is ↦ absurd (true≢false (sym false_is))
    ]

    by_gateways : (s n : ℕ) → (is_option gateways || (is_option packets || false)) ≡ true →
        option_and_then (λ (g : ℕ). option_map (λ (p : ℕ). script s n g p) (counted 20000 packets)) (counted 8 gateways) ≡ None
    by_gateways s n is = elim (or_cases (is_option gateways) (is_option packets || false) is) [
      | inl at ↦ rw (no_count 8 gateways at) refl
      | inr later ↦ nothing _ (counted 8 gateways) (λ g. by_packets s n g later)
    ]

    by_nodes : (s : ℕ) → (is_option nodes || (is_option gateways || (is_option packets || false))) ≡ true →
        option_and_then (λ (n : ℕ). option_and_then (λ (g : ℕ). option_map (λ (p : ℕ). script s n g p) (counted 20000 packets)) (counted 8 gateways))
        (counted 16 nodes) ≡ None
    by_nodes s is = elim (or_cases (is_option nodes) (is_option gateways || (is_option packets || false)) is) [
      | inl at ↦ rw (no_count 16 nodes at) refl
      | inr later ↦ nothing _ (counted 16 nodes) (λ n. by_gateways s n later)
    ]

no_seed : (name seed nodes gateways packets : List ℕ) →
    (is_option name || (is_option seed || (is_option nodes || (is_option gateways || (is_option packets || false))))) ≡ true →
    command_of (name ∷ seed ∷ nodes ∷ gateways ∷ packets ∷ []) ≡ None
no_seed name seed nodes gateways packets is = elim (or_cases (is_option name) (is_option seed || (is_option nodes || (is_option gateways || (is_option packets || false)))) is) [
  | inl at ↦ nothing (seeded_named name) (seeded_of seed nodes gateways packets) (λ seeded. no_seed_command name seeded at)
  | inr later ↦ ap (option_and_then (seeded_named name)) (no_seeded seed nodes gateways packets later)
]

pub option_asks : {A : Type 0} (text : A → List ℕ) (words : List A) → list_any (λ word. is_option (text word)) words ≡ true → None ≡ command_of (map text words)
option_asks text (a ∷ b ∷ []) is = sym (no_file (text a) (text b) is)
option_asks text (a ∷ b ∷ c ∷ d ∷ e ∷ []) is = sym (no_seed (text a) (text b) (text c) (text d) (text e) is)
option_asks text _ is = refl
