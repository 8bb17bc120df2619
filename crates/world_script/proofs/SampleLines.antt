-- Lemmas on the lines of samples: each is words, and how long it is.
use Rattle.std.proofs.Common.{◌≡◌, ℕ, zero, suc, ◌+◌, ◌*◌, ◌^◌, ◌<◌, ◌≤◌, ◌&&◌, ◌||◌, Bool, true, false, if◌then◌else◌, List, [], ◌∷◌, ◌++◌, length, map, filter, Option, Some, Ok, refl, ap, ◌∙◌, subst, arith, length-append}
use Rattle.world_script.proofs.Names.{decimal, flat_map, flat_map-append, flat_map_single, is_action_line, is_end_line, is_setting, Keyword, keyword_of, length-decimal-le, Line, line_text, lines_text, list_any, list_any-append, number_of, number_up_to, ok_or, one_number, range_with_len, read_or, Replay, said_as, said_by, words_text}
use Rattle.world_script.specs.declared.fault.InputKind.TheVariants as kind
use Rattle.world_script.specs.declared.keyword.Keyword.TheVariants as keyword
use Rattle.world_script.specs.declared.line.Line.TheVariants as line
use Rattle.world_script.proofs.LineLemmas.{IsSayable, again_by_words, names_show}
use Rattle.world_script.proofs.PrintedLemmas.{AreSayable}
use Rattle.world_script.proofs.FormLemmas.{name}
use Rattle.world_script.proofs.ValueLemmas.{decimal_is_word, printed_number}
use Rattle.world_script.proofs.WordLemmas.{AreWords, IsWord, are_words, joined_printable, length_words, words_of_joined}

-- Lines that are words.

pub record IsPlain (said : Line) : Type 0 where
  pub form : Keyword
  pub words : List (List ℕ)
  pub text : line_text Replay said ≡ name form ++ words_text words
  pub is : IsWord (name form)
  pub are : AreWords words
  pub known : keyword_of Replay (name form) ≡ Ok form
  pub again : (rules : ℕ) (content : List ℕ) → said_by Replay form rules content words ≡ Ok said

-- the name of each form is a word
pub name_word : (form : Keyword) → IsWord (name form)
name_word form = grind (arith, are_words, name)

-- it may stand after the settings, and isn't the end
pub record IsDone (said : Line) : Type 0 where
  pub plain : IsPlain said
  pub no_setting : is_setting plain.form ≡ false
  pub no_end : is_end_line said ≡ false

abbrev pub AreDone : List Line → Type 0
AreDone [] = Unit {0}
AreDone (said ∷ lines) = IsDone said × AreDone lines

pub plain_sayable : (before : List Line) (said : Line) (p : IsPlain said) → list_any is_end_line before ≡ false →
    (is_setting p.form && list_any is_action_line before) ≡ false →
    IsSayable Replay before said
plain_sayable before said p going early =
    search (arith, name, joined_printable, again_by_words, names_show, words_of_joined, p.again)

pub no_end_more : (before : List Line) (said : Line) → list_any is_end_line before ≡ false →
    is_end_line said ≡ false → list_any is_end_line (before ++ said ∷ []) ≡ false
no_end_more before said h k = list_any-append is_end_line before (said ∷ []) ∙ (λ i. h i || (k i || false))

abbrev pub plain_as : (form : Keyword) (said : Line) (words : List (List ℕ)) → AreWords words →
    keyword_of Replay (name form) ≡ Ok form → line_text Replay said ≡ name form ++ words_text words →
    ((rules : ℕ) (content : List ℕ) → said_by Replay form rules content words ≡ Ok said) → IsPlain said
plain_as form said words are known text again =
    record { form = form; words = words; text = text; is = name_word form; are = are; known = known; again = again }

the_end : IsPlain line.End
the_end = plain_as keyword.End line.End [] tt refl refl (λ rules content. refl)

pub done_then_end : (before lines : List Line) → AreDone lines → list_any is_end_line before ≡ false →
    AreSayable Replay before (lines ++ line.End ∷ [])
unfolding the_end
done_then_end before [] h going = (plain_sayable before line.End the_end going refl, tt)
done_then_end before (said ∷ lines) h going =
    let early : (is_setting h.0.plain.form && list_any is_action_line before) ≡ false = ap (λ (b : Bool). b && list_any is_action_line before) h.0.no_setting in
    (plain_sayable before said h.0.plain going early, done_then_end (before ++ said ∷ []) lines h.1 (no_end_more before said going h.0.no_end))

-- Lines with their lengths.

pub record Part (most : ℕ) (lines : List Line) : Type 0 where
  pub done : AreDone lines
  pub short : length (lines_text Replay lines) ≤ most

pub part_none : Part 0 []
part_none = record { done = tt; short = omega arith }

pub part_most : {a b : ℕ} {lines : List Line} → a ≤ b → Part a lines → Part b lines
part_most h p = record { done = p.done; short = omega (arith, h, p.short) }

done_then : (xs ys : List Line) → AreDone xs → AreDone ys → AreDone (xs ++ ys)
done_then [] ys h k = k
done_then (said ∷ xs) ys h k = (h.0, done_then xs ys h.1 k)

pub part_then : {a b : ℕ} {xs ys : List Line} → Part a xs → Part b ys → Part (a + b) (xs ++ ys)
part_then {xs = xs} {ys = ys} p q = search (arith, flat_map-append, length-append, done_then)

pub one : (a : ℕ) (said : Line) → IsDone said → length (line_text Replay said) + 1 ≤ a → Part a (said ∷ [])
one a said h fits = search (arith, length-append)

pub part_line : {a b : ℕ} {said : Line} {lines : List Line} → Part a (said ∷ []) → Part b lines → Part (a + b) (said ∷ lines)
part_line p q = part_then p q

-- one line for each number that passes
pass : (most : ℕ) (make : ℕ → Line) (k n : ℕ) (ks : List ℕ) (b : Bool) → Part most (make k ∷ []) →
    Part (most * n) (map make ks) →
    Part (most * suc n) (map make (if b then k ∷ ks else ks))
pass most make k n ks true here later = part_most (omega arith) (part_line here later)
pass most make k n ks false here later = part_most (omega arith) later

pub part_pass : (most : ℕ) (make : ℕ → Line) (p : ℕ → Bool) (a n : ℕ) → ((k : ℕ) → a ≤ k → k < a + n → Part most (make k ∷ [])) →
    Part (most * n) (map make (filter p (range_with_len a n)))
part_pass most make p a zero h = part_most (omega arith) part_none
part_pass most make p a (suc n) h =
    pass most make a n (filter p (range_with_len (a + 1) n)) (p a) (h a (omega arith) (omega arith))
    (part_pass most make p (a + 1) n (λ k low high. h k (omega (arith, low)) (omega (arith, high))))

-- lists of lines
pub part_flat : (most : ℕ) (f : ℕ → List Line) (a n : ℕ) → ((k : ℕ) → a ≤ k → k < a + n → Part most (f k)) →
    Part (most * n) (flat_map f (range_with_len a n))
part_flat most f a zero h = part_most (omega arith) part_none
part_flat most f a (suc n) h =
    part_most (omega arith)
    (part_then (h a (omega arith) (omega arith)) (part_flat most f (a + 1) n (λ k low high. h k (omega (arith, low)) (omega (arith, high)))))

-- one line for each number
pub part_map : (most : ℕ) (make : ℕ → Line) (a n : ℕ) → ((k : ℕ) → a ≤ k → k < a + n → Part most (make k ∷ [])) →
    Part (most * n) (map make (range_with_len a n))
part_map most make a n h =
    subst (Part (most * n)) (flat_map_single make (range_with_len a n)) (part_flat most (λ k. make k ∷ []) a n h)

-- Lines of one number.

numbered : (form : Keyword) (make : ℕ → Line) (digits n : ℕ) → keyword_of Replay (name form) ≡ Ok form →
    is_setting form ≡ false → ((m : ℕ) → (line_text Replay (make m) ≡ name form ++ words_text (decimal m ∷ [])) × (is_end_line (make m) ≡ false)) →
    ((rules : ℕ) (content : List ℕ) → said_by Replay form rules content (decimal n ∷ []) ≡ Ok (make n)) →
    (n < 2 ^ 64) × (0 < digits) × (n < 10 ^ digits) → Part (length (name form) + digits + 2) (make n ∷ [])
numbered form make digits n known setting shape again fits =
    one (length (name form) + digits + 2) (make n)
    (record {
      plain = plain_as form (make n) (decimal n ∷ []) (decimal_is_word n fits.0, tt) known (shape n).0 again;
      no_setting = setting;
      no_end = (shape n).1;
    })
    (omega (
      arith,
      ap length (shape n).0,
      length-append (name form) (words_text (decimal n ∷ [])),
      length_words (decimal n ∷ []),
      length-decimal-le digits n fits.1 fits.2 fits.0,
    ))

-- a line of any number
counted : (form : Keyword) (make : ℕ → Line) (digits n : ℕ) → keyword_of Replay (name form) ≡ Ok form →
    is_setting form ≡ false → ((m : ℕ) → (line_text Replay (make m) ≡ name form ++ words_text (decimal m ∷ [])) × (is_end_line (make m) ≡ false)) →
    ((rules : ℕ) (content : List ℕ) (words : List (List ℕ)) → said_by Replay form rules content words ≡ said_as make (one_number words)) →
    (n < 2 ^ 64) × (0 < digits) × (n < 10 ^ digits) → Part (length (name form) + digits + 2) (make n ∷ [])
counted form make digits n known setting shape reads fits =
    let read : number_of (decimal n) ≡ Some n = printed_number 18446744073709551615 n (omega (arith, fits.0)) fits.0 in
    numbered form make digits n known setting shape (λ rules content. reads rules content (decimal n ∷ [])
    ∙ ap (λ (o : Option ℕ). said_as make (ok_or o kind.Number)) read) fits

pub tick_part : (n : ℕ) → n ≤ 16 → Part 8 (line.Tick n ∷ [])
tick_part n h = counted keyword.Tick line.Tick 2 n refl refl (λ m. (refl, refl)) (λ r c w. refl) (omega (arith, h))

pub commit_part : (n : ℕ) → n ≤ 8 → Part 9 (line.Commit n ∷ [])
commit_part n h = counted keyword.Commit line.Commit 1 n refl refl (λ m. (refl, refl)) (λ r c w. refl) (omega (arith, h))

pub stop_part : (n : ℕ) → n ≤ 8 → Part 7 (line.Stop n ∷ [])
stop_part n h = counted keyword.Stop line.Stop 1 n refl refl (λ m. (refl, refl)) (λ r c w. refl) (omega (arith, h))

pub open_part : (n : ℕ) → n ≤ 8 → Part 7 (line.Open n ∷ [])
open_part n h = counted keyword.Open line.Open 1 n refl refl (λ m. (refl, refl)) (λ r c w. refl) (omega (arith, h))

pub mark_part : (n : ℕ) → n ≤ 8 → Part 7 (line.Mark n ∷ [])
mark_part n h = counted keyword.Mark line.Mark 1 n refl refl (λ m. (refl, refl)) (λ r c w. refl) (omega (arith, h))

pub write_part : (n : ℕ) → n ≤ 8 → Part 8 (line.Write n ∷ [])
write_part n h = counted keyword.Write line.Write 1 n refl refl (λ m. (refl, refl)) (λ r c w. refl) (omega (arith, h))

pub mix_part : (n : ℕ) → n < 10 ^ 10 → Part 15 (line.Mix n ∷ [])
mix_part n h = counted keyword.Mix line.Mix 10 n refl refl (λ m. (refl, refl)) (λ r c w. refl) (omega (arith, h))

pub at_part : (n : ℕ) → n ≤ 4102444799 → Part 14 (line.At n ∷ [])
at_part n h =
    let read : number_up_to 4102444799 (decimal n) ≡ Some n = printed_number 4102444799 n h (omega (arith, h)) in
    numbered keyword.At line.At 10 n refl refl (λ m. (refl, refl))
    (λ rules content. ap (λ (o : Option ℕ). read_or kind.Number line.At o) read) (omega (arith, h))

pub flow_part : Part 5 (line.Flow ∷ [])
flow_part =
    one 5 line.Flow
    (record {
      plain = plain_as keyword.Flow line.Flow [] tt refl refl (λ rules content. refl);
      no_setting = refl;
      no_end = refl;
    })
    (omega arith)
