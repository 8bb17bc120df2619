-- Lemmas on the lines of a text, and on the words of a line.
use Rattle.std.proofs.Common.{◌≡◌, ℕ, ◌+◌, ◌<◌, ◌≤◌, Bool, true, false, ◌&&◌, ◌==◌, if◌then◌else◌, List, [], ◌∷◌, length, drop, get_or, Option, Some, None, option_map, refl, ap, sym, ◌∙◌, subst, arith, not, ◌++◌, append-nil, length-append, filter}
use Rattle.world_script.proofs.Names.{and-true, and_parts, at_drop_all, cut_at, drop-cons, is_empty, is_printable, leb-true, list_all-append, nat_tests, onto_first, onto_line, raw_lines, RawLine, slice_split, words_of, words_text}
use Rattle.std.specs.Int.{is_in_range}

-- a text without a line feed is one line, if it has an octet
abbrev pub one_line : List ℕ → List RawLine
one_line [] = []
one_line (x ∷ xs) = record { octets = x ∷ xs; ended = false } ∷ []

abbrev pub LinesAre : List ℕ → Option (List ℕ × List ℕ) → Type 0
LinesAre xs None = raw_lines xs ≡ one_line xs
LinesAre xs (Some p) = raw_lines xs ≡ record { octets = p.0; ended = true } ∷ raw_lines p.1

onto_one : (x : ℕ) (xs : List ℕ) → onto_line x (one_line xs) ≡ one_line (x ∷ xs)
onto_one x xs = grind arith

lines_after : (x : ℕ) (xs : List ℕ) (b : Bool) → (x == 10) ≡ b → (parts : Option (List ℕ × List ℕ)) → LinesAre xs parts →
    LinesAre (x ∷ xs) (if b then Some ([], xs) else option_map (λ p. (x ∷ p.0, p.1)) parts)
lines_after x xs b e parts h = grind (arith, onto_one)

lines_at : (xs : List ℕ) → LinesAre xs (cut_at 10 xs)
lines_at [] = refl
lines_at (x ∷ xs) = lines_after x xs (x == 10) refl (cut_at 10 xs) (lines_at xs)

-- a line feed stands in the text
pub lines_some : (xs before later : List ℕ) → Some (before, later) ≡ cut_at 10 xs →
    raw_lines xs ≡ record { octets = before; ended = true } ∷ raw_lines later
lines_some xs before later e = subst (LinesAre xs) (sym e) (lines_at xs)

-- none does
pub lines_none : (xs : List ℕ) → 0 < length xs → None ≡ cut_at 10 xs → raw_lines xs ≡ record { octets = xs; ended = false } ∷ []
lines_none xs h e = grind (arith, lines_at)

-- Printable octets.

joined_and : (a b c : Bool) → (a && (b && c)) ≡ ((a && b) && c)
joined_and a b c = grind arith

-- one octet more is looked at
pub printable_more : (printable : Bool) (content : List ℕ) (i : ℕ) → i < length content →
    (printable && is_printable (drop i content))
    ≡ ((printable && is_in_range 32 126 (get_or content i 0)) && is_printable (drop (i + 1) content))
printable_more printable content i h = search (arith, drop-cons, joined_and)

-- all were
pub printable_all : (printable : Bool) (content : List ℕ) (i : ℕ) → length content ≤ i →
    (printable && is_printable (drop i content)) ≡ printable
printable_all printable content i h =
    at_drop_all (λ (xs : List ℕ). printable && is_printable xs) content i h ∙ and-true printable

-- Words: printable octets but for spaces.

abbrev pub AllGlyphs : List ℕ → Type 0
AllGlyphs [] = Unit {0}
AllGlyphs (x ∷ xs) = (32 < x) × (x ≤ 126) × AllGlyphs xs

abbrev pub IsWord : List ℕ → Type 0
IsWord word = (0 < length word) × AllGlyphs word

abbrev pub AreWords : List (List ℕ) → Type 0
AreWords [] = Unit {0}
AreWords (word ∷ words) = IsWord word × AreWords words

-- how many octets words have, with a space before each
abbrev pub span : List (List ℕ) → ℕ
span [] = 0
span (word ∷ words) = 1 + length word + span words

pub length_words : (words : List (List ℕ)) → length (words_text words) ≡ span words
length_words [] = refl
length_words (word ∷ words) = omega (arith, length-append (32 ∷ word) (words_text words), length_words words)

-- The words of a line.

abbrev parts_of : List ℕ → List (List ℕ)
parts_of line = slice_split (λ x. x == 32) line

abbrev AllParts : List (List ℕ) → Type 0
AllParts [] = Unit {0}
AllParts (part ∷ parts) = AllGlyphs part × AllParts parts

pub printable_parts : (x : ℕ) (xs : List ℕ) → is_printable (x ∷ xs) ≡ true →
    (32 ≤ x) × (x ≤ 126) × (is_printable xs ≡ true)
printable_parts x xs h = search (arith, nat_tests, and_parts, leb-true)

onto_glyphs : (x : ℕ) (parts : List (List ℕ)) → 32 < x → x ≤ 126 → AllParts parts → AllParts (onto_first x parts)
onto_glyphs x parts low high h = grind arith

no_space : (x : ℕ) → 32 < x → (x == 32) ≡ false
no_space x h = grind (arith, h)

a_glyph : (x : ℕ) → (x == 32) ≡ false → 32 ≤ x → 32 < x
a_glyph x e h = grind (arith, e, h)

glyphs_after : (x : ℕ) (parts : List (List ℕ)) (b : Bool) → (x == 32) ≡ b → 32 ≤ x → x ≤ 126 → AllParts parts →
    AllParts (if b then [] ∷ parts else onto_first x parts)
glyphs_after x parts b e low high h = grind (arith, onto_glyphs, a_glyph)

parts_glyphs : (line : List ℕ) → is_printable line ≡ true → AllParts (parts_of line)
parts_glyphs [] h = (tt, tt)
parts_glyphs (x ∷ xs) h =
    let p = printable_parts x xs h in glyphs_after x (parts_of xs) (x == 32) refl p.0 p.1 (parts_glyphs xs p.2)

words_glyphs : (parts : List (List ℕ)) → AllParts parts → AreWords (filter (λ word. not (is_empty word)) parts)
words_glyphs [] h = tt
words_glyphs ([] ∷ parts) h = words_glyphs parts h.1
words_glyphs ((x ∷ xs) ∷ parts) h = ((omega arith, h.0), words_glyphs parts h.1)

-- the words of a printable line are words
pub are_words : (line : List ℕ) → is_printable line ≡ true → AreWords (words_of line)
are_words line h = words_glyphs (parts_of line) (parts_glyphs line h)

-- How long a line is.

onto_span : (x : ℕ) (parts : List (List ℕ)) → 0 < span parts → span (onto_first x parts) ≡ span parts + 1
onto_span x parts h = grind arith

span_after : (x n : ℕ) (parts : List (List ℕ)) (b : Bool) → span parts ≡ n + 1 →
    span (if b then [] ∷ parts else onto_first x parts) ≡ n + 1 + 1
span_after x n parts b h = grind (arith, onto_span)

parts_span : (line : List ℕ) → span (parts_of line) ≡ length line + 1
parts_span [] = omega arith
parts_span (x ∷ xs) = omega (arith, span_after x (length xs) (parts_of xs) (x == 32) (parts_span xs))

words_within : (parts : List (List ℕ)) → span (filter (λ word. not (is_empty word)) parts) ≤ span parts
words_within [] = omega arith
words_within ([] ∷ parts) = omega (arith, words_within parts)
words_within ((x ∷ xs) ∷ parts) = omega (arith, words_within parts)

-- a line has room for its words, and for a space between two
pub words_span : (line : List ℕ) → span (words_of line) ≤ length line + 1
words_span line = omega (arith, words_within (parts_of line), parts_span line)

-- Words with a space between two.

split_at_space : (word rest : List ℕ) → AllGlyphs word → parts_of (word ++ 32 ∷ rest) ≡ word ∷ parts_of rest
split_at_space [] rest h = refl
split_at_space (x ∷ xs) rest h = rw (no_space x h.0) (ap (onto_first x) (split_at_space xs rest h.2))

split_last : (word : List ℕ) → AllGlyphs word → parts_of word ≡ word ∷ []
split_last [] h = refl
split_last (x ∷ xs) h = rw (no_space x h.0) (ap (onto_first x) (split_last xs h.2))

joined_parts : (word : List ℕ) (words : List (List ℕ)) → AllGlyphs word → AreWords words →
    parts_of (word ++ words_text words) ≡ word ∷ words
joined_parts word [] h hs = ap parts_of (append-nil word) ∙ split_last word h
joined_parts word (next ∷ words) h hs = search (arith, split_at_space, (joined_parts next words hs.0.1 hs.1))

all_kept : (words : List (List ℕ)) → AreWords words → filter (λ word. not (is_empty word)) words ≡ words
all_kept [] h = refl
all_kept ([] ∷ words) h = absurd (omega (arith, h.0.0))
all_kept ((x ∷ xs) ∷ words) h = ap (λ (ws : List (List ℕ)). (x ∷ xs) ∷ ws) (all_kept words h.1)

pub words_of_joined : (word : List ℕ) (words : List (List ℕ)) → IsWord word → AreWords words →
    words_of (word ++ words_text words) ≡ word ∷ words
words_of_joined word words h hs = cc (joined_parts word words h.1 hs, all_kept (word ∷ words) (h, hs))

-- They are printable.

in_range : (x : ℕ) → 32 < x → x ≤ 126 → is_in_range 32 126 x ≡ true
in_range x low high = grind (arith, low, high)

glyphs_printable : (word : List ℕ) → AllGlyphs word → is_printable word ≡ true
glyphs_printable [] h = refl
glyphs_printable (x ∷ xs) h = rw (in_range x h.0 h.1) (glyphs_printable xs h.2)

both_printable : (a b : List ℕ) → is_printable a ≡ true → is_printable b ≡ true → is_printable (a ++ b) ≡ true
both_printable a b h k = list_all-append (λ x. is_in_range 32 126 x) a b ∙ rw h k

words_printable : (words : List (List ℕ)) → AreWords words → is_printable (words_text words) ≡ true
words_printable [] h = refl
words_printable (word ∷ words) h =
    both_printable (32 ∷ word) (words_text words) (glyphs_printable word h.0.1) (words_printable words h.1)

pub joined_printable : (word : List ℕ) (words : List (List ℕ)) → IsWord word → AreWords words →
    is_printable (word ++ words_text words) ≡ true
joined_printable word words h hs =
    both_printable word (words_text words) (glyphs_printable word h.1) (words_printable words hs)
