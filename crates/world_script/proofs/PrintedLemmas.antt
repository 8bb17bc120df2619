-- Lemmas on the text of a script: it reads as that script.
use Rattle.std.proofs.Common.{◌≡◌, ℕ, zero, suc, ◌+◌, ◌-◌, ◌<◌, ◌≤◌, Bool, true, false, ◌==◌, nat_lt, if◌then◌else◌, List, [], ◌∷◌, ◌++◌, length, take, slice_get, Ok, Err, refl, ap, sym, ◌∙◌, subst, arith, append_assoc, append-nil, length-append}
use Rattle.world_script.proofs.Names.{cases_lt, fitted, is_end_line, is_printable, le-leb, length-take, Line, line_content, line_size, line_text, lines_text, list_any, lt-leb, ltb-false, most_text, nat_tests, ne_eqb, NoEnd, onto_line, option_map_or, progress_of, raw_lines, RawLine, reading_of, ReadsBack, Refusal, script_after, script_in, ScriptKind, take_at, TooLong}
use Rattle.world_script.proofs.LineLemmas.{IsPrintedLine, IsSayable, line_printed, onward_ok}
use Rattle.world_script.proofs.WordLemmas.{printable_parts}
use Rattle.world_script.proofs.ScriptLemmas.{not_long}
use Rattle.world_script.proofs.ValueLemmas.{ok_if, passed}

-- each line's text says it, after the lines before it
abbrev pub AreSayable : ScriptKind → List Line → List Line → Type 0
AreSayable of before [] = Unit {0}
AreSayable of before (said ∷ later) = IsSayable of before said × AreSayable of (before ++ said ∷ []) later

-- Lines as they are printed: a line feed ends each but perhaps the last.

abbrev raw_of : ScriptKind → Bool → Line → RawLine
raw_of of ended said = record { octets = line_text of said; ended = ended }

abbrev raws_of : ScriptKind → Bool → List Line → List RawLine
raws_of of ended [] = []
raws_of of ended (said ∷ []) = raw_of of ended said ∷ []
raws_of of ended (said ∷ next ∷ later) = raw_of of true said ∷ raws_of of ended (next ∷ later)

abbrev text_of : ScriptKind → Bool → List Line → List ℕ
text_of of ended [] = []
text_of of ended (said ∷ []) = line_text of said ++ (if ended then 10 ∷ [] else [])
text_of of ended (said ∷ next ∷ later) = line_text of said ++ 10 ∷ text_of of ended (next ∷ later)

-- the last line has octets
abbrev LastShows : ScriptKind → List Line → Type 0
LastShows of [] = ⊥
LastShows of (said ∷ []) = 0 < length (line_text of said)
LastShows of (said ∷ next ∷ later) = LastShows of (next ∷ later)

-- The lines of what is printed.

line_raw : (text rest : List ℕ) → is_printable text ≡ true →
    raw_lines (text ++ 10 ∷ rest) ≡ record { octets = text; ended = true } ∷ raw_lines rest
line_raw [] rest h = refl
line_raw (x ∷ xs) rest h =
    let p = printable_parts x xs h in rw (ne_eqb x 10 (λ e. omega (arith, p.0))) (ap (onto_line x) (line_raw xs rest p.2))

last_raw : (x : ℕ) (xs : List ℕ) → is_printable (x ∷ xs) ≡ true →
    raw_lines (x ∷ xs) ≡ record { octets = x ∷ xs; ended = false } ∷ []
last_raw x [] h = let p = printable_parts x [] h in rw (ne_eqb x 10 (λ e. omega (arith, p.0))) refl
last_raw x (y ∷ ys) h =
    let p = printable_parts x (y ∷ ys) h in rw (ne_eqb x 10 (λ e. omega (arith, p.0))) (ap (onto_line x) (last_raw y ys p.2))

last_line : (text : List ℕ) → 0 < length text → is_printable text ≡ true →
    raw_lines (text ++ []) ≡ record { octets = text; ended = false } ∷ []
last_line [] some h = absurd (omega (arith, some))
last_line (x ∷ xs) some h = ap raw_lines (append-nil (x ∷ xs)) ∙ last_raw x xs h

all_raws : (of : ScriptKind) (ended : Bool) (before lines : List Line) → AreSayable of before lines →
    (ended ≡ false → LastShows of lines) →
    raw_lines (text_of of ended lines) ≡ raws_of of ended lines
all_raws of ended before [] are shows = refl
all_raws of true before (said ∷ []) are shows = line_raw (line_text of said) [] are.0.plain
all_raws of false before (said ∷ []) are shows = last_line (line_text of said) (shows refl) are.0.plain
all_raws of ended before (said ∷ next ∷ later) are shows =
    search (arith, line_raw, (all_raws of ended (before ++ said ∷ []) (next ∷ later) are.1 shows))

no_return : (xs : List ℕ) (k : ℕ) → is_printable xs ≡ true → option_map_or (λ x. x == 13) (slice_get xs k) false ≡ false
no_return [] k h = refl
no_return (x ∷ xs) zero h = ne_eqb x 13 (λ e. omega (arith, (printable_parts x xs h).0))
no_return (x ∷ xs) (suc k) h = no_return xs k (printable_parts x xs h).2

plain_content : (of : ScriptKind) (ended : Bool) (said : Line) → is_printable (line_text of said) ≡ true →
    line_content (raw_of of ended said) ≡ line_text of said
plain_content of true said h = rw (no_return (line_text of said) (length (line_text of said) - 1) h) refl
plain_content of false said h = refl

-- They are read.

read_again : (of : ScriptKind) (ended : Bool) (size : ℕ) (before : List Line) (said : Line) → IsSayable of before said →
    size + line_size (raw_of of ended said) ≤ most_text →
    reading_of (progress_of of size before) (raw_of of ended said) ≡ Ok said
read_again of ended size before said is room = search (arith, not_long, plain_content, is.again)

one_ended : (of : ScriptKind) (ended : Bool) (said : Line) →
    line_size (raw_of of ended said) ≡ length (text_of of ended (said ∷ []))
one_ended of ended said = grind (arith, length-append)

script_again : (of : ScriptKind) (ended : Bool) (size : ℕ) (before lines all : List Line) → AreSayable of before lines →
    before ++ lines ≡ all → list_any is_end_line all ≡ true →
    size + length (text_of of ended lines) ≤ most_text →
    script_after of size before (raws_of of ended lines) ≡ Ok all
script_again of ended size before [] all are e ends room = search (arith, append-nil)
script_again of ended size before (said ∷ []) all are e ends room =
    let within : size + line_size (raw_of of ended said) ≤ most_text = omega (arith, room, one_ended of ended said) in
    rw (read_again of ended size before said are.0 within)
    (script_again of ended (size + line_size (raw_of of ended said)) (before ++ said ∷ []) [] all are.1
    (append-nil (before ++ said ∷ []) ∙ e) ends (omega (arith, within)))
script_again of ended size before (said ∷ next ∷ later) all are e ends room =
    let long = length-append (line_text of said) (10 ∷ text_of of ended (next ∷ later)) in
    let within : size + line_size (raw_of of true said) ≤ most_text = omega (arith, room, long) in
    rw (read_again of true size before said are.0 within)
    (script_again of ended (size + line_size (raw_of of true said)) (before ++ said ∷ []) (next ∷ later) all are.1
    (append_assoc before (said ∷ []) (next ∷ later) ∙ e) ends (omega (arith, room, long)))

-- The text.

whole_text : (of : ScriptKind) (lines : List Line) → text_of of true lines ≡ lines_text of lines
whole_text of [] = refl
whole_text of (said ∷ []) = sym (append-nil (line_text of said ++ 10 ∷ []))
whole_text of (said ∷ next ∷ later) = search (arith, (whole_text of (next ∷ later)), append_assoc)

but_the_last : (of : ScriptKind) (lines : List Line) → LastShows of lines →
    text_of of true lines ≡ text_of of false lines ++ 10 ∷ []
but_the_last of [] shows = absurd shows
but_the_last of (said ∷ []) shows = ap (λ (l : List ℕ). l ++ 10 ∷ []) (sym (append-nil (line_text of said)))
but_the_last of (said ∷ next ∷ later) shows = search (arith, (but_the_last of (next ∷ later) shows), append_assoc)

read_whole : (of : ScriptKind) (ended : Bool) (lines : List Line) → AreSayable of [] lines →
    list_any is_end_line lines ≡ true → (ended ≡ false → LastShows of lines) →
    length (text_of of ended lines) ≤ most_text → script_in of (text_of of ended lines) ≡ Ok lines
read_whole of ended lines are ends shows room = search (arith, all_raws, script_again)

-- lines that are sayable and fit
pub fitting : (of : ScriptKind) (lines : List Line) → AreSayable of [] lines → list_any is_end_line lines ≡ true →
    length (lines_text of lines) ≤ most_text → ReadsBack of lines
fitting of lines are ends room =
    let fits : fitted (lines_text of lines) ≡ lines_text of lines = rw (le-leb (length (lines_text of lines)) most_text room) refl in
    ap (script_in of) (fits ∙ sym (whole_text of lines))
    ∙ read_whole of true lines are ends (λ e. absurd (cc)) (subst (λ (t : List ℕ). length t ≤ most_text) (sym (whole_text of lines)) room)

-- lines that would be too long by the last line feed
overlong : (of : ScriptKind) (lines : List Line) → AreSayable of [] lines → list_any is_end_line lines ≡ true →
    LastShows of lines →
    length (text_of of true lines) ≡ most_text + 1 → ReadsBack of lines
overlong of lines are ends shows long =
    let front = text_of of false lines in
    let joined = but_the_last of lines shows in
    let as_long : length front ≡ most_text = omega (arith, long, ap length joined, length-append front (10 ∷ [])) in
    search (arith, nat_tests, lt-leb, whole_text, take_at, read_whole)

-- Lines that were read.

-- a line feed ends each line but perhaps the last, which then has octets
abbrev WellEnded : List RawLine → Type 0
WellEnded [] = Unit {0}
WellEnded (raw ∷ []) = raw.ended ≡ false → 0 < length raw.octets
WellEnded (raw ∷ next ∷ raws) = (raw.ended ≡ true) × WellEnded (next ∷ raws)

ended_first : (raws : List RawLine) → WellEnded raws → WellEnded (record { octets = []; ended = true } ∷ raws)
ended_first raws h = grind arith

onto_ended : (x : ℕ) (raws : List RawLine) → WellEnded raws → WellEnded (onto_line x raws)
onto_ended x raws h = grind arith

ended_case : (x : ℕ) (raws : List RawLine) (b : Bool) → WellEnded raws →
    WellEnded (if b then record { octets = []; ended = true } ∷ raws else onto_line x raws)
ended_case x raws b h = grind (arith, ended_first, onto_ended)

raws_end : (text : List ℕ) → WellEnded (raw_lines text)
raws_end [] = tt
raws_end (x ∷ xs) = ended_case x (raw_lines xs) (x == 10) (raws_end xs)

-- The lines after these were read from lines of a text that begins after so many octets.
record AreRead (of : ScriptKind) (size : ℕ) (before : List Line) (raws : List RawLine) (lines : List Line) : Type 0 where
  rest : List Line
  all : before ++ rest ≡ lines
  sayable : AreSayable of before rest
  ends : list_any is_end_line lines ≡ true
  count : length rest ≡ length raws
  room : size + length (text_of of true rest) ≤ most_text + 1
  last : size + length (text_of of true rest) ≡ most_text + 1 → LastShows of rest

abbrev no_end : List Line → Refusal
no_end before = record { place = length before + 1; kind = NoEnd }

none_read : (of : ScriptKind) (size : ℕ) (before lines : List Line) → size ≤ most_text →
    (if list_any is_end_line before then Ok before else Err (no_end before)) ≡ Ok lines → AreRead of size before [] lines
none_read of size before lines room h = search (arith, ok_if, append-nil)

longer : (of : ScriptKind) (said : Line) (rest : List Line) →
    length (text_of of true (said ∷ rest)) ≡ length (line_text of said) + 1 + length (text_of of true rest)
longer of said rest = grind (arith, length-append)

no_later : (of : ScriptKind) (rest : List Line) → length rest ≡ 0 → length (text_of of true rest) ≡ 0
no_later of [] h = refl
no_later of (said ∷ rest) h = absurd (omega (arith, h))

returned : (xs : List ℕ) (b : Bool) → length (if b then take (length xs - 1) xs else xs) ≤ length xs
returned xs b = grind (arith, length-take)

content_within : (octets : List ℕ) (ended : Bool) →
    length (line_content (record { octets = octets; ended = ended })) ≤ length octets
content_within octets ended = grind (arith, returned)

one_read : (of : ScriptKind) (size : ℕ) (before : List Line) (octets : List ℕ) (ended : Bool) (raws : List RawLine)
    (lines : List Line) (said : Line) →
    size + line_size (record { octets = octets; ended = ended }) ≤ most_text →
    WellEnded (record { octets = octets; ended = ended } ∷ raws) →
    IsPrintedLine of before (line_content (record { octets = octets; ended = ended })) said →
    AreRead of (size + line_size (record { octets = octets; ended = ended })) (before ++ said ∷ []) raws lines →
    AreRead of size before (record { octets = octets; ended = ended } ∷ raws) lines
one_read of size before octets true raws lines said fit well is later =
    search (arith, longer, content_within, append_assoc, later.last)
one_read of size before octets false [] lines said fit well is later = search (arith, longer, no_later, append_assoc)
one_read of size before octets false (next ∷ raws) lines said fit well is later = absurd (cc)

well_later : (raw : RawLine) (raws : List RawLine) → WellEnded (raw ∷ raws) → WellEnded raws
well_later raw raws h = grind arith

are_read : (of : ScriptKind) (size : ℕ) (before : List Line) (raws : List RawLine) (lines : List Line) →
    size ≤ most_text → WellEnded raws →
    script_after of size before raws ≡ Ok lines → AreRead of size before raws lines
are_read of size before [] lines room well h = none_read of size before lines room h
are_read of size before (raw ∷ raws) lines room well h =
    let p = onward_ok (length before + 1) (reading_of (progress_of of size before) raw) _ lines h in
    let q = passed (nat_lt most_text (size + line_size raw)) TooLong _ p.0 p.1 in
    let fit : size + line_size raw ≤ most_text = ltb-false most_text (size + line_size raw) q.0 in
    one_read of size before raw.octets raw.ended raws lines p.0 fit well
    (line_printed of size before (line_content raw) p.0 q.1)
    (are_read of (size + line_size raw) (before ++ p.0 ∷ []) raws lines fit (well_later raw raws well) p.2)

read_lines : (of : ScriptKind) (raws : List RawLine) (lines : List Line) (r : AreRead of 0 [] raws lines) →
    ReadsBack of r.rest
read_lines of raws lines r = search (arith, cases_lt, fitting, whole_text, overlong, r.last)

-- a script that was read prints as a text that reads as it
pub reads_back : (of : ScriptKind) (text : List ℕ) (lines : List Line) → script_in of text ≡ Ok lines →
    ReadsBack of lines
reads_back of text lines h =
    let r = are_read of 0 [] (raw_lines text) lines (omega arith) (raws_end text) h in
    subst (λ (ls : List Line). ReadsBack of ls) r.all (read_lines of (raw_lines text) lines r)
