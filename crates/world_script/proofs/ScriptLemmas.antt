-- Lemmas on the lines of a script: loops that read and print one a turn, a line of a feed that is a datagram with its
-- octets in one word, and that settings stand before all other lines.
use Rattle.std.proofs.Common.{◌≡◌, ℕ, ◌+◌, ◌<◌, List, [], ◌∷◌, ◌++◌, length, take, get_or, map, ap, sym, ◌∙◌, append_assoc, ◌||◌, Bool, true, false, if◌then◌else◌, count_by, Ok, Err, arith, length-append, ◌≤◌, nat_lt, Some, None, refl, append-nil, codes, not}
use Rattle.world_script.proofs.Names.{Addr, address_of, are_settings_first, behind_in, bytes_eq, bytes_eq-Decides, cond_both, contented, encode_upper, ended_by, Feed, flat_map, flat_map-map, flat_map_more, InputKind, is_action_line, is_blank, is_empty, is_printable, is_setting_line, keyword_of, Line, line_content, line_size, line_text, lines_text, list_any, list_any-append, most_text, NoEnd, not-true, octets_in, one_datagram, or-false, Progress, progress_of, raw_lines, RawLine, read_or, read_then, reading_of, same_Some, script_after, script_in, ScriptKind, take_more, TooLong, words_of, words_text}
use Rattle.std.proofs.lemmas.List.Sums.{fold-append}
use Rattle.world_script.specs.Outcome.{progress_after}
use Rattle.world_script.specs.declared.fault.InputKind.TheVariants as kind
use Rattle.world_script.specs.declared.keyword.Keyword.TheVariants.{In}
use Rattle.world_script.specs.declared.line.Line.TheVariants as line
use Rattle.world_script.proofs.AddressLemmas.{address_word, cut_joined}
use Rattle.world_script.proofs.HexadecimalLemmas.{octets_glyphs, said_alone}
use Rattle.world_script.proofs.LineLemmas.{again_by_words, line_printed, onward_ok}
use Rattle.world_script.proofs.ValueLemmas.{then_some, where_some, ok_if, passed}
use Rattle.world_script.proofs.WordLemmas.{AreWords, IsWord, joined_printable, words_of_joined}

-- one more item of a list
more : {A : Type 0} (f : A → List ℕ) (xs : List A) (i : ℕ) (d : A) (old now new : List ℕ) → i < length xs →
    now ≡ old ++ flat_map f (take i xs) → new ≡ now ++ f (get_or xs i d) → new ≡ old ++ flat_map f (take (i + 1) xs)
more f xs i d old now new h so_far grown = search (arith, take_more, flat_map_more)

pub words_more : (records : List (List ℕ)) (i : ℕ) (r : List ℕ) (old now new : List ℕ) → i < length records → r ≡ get_or records i r →
    now ≡ old ++ words_text (map encode_upper (take i records)) → new ≡ now ++ 32 ∷ encode_upper r →
    new ≡ old ++ words_text (map encode_upper (take (i + 1) records))
words_more records i r old now new h here so_far grown =
    more (λ (x : List ℕ). 32 ∷ encode_upper x) records i r old now new h
    (so_far ∙ ap (λ l. old ++ l) (flat_map-map (λ word. 32 ∷ word) encode_upper (take i records)))
    (grown ∙ ap (λ (x : List ℕ). now ++ 32 ∷ encode_upper x) here)
    ∙ ap (λ l. old ++ l) (sym (flat_map-map (λ word. 32 ∷ word) encode_upper (take (i + 1) records)))

pub lines_more : (of : ScriptKind) (lines : List Line) (i : ℕ) (said : Line) (now new : List ℕ) → i < length lines → said ≡ get_or lines i said →
    now ≡ lines_text of (take i lines) → new ≡ now ++ line_text of said ++ 10 ∷ [] → new ≡ lines_text of (take (i + 1) lines)
lines_more of lines i said now new h here so_far grown =
    more (λ (x : Line). line_text of x ++ 10 ∷ []) lines i said [] now new h so_far
    (grown ∙ append_assoc now (line_text of said) (10 ∷ []) ∙ ap (λ (x : Line). now ++ (line_text of x ++ 10 ∷ [])) here)

-- The progress after one more line.

any_after : (p : Line → Bool) (before : List Line) (said : Line) → list_any p (before ++ said ∷ []) ≡ (list_any p before || p said)
any_after p before said = list_any-append p before (said ∷ []) ∙ ap (λ b. list_any p before || b) (or-false (p said))

count_after : (p : Line → Bool) (before : List Line) (said : Line) → count_by p (before ++ said ∷ []) ≡ count_by p before + (if p said then 1 else 0)
count_after p before said = fold-append (λ (n : ℕ) (line : Line). n + (if p line then 1 else 0)) 0 before (said ∷ [])

length_after : (before : List Line) (said : Line) → length (before ++ said ∷ []) + 1 ≡ length before + 1 + 1
length_after before said = omega (arith, length-append before (said ∷ []))

pub progress_of-append : (of : ScriptKind) (size more : ℕ) (before : List Line) (said : Line) →
    progress_of of (size + more) (before ++ said ∷ []) ≡ progress_after (progress_of of size before) said more
progress_of-append of size more before said = search (arith, length_after, any_after, count_after)

-- the progress follows the lines that were read
pub step_follows : (of : ScriptKind) (progress next : Progress) (lines more : List Line) (said : Line) (size : ℕ) →
    progress ≡ progress_of of progress.size lines → next ≡ progress_after progress said size → more ≡ lines ++ said ∷ [] →
    next ≡ progress_of of next.size more
step_follows of progress next lines more said size follows after grown =
    rw (after, grown) (ap (λ (p : Progress). progress_after p said size) follows
    ∙ sym (progress_of-append of progress.size size lines said))

-- The first line of the rest.

-- it is read
pub line_read : (of : ScriptKind) (text : List ℕ) (progress next : Progress) (lines more : List Line) (rest raws : List RawLine) (raw : RawLine) (said : Line) (size : ℕ) →
    script_after of progress.size lines rest ≡ script_in of text → progress ≡ progress_of of progress.size lines → rest ≡ raw ∷ raws →
    reading_of progress raw ≡ Ok said → size ≡ line_size raw → next ≡ progress_after progress said size → more ≡ lines ++ said ∷ [] →
    script_after of next.size more raws ≡ script_in of text
line_read of text progress next lines more rest raws raw said size so_far follows here e sized after grown =
    rw (after, sized, grown) (rw (here, ap (λ (p : Progress). reading_of p raw) (sym follows) ∙ e) at so_far)

-- it is refused
pub line_refused : (of : ScriptKind) (text : List ℕ) (progress : Progress) (lines : List Line) (rest raws : List RawLine) (raw : RawLine) (kind : InputKind) →
    script_after of progress.size lines rest ≡ script_in of text → progress ≡ progress_of of progress.size lines → rest ≡ raw ∷ raws →
    reading_of progress raw ≡ Err kind → script_in of text ≡ Err (record { place = progress.place; kind = kind })
line_refused of text progress lines rest raws raw kind so_far follows here e = search arith

-- No line is left.

ends : (p : Progress) (b : Bool) (lines : List Line) → p.has_end ≡ b →
    ended_by p lines ≡ (if b then Ok lines else Err (record { place = p.place; kind = NoEnd }))
ends p b lines e = ap (λ (v : Bool). if v then Ok lines else Err (record { place = p.place; kind = NoEnd })) e

at_end : (of : ScriptKind) (text : List ℕ) (progress : Progress) (lines : List Line) (rest : List RawLine) (b : Bool) →
    script_after of progress.size lines rest ≡ script_in of text → progress ≡ progress_of of progress.size lines → rest ≡ [] → progress.has_end ≡ b →
    script_in of text ≡ (if b then Ok lines else Err (record { place = progress.place; kind = NoEnd }))
at_end of text progress lines rest b so_far follows none e = cc (ends progress b lines e)

-- there was an `end`
pub script_read : (of : ScriptKind) (text : List ℕ) (progress : Progress) (lines : List Line) (rest : List RawLine) →
    script_after of progress.size lines rest ≡ script_in of text → progress ≡ progress_of of progress.size lines → rest ≡ [] → progress.has_end ≡ true →
    script_in of text ≡ Ok lines
script_read of text progress lines rest so_far follows none e = at_end of text progress lines rest true so_far follows none e

-- there was none
pub no_end : (of : ScriptKind) (text : List ℕ) (progress : Progress) (lines : List Line) (rest : List RawLine) →
    script_after of progress.size lines rest ≡ script_in of text → progress ≡ progress_of of progress.size lines → rest ≡ [] → progress.has_end ≡ false →
    script_in of text ≡ Err (record { place = progress.place; kind = NoEnd })
no_end of text progress lines rest so_far follows none e = at_end of text progress lines rest false so_far follows none e

-- the first word of most lines of a feed
pub in_feed : (of : ScriptKind) (word : List ℕ) → of ≡ Feed → bytes_eq word (codes "in") ≡ true → Ok In ≡ keyword_of of word
in_feed of word feed e = search (arith, bytes_eq-Decides)

-- its text
text_of : (text first later : List ℕ) → behind_in text ≡ Some (first, later) → text ≡ codes "in" ++ words_text (first ∷ later ∷ [])
text_of text first later h = grind (arith, where_some, bytes_eq-Decides, cut_joined, append-nil)

-- an address and octets that are one word are read
contented_datagram : (before : Progress) (text from word octets : List ℕ) (sender : Addr) → before.kind ≡ Feed → before.has_end ≡ false →
    text ≡ codes "in" ++ words_text (from ∷ word ∷ []) → 0 < length word → address_of from ≡ Some sender → octets_in word ≡ Some octets →
    contented before text ≡ Ok (line.Datagram sender octets)
contented_datagram before text from word octets sender feed going is some address spelt =
    let name : IsWord (codes "in") = (omega arith, (omega arith, omega arith, (omega arith, omega arith, tt))) in
    let words : AreWords (from ∷ word ∷ []) = (address_word from sender address, ((some, octets_glyphs word octets spelt), tt)) in
    let blank : is_blank text ≡ false = ap is_blank is in
    let printable : is_printable text ≡ true = ap is_printable is ∙ joined_printable (codes "in") (from ∷ word ∷ []) name words in
    let split : words_of text ≡ codes "in" ∷ from ∷ word ∷ [] = ap words_of is ∙ words_of_joined (codes "in") (from ∷ word ∷ []) name words in
    again_by_words before In (line.Datagram sender octets) text (codes "in") (from ∷ word ∷ []) going refl blank printable
    split (ap (λ (k : ScriptKind). keyword_of k (codes "in")) feed)
    (λ i. read_then kind.Number (address i) (λ (found : Addr). read_or kind.Hex (line.Datagram found) (said_alone word octets spelt i)))

some_word : (word found : List ℕ) → (if is_empty word then None else Some word) ≡ Some found → (word ≡ found) × (0 < length word)
some_word word found h = grind (arith, same_Some)

-- a datagram of one word is what its line says
said_whole : (before : Progress) (text : List ℕ) (said : Line) → before.kind ≡ Feed → before.has_end ≡ false →
    one_datagram text ≡ Some said → contented before text ≡ Ok said
said_whole before text said feed going h =
    let parts = then_some (behind_in text) _ said h in
    let word = then_some (if is_empty parts.0.1 then None else Some parts.0.1) _ said parts.2 in
    let from = then_some (address_of parts.0.0) _ said word.2 in
    let octets = then_some (octets_in word.0) _ said from.2 in
    let whole = some_word parts.0.1 word.0 word.1 in
    contented_datagram before text parts.0.0 parts.0.1 octets.0 from.0 feed going
    (text_of text parts.0.0 parts.0.1 parts.1) whole.1 from.1 (ap octets_in whole.0 ∙ octets.1)
    ∙ ap Ok (same_Some (line.Datagram from.0 octets.0) said octets.2)

pub not_long : (n : ℕ) → n ≤ most_text → nat_lt most_text n ≡ false
not_long n h = grind (arith, h)

pub is_read : (before : Progress) (raw : RawLine) (said : Line) → before.size + line_size raw ≤ most_text →
    before.kind ≡ Feed → before.has_end ≡ false → Some said ≡ one_datagram (line_content raw) → reading_of before raw ≡ Ok said
is_read before raw said short feed going h =
    (λ i. if not_long (before.size + line_size raw) short i then Err kind.TooLong else contented before (line_content raw))
    ∙ said_whole before (line_content raw) said feed going (sym h)

first_append : (before : List Line) (said : Line) → are_settings_first before ≡ true
    → (list_any is_action_line before ≡ true → is_setting_line said ≡ false) → are_settings_first (before ++ said ∷ []) ≡ true
first_append [] said h k = cond_both (is_action_line said) true true (λ (b : Bool). b ≡ true) (λ e. refl) (λ e. refl)
first_append (x ∷ before) said h k =
    cond_both (is_action_line x) _ _ (λ (b : Bool). b ≡ true)
    (λ e. ap not (list_any-append is_setting_line before (said ∷ [])
    ∙ ap (λ (b : Bool). b || (is_setting_line said || false)) (not-true (list_any is_setting_line before) (rw e at h))
    ∙ ap (λ (b : Bool). b || false) (k (rw e))))
    (λ e. first_append before said (rw e at h) (λ late. k (rw e late)))

settings_after : (of : ScriptKind) (size : ℕ) (before : List Line) (raws : List RawLine) (lines : List Line) → are_settings_first before ≡ true
    → script_after of size before raws ≡ Ok lines → are_settings_first lines ≡ true
settings_after of size before [] lines first is = search (arith, ok_if)
settings_after of size before (raw ∷ raws) lines first is =
    let p = onward_ok (length before + 1) (reading_of (progress_of of size before) raw) _ lines is in
    let q = passed (nat_lt most_text (size + line_size raw)) TooLong _ p.0 p.1 in
    settings_after of (size + line_size raw) (before ++ p.0 ∷ []) raws lines
    (first_append before p.0 first (line_printed of size before (line_content raw) p.0 q.1).late) p.2

-- the settings of a script that is read stand before its other lines
pub settings_first : (of : ScriptKind) (text : List ℕ) (lines : List Line) → script_in of text ≡ Ok lines → are_settings_first lines ≡ true
settings_first of text lines is = settings_after of 0 [] (raw_lines text) lines refl is
