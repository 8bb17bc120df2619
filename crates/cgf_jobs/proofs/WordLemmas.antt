-- What clap makes of words that are no options: it takes any number of them, the first as the command's name and the
-- others as its values.
use Rattle.std.proofs.Common.{◌≡◌, ◌∙◌, refl, sym, ap, ℕ, ◌==◌, ◌&&◌, ◌||◌, Bool, true, false, List, [], ◌∷◌, ◌++◌, map, Some, None, codes, append_assoc, true≢false, cond}
use Rattle.cgf_jobs.proofs.Names.{fold, found_in, is_option, list_any, option_and_then, words_app}
use Rattle.std.specs.Str.{bytes_eq}
use Rattle.clap.specs.Lexer.{long_of, long_of_rest, short_of, short_of_rest, strip_byte}
use Rattle.clap.specs.Walk.{Held, Rule, Text, Waiting, Walk, idle, positional, arg_by_index, finished, nothing_held, to_positional, walk_from, walked}
use Rattle.clap.specs.Simple.{Shape, built, is_simple, matches_of}
use Rattle.clap.specs.Takes.{takes, walk_passes}

-- A word that is no option isn't `--`, and is no option of clap.

plain : (w : Text) → is_option w ≡ false
    → (bytes_eq w (45 ∷ 45 ∷ []) ≡ false) × (long_of w ≡ None) × (short_of w ≡ None)
plain [] is = (refl, refl, refl)
plain (x ∷ []) is = go (x == 45)
  where
    go : (b : Bool)
        → ((b && false) ≡ false)
        × (option_and_then long_of_rest (option_and_then (strip_byte 45) (cond b (Some []) None)) ≡ None)
        × (option_and_then short_of_rest (cond b (Some []) None) ≡ None)
    go true = (refl, refl, refl)
    go false = (refl, refl, refl)
plain (x ∷ y ∷ xs) is = go (x == 45) is
  where
    go : (b : Bool) → b ≡ false → ((b && bytes_eq (y ∷ xs) (45 ∷ [])) ≡ false)
        × (option_and_then long_of_rest (option_and_then (strip_byte 45) (cond b (Some (y ∷ xs)) None)) ≡ None)
        × (option_and_then short_of_rest (cond b (Some (y ∷ xs)) None) ≡ None)
    go true is = absurd (true≢false is)
    go false is = (refl, refl, refl)

neither_first : (a b : Bool) → (a || b) ≡ false → a ≡ false
neither_first true b is = is
neither_first false b is = refl

pub neither_second : (a b : Bool) → (a || b) ≡ false → b ≡ false
neither_second true b is = absurd (true≢false is)
neither_second false b is = is

-- The parser, once it is built.

abbrev top : Shape
top = (built words_app).top

pub simple : is_simple words_app ≡ true
simple = refl

abbrev rules : List Rule
rules = (built words_app).top.rules

-- No option waits for a value, so each word goes to the positional in turn.

abbrev at : Held → Waiting → ℕ → Walk
at h waiting position = record { held = h; waiting = waiting; position = position; is_trailing = false; stopped = None }

idle_word : (h : Held) (position : ℕ) (word : Text) → is_option word ≡ false →
    walked rules [] (at h idle position) word ≡ to_positional rules (arg_by_index rules position) word (at h idle position) h
unfolding walked
idle_word h position word is = let p = plain word is in rw (p.0, p.1, p.2) refl

next_word : (h : Held) (word : Text) → is_option word ≡ false →
    walked rules [] (at h positional 2) word ≡ to_positional rules (arg_by_index rules 2) word (at h positional 2) h
unfolding walked
next_word h word is = let p = plain word is in rw (p.0, p.1, p.2) refl

-- The values: the last one is pending, and those before it are in a row.

abbrev kept : Text → List Text → Text → Held
kept name vs v = record { rows = found_in (name ∷ vs); pending = Some (codes "VALUES", v ∷ []); skip = 0 }

kept_more : (name : Text) (vs : List Text) (v word : Text) → is_option word ≡ false →
    walked rules [] (at (kept name vs v) positional 2) word ≡ at (kept name (vs ++ v ∷ []) word) positional 2
kept_more name [] v word is = next_word _ word is
kept_more name (x ∷ xs) v word is = next_word _ word is

abbrev from : Walk → List Text → Walk
from w words = fold (walked rules []) w words

rest_passes : (name : Text) (vs : List Text) (v : Text) (words : List Text) → list_any is_option words ≡ false →
    walk_passes top [] (at (kept name vs v) positional 2) words ≡ true
unfolding walk_passes
rest_passes name vs v [] are = refl
rest_passes name vs v (word ∷ words) are =
    let is : is_option word ≡ false = neither_first (is_option word) _ are in
    let p = plain word is in
    rw (p.0, p.1, p.2, kept_more name vs v word is)
    (rest_passes name (vs ++ v ∷ []) word words (neither_second (is_option word) _ are))

rest_kept : (name : Text) (vs : List Text) (v : Text) (words : List Text) → list_any is_option words ≡ false →
    (last : Text) × (before : List Text) × (from (at (kept name vs v) positional 2) words ≡ at (kept name before last) positional 2)
    × (vs ++ v ∷ words ≡ before ++ last ∷ [])
rest_kept name vs v [] are = (v, vs, refl, refl)
rest_kept name vs v (word ∷ words) are =
    let is : is_option word ≡ false = neither_first (is_option word) _ are in
    let more = rest_kept name (vs ++ v ∷ []) word words (neither_second (is_option word) _ are) in
    (more.0, more.1, rw (kept_more name vs v word is) more.2, sym (append_assoc vs (v ∷ []) (word ∷ words)) ∙ more.3)

-- the name and the first value
begins : (name v : Text) → is_option name ≡ false → is_option v ≡ false →
    walked rules [] (walked rules [] (walk_from nothing_held) name) v ≡ at (kept name [] v) positional 2
begins name v name_is v_is =
    ap (λ (w : Walk). walked rules [] w v) (idle_word nothing_held 1 name name_is) ∙ idle_word _ 2 v v_is

begin_passes : (name v : Text) (words : List Text) → is_option name ≡ false → is_option v ≡ false → list_any is_option words ≡ false →
    walk_passes top [] (walk_from nothing_held) (name ∷ v ∷ words) ≡ true
unfolding walk_passes
begin_passes name v words name_is v_is are =
    let p = plain name name_is in let q = plain v v_is in
    rw (
      p.0,
      p.1,
      p.2,
      idle_word nothing_held 1 name name_is,
      q.0,
      q.1,
      q.2,
      idle_word (record { rows = []; pending = Some (codes "COMMAND", name ∷ []); skip = 0 }) 2 v v_is,
    )
    (rest_passes name [] v words are)

no_words : takes words_app [] ≡ true
unfolding walk_passes
no_words = refl

one_word : (name : Text) → is_option name ≡ false → takes words_app (name ∷ []) ≡ true
unfolding walk_passes
one_word name is = let p = plain name is in rw (p.0, p.1, p.2, idle_word nothing_held 1 name is) refl

-- the parser takes words that are no options
pub takes_words : (words : List Text) → list_any is_option words ≡ false → takes words_app words ≡ true
takes_words [] are = no_words
takes_words (name ∷ []) are = one_word name (neither_first (is_option name) _ are)
takes_words (name ∷ v ∷ words) are =
    let name_is : is_option name ≡ false = neither_first (is_option name) _ are in
    let more : list_any is_option (v ∷ words) ≡ false = neither_second (is_option name) _ are in
    let v_is : is_option v ≡ false = neither_first (is_option v) _ more in
    let rest = rest_kept name [] v words (neither_second (is_option v) _ more) in
    rw (begins name v name_is v_is, rest.2, begin_passes name v words name_is v_is (neither_second (is_option v) _ more)) refl

-- what is found in them is as they stand
pub said_by_words : (words : List Text) → list_any is_option words ≡ false → matches_of words_app words ≡ found_in words
said_by_words [] are = refl
said_by_words (name ∷ []) are =
    let is : is_option name ≡ false = neither_first (is_option name) _ are in
    rw (idle_word nothing_held 1 name is) refl
said_by_words (name ∷ v ∷ words) are =
    let name_is : is_option name ≡ false = neither_first (is_option name) _ are in
    let more : list_any is_option (v ∷ words) ≡ false = neither_second (is_option name) _ are in
    let v_is : is_option v ≡ false = neither_first (is_option v) _ more in
    let rest = rest_kept name [] v words (neither_second (is_option v) _ more) in
    rw (begins name v name_is v_is, rest.2) (ends name rest.1 rest.0 ∙ ap (λ (vs : List Text). found_in (name ∷ vs)) (sym rest.3))
  where
    ends : (name : Text) (before : List Text) (last : Text) → finished rules (kept name before last) ≡ found_in (name ∷ (before ++ last ∷ []))
    ends name [] last = refl
    ends name (x ∷ xs) last = refl

pub any_of_map : {A : Type 0} (text : A → Text) (words : List A) → list_any is_option (map text words) ≡ list_any (λ word. is_option (text word)) words
any_of_map text [] = refl
any_of_map text (word ∷ words) = ap (λ (b : Bool). is_option (text word) || b) (any_of_map text words)
