-- What holds of the lines that the grammar of scripts takes: settings are in their ranges, rules are rules, and there are
-- no more of them than there may be.
use Rattle.std.proofs.Common.{◌≡◌, ℕ, suc, ◌+◌, ◌*◌, ◌≤◌, ◌<◌, Bool, true, false, ◌&&◌, ◌==◌, nat_le, nat_lt, if◌then◌else◌, List, [], ◌∷◌, ◌++◌, length, count_by, All, Option, Some, None, is_some, option_and_then, Result, Ok, Err, IfOk, IsUtf8, slice_index_or, refl, ap, arith, codes, length-append, ℤ, pos, neg_ℤ}
use Rattle.replay_gateway.proofs.Names.{All-append, All-cons, and_parts, AreInRange, at_most, bytes_eq, cond_both, contented, flat_map, flat_map-append, IfOk-at_ok, IfOk-weaker, is_rule_line, IsInRange, IsWithin, keyed, leb-true, Line, ltb-false, ltb-true, most_rules, most_text, nat_tests, number_up_to, octets_of, onward, progress_of, reading_of, Refusal, rule_of, rules_in_line, same_Some, script_after, script_in, ScriptKind, ScriptValue, worded, words_of, ◌>>=◌}
use Rattle.std.proofs.lemmas.Int.{ints}
use Rattle.std.proofs.lemmas.List.Sums.{AllPass-from_list_all, sum_by-append, sum_by-cons}
use Rattle.std.proofs.lemmas.Str.{IsUtf8-from_ascii}
use Rattle.std.proofs.lemmas.Str.Ascii.{IsAscii-from_reads}
use Rattle.std.specs.Int.{is_in_range}
use Rattle.std.specs.Option.{ok_or}
use Rattle.world_script.specs.Forms.{is_setting, keyword_of}
use Rattle.world_script.specs.Printing.{ReadsBack, printed}
use Rattle.world_script.specs.Saying.{arm_said, at_said, call_of, fail_said, in_said, limit_said, offset_said, one_between, read_or, read_then, redirect_said, rule_said, ruled, said_as, said_by, submit_said, word_said}
use Rattle.world_script.specs.Text.{RawLine, is_blank, is_printable, line_content, line_size, onto_line, raw_lines, size_of}
use Rattle.world_script.specs.Values.{address_of, mode_of, number_between, number_of, offset_of, records_of, signed, two_digits, version_of}
use Rattle.world_script.specs.declared.fault.InputKind.{InputKind}
use Rattle.world_script.specs.declared.fault.InputKind.TheVariants as kind
use Rattle.world_script.specs.declared.keyword.Keyword.{Keyword}
use Rattle.world_script.specs.declared.keyword.Keyword.TheVariants as keyword
use Rattle.world_script.specs.declared.line.Line.TheVariants as line
use Rattle.world_script.specs.declared.mode.Mode.{Mode}
use Rattle.world_script.specs.declared.progress.Progress.{Progress}

-- ---- what a test leaves

if_ok : {A E : Type 0} (P : A → Type 0) (b : Bool) (r s : Result A E) → (b ≡ true → IfOk r P) → (b ≡ false → IfOk s P) →
    IfOk (if b then r else s) P
if_ok P true r s first later = first refl
if_ok P false r s first later = later refl

where_some : {A : Type 0} (b : Bool) (o : Option A) (x : A) → (if b then o else None) ≡ Some x →
    (b ≡ true) × (o ≡ Some x)
where_some b o x h = grind arith

then_some : {A B : Type 0} (o : Option A) (f : A → Option B) (y : B) → option_and_then f o ≡ Some y →
    (x : A) × (o ≡ Some x) × (f x ≡ Some y)
then_some o f y h = grind arith

-- ---- numbers

at_most_within : (most v : ℕ) {n : _} → at_most most v ≡ Some n → n ≤ most
at_most_within most v {n} h =
    let found = where_some _ _ n h in
    rw (same_Some v n found.1) at (leb-true v most found.0)

pub number_within : (most : ℕ) (word : List ℕ) {n : _} → number_up_to most word ≡ Some n → n ≤ most
number_within most word {n} h = at_most_within _ _ (where_some _ _ n h).1

number_from : (least most : ℕ) (word : List ℕ) (n : ℕ) → number_between least most word ≡ Some n → (least ≤ n) × (n ≤ most)
number_from least most word n h =
    let found = then_some _ (λ m. if nat_le least m then Some m else None) n h in
    let kept = where_some _ _ n found.2 in
    rw (← (same_Some found.0 n kept.1)) (leb-true least found.0 kept.0, number_within _ word found.1)

pub pos_within : (n : ℕ) → n ≤ 959 → IsWithin 959 (pos n)
pos_within n h = (grind (arith, ints), grind (arith, ints))

neg_within : (n : ℕ) → n ≤ 959 → IsWithin 959 (neg_ℤ (pos n))
neg_within n h = grind arith

signed_within : (sign n : ℕ) (z : ℤ) → n ≤ 959 → signed sign n ≡ Some z → IsWithin 959 z
signed_within sign n z h e = grind (arith, nat_tests, neg_within, pos_within)

digits_within : (most tens ones n : ℕ) → two_digits most tens ones ≡ Some n → n ≤ most
digits_within most tens ones n h = at_most_within _ _ (where_some _ _ n h).1

offset_within : (word : List ℕ) {z : _} → offset_of word ≡ Some z → IsWithin 959 z
offset_within (sign ∷ a ∷ b ∷ colon ∷ c ∷ d ∷ []) {z} h =
    let shown = where_some (colon == 58)
    (two_digits 15 a b >>= λ hours. two_digits 59 c d >>= λ minutes. signed sign (hours * 60 + minutes)) z h in
    let hours = then_some (two_digits 15 a b)
    (λ hours. two_digits 59 c d >>= λ minutes. signed sign (hours * 60 + minutes)) z shown.1 in
    let minutes = then_some (two_digits 59 c d) (λ minutes. signed sign (hours.0 * 60 + minutes)) z hours.2 in
    signed_within sign (hours.0 * 60 + minutes.0) z
    (omega (arith, digits_within 15 a b hours.0 hours.1, digits_within 59 c d minutes.0 minutes.1)) minutes.2
offset_within _ h = absurd (cc)

-- ---- what a line says

-- a line is in its range, and is a rule only where there was room for it
record IsFine (rules : ℕ) (l : Line) : Type 0 where
  range : IsInRange l
  few : length (rules_in_line l) ≤ (if is_rule_line l then 1 else 0)
  room : is_rule_line l ≡ true → rules < most_rules

-- printable octets are text
is_text : (content : List ℕ) → is_printable content ≡ true → IsUtf8 content
is_text content h = IsUtf8-from_ascii content (IsAscii-from_reads content (length content) (omega arith) low)
  where
    low : (k : ℕ) → k < length content → slice_index_or content k 0 < 128
    low k below =
        let x = slice_index_or content k 0 in
        let shown : is_in_range 32 126 x ≡ true =
        AllPass-from_list_all (λ y. is_in_range 32 126 y) content h k 0 below in
        omega (arith, leb-true x 126 (and_parts (nat_le 32 x) (nat_le x 126) shown).1)

module _ (rules : ℕ) where
  -- what is said is fine, if it isn't refused
  abbrev Fine : Result Line InputKind → Type 0
  Fine said = IfOk said (IsFine rules)

  -- no rule
  plain : {l : Line} → is_rule_line l ≡ false → rules_in_line l ≡ [] → IsInRange l → IsFine rules l
  plain {l} other none range = record {
    range = range;
    few = omega (arith, ap (λ xs. length xs) none);
    room = λ e. grind arith;
  }

  -- a line of one value, which may be any
  value_fine : {A : Type 0} (of : A → Line) (r : Result A InputKind) → ((x : A) → IsFine rules (of x)) →
      Fine (said_as of r)
  value_fine of (Err k) fine = tt
  value_fine of (Ok x) fine = fine x

  -- the last word is read, and others in front of it
  read_fine : {A : Type 0} (k : InputKind) (of : A → Line) (o : Option A) →
      ((x : A) → o ≡ Some x → IsFine rules (of x)) → Fine (read_or k of o)
  read_fine k of None fine = tt
  read_fine k of (Some x) fine = fine x refl

  two_fine : {A B : Type 0} (k l : InputKind) (of : A → B → Line) (o : Option A) (p : Option B) →
      ((x : A) (y : B) → IsFine rules (of x y)) → Fine (read_then k o (λ x. read_or l (of x) p))
  two_fine k l of None p fine = tt
  two_fine k l of (Some x) p fine = read_fine l (of x) p (λ y is. fine x y)

  three_fine : {A B C : Type 0} (k l m : InputKind) (of : A → B → C → Line) (o : Option A) (p : Option B)
      (q : Option C) → ((x : A) (y : B) (z : C) → IsFine rules (of x y z)) →
      Fine (read_then k o (λ x. read_then l p (λ y. read_or m (of x y) q)))
  three_fine k l m of None p q fine = tt
  three_fine k l m of (Some x) p q fine = two_fine l m (of x) p q (fine x)

  word_fine : {said : Line} (words : List (List ℕ)) → IsFine rules said → Fine (word_said said words)
  word_fine [] fine = fine
  word_fine (word ∷ words) fine = tt

  -- a number in a range
  number_fine : (of : ℕ → Line) (least most : ℕ) (word : List ℕ) →
      ((n : ℕ) → (least ≤ n) × (n ≤ most) → IsFine rules (of n)) →
      Fine (read_or kind.Number of (number_between least most word))
  number_fine of least most word fine = read_fine _ _ _ (λ n is. fine n (number_from least most word n is))

  between_fine : (of : ℕ → Line) (least most : ℕ) (words : List (List ℕ)) →
      ((n : ℕ) → (least ≤ n) × (n ≤ most) → IsFine rules (of n)) → Fine (said_as of (one_between least most words))
  between_fine of least most (word ∷ []) fine = by (number_between least most word) refl
    where
      by : (o : Option ℕ) → number_between least most word ≡ o → Fine (said_as of (ok_or o kind.Number))
      by None is = tt
      by (Some n) is = fine n (number_from least most word n is)
  between_fine of least most _ fine = tt

  at_fine : (words : List (List ℕ)) → Fine (at_said words)
  at_fine (seconds ∷ []) = read_fine _ _ _ (λ n is. plain refl refl tt)
  at_fine _ = tt

  in_fine : (words : List (List ℕ)) → Fine (in_said words)
  in_fine (from ∷ word ∷ words) =
      two_fine _ _ line.Datagram (address_of from) (octets_of (word ∷ words)) (λ sender octets. plain refl refl tt)
  in_fine _ = tt

  limits_fine : (words : List (List ℕ)) → Fine (limit_said words)
  limits_fine (what ∷ number ∷ []) =
      if_ok _ (bytes_eq what (codes "records")) _ _
      (λ is. number_fine line.LimitRecords 1 1000000 number (λ n within. plain refl refl within.0))
      (λ records. if_ok _ (bytes_eq what (codes "size")) _ _ (λ is. number_fine line.LimitSize 1 1000000000 number
      (λ n within. plain refl refl (within.0, omega (arith, within.1))))
      (λ size. if_ok _ (bytes_eq what (codes "open")) _ _
      (λ is. number_fine line.LimitOpen 1 1000000 number (λ n within. plain refl refl tt)) (λ other. tt)))
  limits_fine _ = tt

  offset_fine : (words : List (List ℕ)) → Fine (offset_said words)
  offset_fine (word ∷ []) = read_fine _ _ _ (λ z is. plain refl refl (offset_within word is))
  offset_fine _ = tt

  ruled_fine : (content : List ℕ) → is_printable content ≡ true → Fine (ruled rules content)
  ruled_fine content shown =
      if_ok _ _ _ _ (λ are.
      let tests = and_parts (nat_lt rules most_rules) (is_some (rule_of content)) are in
      record {
        range = (grind (arith, tests.1), is_text content shown);
        few = grind arith;
        room = λ e. ltb-true rules most_rules tests.0;
      }) (λ other. tt)

  rule_fine : (content : List ℕ) (words : List (List ℕ)) → is_printable content ≡ true →
      Fine (rule_said rules content words)
  rule_fine content (tag ∷ format ∷ stream ∷ []) shown = ruled_fine content shown
  rule_fine content _ shown = tt

  -- the forms of replays, which no feed has: none is a rule

  submit_fine : (words : List (List ℕ)) → Fine (submit_said words)
  submit_fine (node ∷ format ∷ version ∷ word ∷ words) = by (number_of node)
    where
      by : (o : Option ℕ) → Fine (read_then kind.Number o (λ n. read_then kind.Number (number_up_to 255 format)
          (λ f. read_then kind.Hex (version_of version)
          (λ v. read_or kind.Hex (line.Submit n f v) (records_of (word ∷ words))))))
      by None = tt
      by (Some n) =
          three_fine _ _ _ (line.Submit n) (number_up_to 255 format) (version_of version) (records_of (word ∷ words))
          (λ f v rs. plain refl refl tt)
  submit_fine _ = tt

  redirect_fine : (words : List (List ℕ)) → Fine (redirect_said words)
  redirect_fine (gateway ∷ cause ∷ []) =
      two_fine _ _ (λ g c. line.Redirect g c None) (number_of gateway) (number_between 59 63 cause)
      (λ g c. plain refl refl tt)
  redirect_fine (gateway ∷ cause ∷ to ∷ []) =
      three_fine _ _ _ (λ g c t. line.Redirect g c (Some t)) (number_of gateway) (number_between 59 63 cause)
      (number_of to) (λ g c t. plain refl refl tt)
  redirect_fine _ = tt

  arm_fine : (arms : ℕ → ℕ → Mode → Line) (words : List (List ℕ)) →
      ((g c : ℕ) (m : Mode) → IsFine rules (arms g c m)) → Fine (arm_said arms words)
  arm_fine arms (gateway ∷ call ∷ mode ∷ []) fine =
      three_fine _ _ _ arms (number_of gateway) (call_of call) (mode_of mode) fine
  arm_fine arms _ fine = tt

  fail_fine : (fails : ℕ → ℕ → Line) (words : List (List ℕ)) → ((g c : ℕ) → IsFine rules (fails g c)) →
      Fine (fail_said fails words)
  fail_fine fails (gateway ∷ call ∷ []) fine = two_fine _ _ fails (number_of gateway) (call_of call) fine
  fail_fine fails _ fine = tt

  said_fine : (of : ScriptKind) (form : Keyword) (content : List ℕ) (words : List (List ℕ)) →
      is_printable content ≡ true → Fine (said_by of form rules content words)
  said_fine of keyword.At content words shown = at_fine words
  said_fine of keyword.In content words shown = in_fine words
  said_fine of keyword.End content words shown = word_fine words (plain refl refl tt)
  said_fine of keyword.Reserve content words shown =
      between_fine _ 100 268435456 words (λ n within. plain refl refl within)
  said_fine of keyword.Limit content words shown = limits_fine words
  said_fine of keyword.Offset content words shown = offset_fine words
  said_fine of keyword.Profile content words shown = between_fine _ 1 2 words (λ n within. plain refl refl within)
  said_fine of keyword.Rule content words shown = rule_fine content words shown
  said_fine of keyword.Gateways content words shown =
      between_fine _ 1 8 words (λ n within. plain refl refl (within.0, omega (arith, within.1)))
  said_fine of keyword.Submit content words shown = submit_fine words
  said_fine of keyword.Flow content words shown = word_fine words (plain refl refl tt)
  said_fine of keyword.Redirect content words shown = redirect_fine words
  said_fine of keyword.Arm content words shown = arm_fine _ words (λ g c m. plain refl refl tt)
  said_fine of keyword.Fail content words shown = fail_fine _ words (λ g c. plain refl refl tt)
  said_fine of keyword.ArmShelf content words shown = arm_fine _ words (λ g c m. plain refl refl tt)
  said_fine of keyword.FailShelf content words shown = fail_fine _ words (λ g c. plain refl refl tt)
  said_fine of keyword.Settle content words shown = word_fine words (plain refl refl tt)
  said_fine of _ content words shown = value_fine _ _ (λ n. plain refl refl tt)

-- ---- one line

keyed_fine : (before : Progress) (form : Result Keyword InputKind) (content : List ℕ) (words : List (List ℕ)) →
    is_printable content ≡ true → Fine before.rules (keyed before form content words)
keyed_fine before (Err k) content words shown = tt
keyed_fine before (Ok form) content words shown =
    if_ok _ before.has_end _ _ (λ is. tt) (λ goes. if_ok _ (is_setting form && before.has_action) _ _ (λ is. tt)
    (λ fits. said_fine before.rules before.kind form content words shown))

worded_fine : (before : Progress) (content : List ℕ) (words : List (List ℕ)) → is_printable content ≡ true →
    Fine before.rules (worded before content words)
worded_fine before content [] shown = tt
worded_fine before content (word ∷ words) shown = keyed_fine before (keyword_of before.kind word) content words shown

contented_fine : (before : Progress) (content : List ℕ) → Fine before.rules (contented before content)
contented_fine before content =
    if_ok _ (is_blank content) _ _ (λ blank. plain before.rules refl refl tt)
    (λ other. if_ok _ (is_printable content) _ _ (λ shown. worded_fine before content (words_of content) shown)
    (λ hidden. tt))

reading_fine : (before : Progress) (raw : RawLine) →
    IfOk (reading_of before raw) (λ l. IsFine before.rules l × (before.size + line_size raw ≤ most_text))
reading_fine before raw =
    let size = before.size + line_size raw in
    if_ok _ (nat_lt most_text size) _ _ (λ long. tt)
    (λ short. IfOk-weaker (contented before (line_content raw)) (IsFine before.rules) _
    (λ l fine. (fine, ltb-false most_text size short)) (contented_fine before (line_content raw)))

-- ---- all lines

-- a line in front of the others was read
onward_fine : (P : List Line → Type 0) (Q : Line → Type 0) (place : ℕ) (said : Result Line InputKind)
    (later : Line → Result (List Line) Refusal) → IfOk said Q → ((l : Line) → Q l → IfOk (later l) P) →
    IfOk (onward place said later) P
onward_fine P Q place (Err k) later fine goes = tt
onward_fine P Q place (Ok l) later fine goes = goes l fine

-- what holds of lines that were read
record AreFine (lines : List Line) : Type 0 where
  each : All IsInRange lines
  rules : length (flat_map rules_in_line lines) ≤ count_by is_rule_line lines
  room : count_by is_rule_line lines ≤ most_rules

no_lines : AreFine []
no_lines = record { each = λ k d below. absurd (none k below); rules = omega arith; room = omega arith }
  where
    none : (k : ℕ) → k < 0 → ⊥
    none k below = omega arith

count-more : (before : List Line) (l : Line) → count_by is_rule_line (before ++ l ∷ []) ≡ count_by is_rule_line before + (if is_rule_line l then 1 else 0)
count-more before l =
    let both = sum_by-append (λ x. if is_rule_line x then 1 else 0) before (l ∷ []) in
    omega (arith, sum_by-cons (λ x. if is_rule_line x then 1 else 0) l [])

rules-more : (before : List Line) (l : Line) → length (flat_map rules_in_line (before ++ l ∷ [])) ≡ length (flat_map rules_in_line before) + length (rules_in_line l)
rules-more before l =
    let both = ap (λ rules. length rules) (flat_map-append rules_in_line before (l ∷ [])) in
    let parts = length-append (flat_map rules_in_line before) (rules_in_line l ++ []) in
    omega (arith, length-append (rules_in_line l) [])

room_after : {b : _} (n : ℕ) → n ≤ most_rules → (b ≡ true → n < most_rules) → n + (if b then 1 else 0) ≤ most_rules
room_after n h room = grind arith

one_more : {before l : _} → AreFine before → IsFine (count_by is_rule_line before) l → AreFine (before ++ l ∷ [])
one_more {before} {l} held fine = record {
  each = All-append IsInRange before (l ∷ []) held.each (All-cons IsInRange l [] fine.range no_lines.each);
  rules = omega (arith, rules-more before l, count-more before l);
  room = omega (arith, count-more before l, room_after (count_by is_rule_line before) held.room fine.room);
}

-- what holds of all lines, where these were read before those that are left
record AreAllFine (size : ℕ) (before : List Line) (raws : List RawLine) (lines : List Line) : Type 0 where
  fine : AreFine lines
  count : length lines ≡ length before + length raws
  short : size + size_of raws ≤ most_text

after_fine : (of : ScriptKind) (size : ℕ) (before : List Line) (raws : List RawLine) → AreFine before →
    size ≤ most_text → IfOk (script_after of size before raws) (AreAllFine size before raws)
after_fine of size before [] held within =
    if_ok (AreAllFine size before []) (progress_of of size before).has_end (Ok before) _
    (λ ends. record { fine = held; count = omega arith; short = omega (arith, within) }) (λ goes. tt)
after_fine of size before (raw ∷ raws) held within =
    onward_fine (AreAllFine size before (raw ∷ raws))
    (λ l. IsFine (count_by is_rule_line before) l × (size + line_size raw ≤ most_text)) _
    (reading_of (progress_of of size before) raw) (λ l. script_after of (size + line_size raw) (before ++ l ∷ []) raws)
    (reading_fine (progress_of of size before) raw) (λ l read.
    IfOk-weaker _ (AreAllFine (size + line_size raw) (before ++ l ∷ []) raws) _ (λ lines later. record {
      fine = later.fine;
      count = omega (arith, later.count, length-append before (l ∷ []));
      short = omega (arith, later.short, sum_by-cons line_size raw raws);
    }) (after_fine of (size + line_size raw) (before ++ l ∷ []) raws (one_more held read.0) read.1))

all_fine : (of : ScriptKind) (text : List ℕ) {lines : _} → script_in of text ≡ Ok lines →
    AreAllFine 0 [] (raw_lines text) lines
all_fine of text h =
    IfOk-at_ok (AreAllFine 0 [] (raw_lines text)) h (after_fine of 0 [] (raw_lines text) no_lines (omega arith))

-- ---- the lines of a text

size_of-onto_line : (x : ℕ) (lines : List RawLine) → size_of (onto_line x lines) ≡ size_of lines + 1
size_of-onto_line x [] = omega (arith, sum_by-cons line_size (record { octets = x ∷ []; ended = false }) [])
size_of-onto_line x (l ∷ ls) = omega (arith, sum_by-cons line_size l ls, sum_by-cons line_size (record { octets = x ∷ l.octets; ended = l.ended }) ls)

size_of-raw_lines : (text : List ℕ) → size_of (raw_lines text) ≡ length text
size_of-raw_lines [] = refl
size_of-raw_lines (x ∷ xs) =
    let rest = size_of-raw_lines xs in
    cond_both (x == 10) (record { octets = []; ended = true } ∷ raw_lines xs) (onto_line x (raw_lines xs))
    (λ lines. size_of lines ≡ length (x ∷ xs))
    (λ ends. omega (arith, sum_by-cons line_size (record { octets = []; ended = true }) (raw_lines xs)))
    (λ more. omega (arith, size_of-onto_line x (raw_lines xs)))

length-onto_line : (x : ℕ) (lines : List RawLine) → length (onto_line x lines) ≤ suc (length lines)
length-onto_line x lines = grind arith

length-raw_lines : (text : List ℕ) → length (raw_lines text) ≤ length text
length-raw_lines [] = omega arith
length-raw_lines (x ∷ xs) = grind (arith, length-onto_line, length-raw_lines xs)

-- the text of a script has no more octets than it may have
pub script_within : (of : ScriptKind) (text : List ℕ) (lines : List Line) → script_in of text ≡ Ok lines → length text ≤ most_text
script_within of text lines h = omega (arith, (all_fine of text h).short, size_of-raw_lines text)

pub lines_in_range : (of : ScriptKind) (text : List ℕ) {lines : _} → script_in of text ≡ Ok lines → AreInRange lines
lines_in_range of text {lines} h =
    let all = all_fine of text h in
    record {
      each = all.fine.each;
      few = omega (arith, all.count, length-raw_lines text, script_within of text lines h);
      rules = omega (arith, all.fine.rules, all.fine.room);
    }

-- so are those of each script
pub back_in_range : (script : ScriptValue) → ReadsBack script.kind script.lines → AreInRange script.lines
back_in_range script h = lines_in_range script.kind (printed script.kind script.lines) h

-- so that there are no more of them than a text may have octets
pub script_few : (of : ScriptKind) (text : List ℕ) (lines : List Line) → script_in of text ≡ Ok lines → length lines ≤ most_text
script_few of text lines h = (lines_in_range of text h).few
