-- Lemmas on one line of a script: its text is no longer than the line that said it, and says it again; and
-- settings stand before all other lines.
use Rattle.std.proofs.Common.{◌≡◌, ℕ, ◌+◌, ◌≤◌, Bool, true, false, ◌&&◌, if◌then◌else◌, List, [], ◌∷◌, ◌++◌, length, count_by, Option, Some, None, Result, Ok, Err, refl, ap, sym, ◌∙◌, subst, arith, length-append, inl, inr}
use Rattle.world_script.proofs.Names.{and-true, bytes_eq, cases_Bool, contented, feed_form, form_in, gateway_form, InputKind, is_action_line, is_blank, is_end_line, is_later_in, is_printable, is_rule_line, is_setting, is_setting_line, keyed, Keyword, keyword_of, known, Line, line_text, list_any, network_form, onward, option_or, Progress, progress_of, Refusal, said_by, same_Some, ScriptKind, shared_form, worded, words_of, words_text}
use Rattle.world_script.specs.declared.fault.InputKind.TheVariants as kind
use Rattle.world_script.specs.declared.keyword.Keyword.TheVariants as keyword
use Rattle.world_script.specs.declared.kind.ScriptKind.TheVariants as script
use Rattle.world_script.specs.declared.line.Line.TheVariants as line
use Rattle.world_script.proofs.AddressLemmas.{same_bytes}
use Rattle.world_script.proofs.FormLemmas.{is_rule_form, spoken, name}
use Rattle.world_script.proofs.WordLemmas.{AreWords, IsWord, are_words, joined_printable, length_words, span, words_of_joined, words_span}
use Rattle.world_script.proofs.ValueLemmas.{ok_if, if_cases, passed, where_ok}

-- The first word is that of the form.

-- the first of these forms whose name is this word
abbrev first_of : List Keyword → List ℕ → Option Keyword
first_of [] word = None
first_of (form ∷ later) word = if bytes_eq word (name form) then Some form else first_of later word

named : (word : List ℕ) (form of : Keyword) (later : Option Keyword) (b : Bool) → bytes_eq word (name of) ≡ b →
    (later ≡ Some form → word ≡ name form) → (if b then Some of else later) ≡ Some form → word ≡ name form
named word form of later true e otherwise h = same_bytes word (name of) e ∙ ap name (same_Some of form h)
named word form of later false e otherwise h = otherwise h

first_named : (forms : List Keyword) (word : List ℕ) (form : Keyword) → first_of forms word ≡ Some form → word ≡ name form
first_named [] word form h = let no : ⊥ = cc in absurd no
first_named (of ∷ later) word form h = search (arith, named, name, (first_named later word form))

either_named : (word : List ℕ) (form : Keyword) (a b : Option Keyword) → (a ≡ Some form → word ≡ name form) →
    (b ≡ Some form → word ≡ name form) →
    option_or a b ≡ Some form → word ≡ name form
either_named word form a b p q h = grind arith

abbrev shared : List Keyword
shared =
    keyword.At ∷ keyword.Mark ∷ keyword.Close ∷ keyword.End ∷ keyword.Reserve ∷ keyword.Limit ∷ keyword.Offset
    ∷ keyword.Profile ∷ keyword.Rule ∷ []

abbrev of_network : List Keyword
of_network =
    keyword.Gateways ∷ keyword.Nodes ∷ keyword.Submit ∷ keyword.Tick ∷ keyword.Halt ∷ keyword.Start ∷ keyword.Deliver
    ∷ keyword.Flow ∷ keyword.Mix ∷ []

abbrev of_gateways : List Keyword
of_gateways =
    keyword.Commit ∷ keyword.Write ∷ keyword.Redirect ∷ keyword.Stop ∷ keyword.Open ∷ keyword.Arm ∷ keyword.Fail
    ∷ keyword.ArmShelf ∷ keyword.FailShelf ∷ keyword.Settle ∷ []

form_named : (of : ScriptKind) (word : List ℕ) (form : Keyword) → form_in of word ≡ Some form → word ≡ name form
form_named script.Feed word form h =
    either_named word form (shared_form word) (feed_form word) (first_named shared word form)
    (first_named (keyword.In ∷ []) word form) h
form_named script.Replay word form h =
    either_named word form (shared_form word) (option_or (network_form word) (gateway_form word))
    (first_named shared word form)
    (either_named word form (network_form word) (gateway_form word) (first_named of_network word form)
    (first_named of_gateways word form)) h
form_named script.Serve word form h =
    first_named (keyword.End ∷ keyword.Limit ∷ keyword.Offset ∷ keyword.Profile ∷ keyword.Rule ∷ []) word form h

known_form : (o : Option Keyword) (form : Keyword) → known o ≡ Ok form → o ≡ Some form
known_form o form h = grind arith

built : (later : Bool) (o : Option Keyword) (form : Keyword) →
    (if later then Err kind.NotBuilt else known o) ≡ Ok form → o ≡ Some form
built true o form h = let no : ⊥ = cc in absurd no
built false o form h = known_form o form h

keyword_named : (of : ScriptKind) (word : List ℕ) (form : Keyword) → keyword_of of word ≡ Ok form → word ≡ name form
keyword_named of word form h = form_named of word form (built (is_later_in of word) (form_in of word) form h)

-- No form's name is a comment.
pub names_show : (form : Keyword) (rest : List ℕ) → is_blank (name form ++ rest) ≡ false
names_show form rest = grind arith

-- After these lines the line's text says it.
pub record IsSayable (of : ScriptKind) (before : List Line) (said : Line) : Type 0 where
  pub plain : is_printable (line_text of said) ≡ true
  pub again : (size : ℕ) → contented (progress_of of size before) (line_text of said) ≡ Ok said

-- Its text, where a line of these octets said it, is no longer; and a setting has no other line before it.
pub record IsPrintedLine (of : ScriptKind) (before : List Line) (content : List ℕ) (said : Line) : Type 0 where
  pub sayable : IsSayable of before said
  pub short : length (line_text of said) ≤ length content
  pub late : list_any is_action_line before ≡ true → is_setting_line said ≡ false

-- a line of a known form
pub again_by_words : (p : Progress) (form : Keyword) (said : Line) (text word : List ℕ) (words : List (List ℕ)) →
    p.has_end ≡ false → (is_setting form && p.has_action) ≡ false → is_blank text ≡ false → is_printable text ≡ true →
    words_of text ≡ word ∷ words → keyword_of p.kind word ≡ Ok form → said_by p.kind form p.rules text words ≡ Ok said →
    contented p text ≡ Ok said
again_by_words p form said text word words going early shows plain split known says = search arith

pub onward_ok : (place : ℕ) (r : Result Line InputKind) (later : Line → Result (List Line) Refusal) (lines : List Line) →
    onward place r later ≡ Ok lines → (said : Line) × (r ≡ Ok said) × (later said ≡ Ok lines)
onward_ok place r later lines h = grind arith

record IsRead (of : ScriptKind) (before : List Line) (content : List ℕ) (said : Line) : Type 0 where
  form : Keyword
  word : List ℕ
  words : List (List ℕ)
  split : words_of content ≡ word ∷ words
  known : keyword_of of word ≡ Ok form
  going : list_any is_end_line before ≡ false
  early : (is_setting form && list_any is_action_line before) ≡ false
  says : said_by of form (count_by is_rule_line before) content words ≡ Ok said

keyed_case : (of : ScriptKind) (size : ℕ) (before : List Line) (content word : List ℕ) (words : List (List ℕ))
    (said : Line) (r : Result Keyword InputKind) →
    words_of content ≡ word ∷ words → keyword_of of word ≡ r →
    keyed (progress_of of size before) r content words ≡ Ok said → IsRead of before content said
keyed_case of size before content word words said (Err e) split known h = let no : ⊥ = cc in absurd no
keyed_case of size before content word words said (Ok form) split known h =
    let p = passed (list_any is_end_line before) kind.After _ said h in
    let q = passed (is_setting form && list_any is_action_line before) kind.Late _ said p.1 in
    record { form = form; word = word; words = words; split = split; known = known; going = p.0; early = q.0; says = q.1 }

worded_case : (of : ScriptKind) (size : ℕ) (before : List Line) (content : List ℕ) (words : List (List ℕ))
    (said : Line) → words_of content ≡ words →
    worded (progress_of of size before) content words ≡ Ok said → IsRead of before content said
worded_case of size before content [] said split h = let no : ⊥ = cc in absurd no
worded_case of size before content (word ∷ words) said split h =
    keyed_case of size before content word words said (keyword_of of word) split refl h

-- a rule stands as it stood, and is a setting
rule_is : (of : ScriptKind) (form : Keyword) (rules : ℕ) (content : List ℕ) (words : List (List ℕ)) (said : Line) →
    is_rule_form form ≡ true →
    said_by of form rules content words ≡ Ok said → (line.Rule content ≡ said) × (is_setting form ≡ true)
rule_is of form rules content words said is h = grind (arith, ok_if)

rule_printed : (of : ScriptKind) (before : List Line) (content : List ℕ) (said : Line) → is_printable content ≡ true →
    ((size : ℕ) → contented (progress_of of size before) content ≡ Ok said) → line.Rule content ≡ said →
    list_any is_action_line before ≡ false → IsPrintedLine of before content said
rule_printed of before content said plain h same none =
    let text : line_text of said ≡ content = ap (λ (l : Line). line_text of l) (sym same) in
    record {
      sayable = record { plain = rw text plain; again = λ size. rw text (h size) };
      short = rw text (omega arith);
      late = λ acted. let no : ⊥ = cc in absurd no;
    }

-- any other line is words
words_printed : (of : ScriptKind) (before : List Line) (content : List ℕ) (said : Line)
    (r : IsRead of before content said) → is_printable content ≡ true →
    is_rule_form r.form ≡ false → IsPrintedLine of before content said
words_printed of before content said r plain other =
    let are = subst AreWords r.split (are_words content plain) in
    let first = keyword_named of r.word r.form r.known in
    let s = spoken of r.form (count_by is_rule_line before) content r.words said other are.1 r.says in
    let word_of : IsWord (name r.form) = subst IsWord first are.0 in
    let shows = names_show r.form (words_text s.spoken) in
    let plain_text = joined_printable (name r.form) s.spoken word_of s.are in
    let again : (size : ℕ) → contented (progress_of of size before) (name r.form ++ words_text s.spoken) ≡ Ok said =
    search (arith, name, words_of_joined) in
    let long : length (line_text of said) ≡ length (name r.form) + span s.spoken =
    ap length s.text ∙ omega (arith, length-append (name r.form) (words_text s.spoken), length_words s.spoken) in
    record {
      sayable = record { plain = rw s.text plain_text; again = λ size. rw s.text (again size) };
      short = omega (arith, long, ap length first, s.short, words_span content, ap span r.split);
      late = λ acted. s.sets ∙ sym (and-true (is_setting r.form)) ∙ (rw acted at r.early);
    }

-- a line that was read
pub line_printed : (of : ScriptKind) (size : ℕ) (before : List Line) (content : List ℕ) (said : Line) →
    contented (progress_of of size before) content ≡ Ok said →
    IsPrintedLine of before content said
line_printed of size before content said h =
    elim (if_cases (is_blank content) (Ok line.Blank) _ (Ok said) h) [
      | inl p ↦ search arith
      | inr p ↦
          let q = where_ok (is_printable content) _ kind.Word said p.1 in
          let r = worded_case of size before content (words_of content) said refl q.1 in
          elim (cases_Bool (is_rule_form r.form)) [
            | inl rule ↦
                let is = rule_is of r.form (count_by is_rule_line before) content r.words said rule r.says in
                rule_printed of before content said q.0
                (λ size. again_by_words (progress_of of size before) r.form said content r.word r.words r.going r.early p.0
                q.0 r.split r.known r.says)
                is.0 (rw is.1 at r.early)
            | inr other ↦ words_printed of before content said r q.0 other
          ]
    ]
