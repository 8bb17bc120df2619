-- Lemmas on lines of every form: what a line says is printed as words that say it, and that are no longer.
use Rattle.std.proofs.Common.{◌≡◌, ℕ, ◌^◌, ◌<◌, ◌≤◌, true, List, [], ◌∷◌, ◌++◌, Option, Some, None, Result, Ok, refl, ap, sym, ◌∙◌, arith, append_assoc, codes, ℤ, append-nil, inl, inr, Bool, false, map}
use Rattle.world_script.proofs.Names.{address_of, arm_said, armed_text, bytes_eq, call_of, decimal, encode_upper, fail_said, flat_map-append, gateway_text, in_said, InputKind, is_setting, is_setting_line, Keyword, last_moment, limit_said, Line, line_text, Mode, mode_of, mode_text, number_between, number_of, number_up_to, octets_of, offset_of, offset_said, offset_text, ok_or, one_between, one_gateway, one_number, packet_said, read_or, read_then, records_of, redirect_said, said_as, said_by, ScriptKind, submit_said, version_of, version_text, word_said, words_text}
use Rattle.world_script.specs.declared.fault.InputKind.TheVariants as kind
use Rattle.world_script.specs.declared.keyword.Keyword.TheVariants as keyword
use Rattle.world_script.specs.declared.kind.ScriptKind.TheVariants as script
use Rattle.world_script.specs.declared.line.Line.TheVariants as line
use Rattle.world_script.proofs.AddressLemmas.{offset_printed, same_bytes, address_printed, mode_printed}
use Rattle.world_script.proofs.ValueLemmas.{any_printed, between_printed, number_printed, if_cases, where_ok}
use Rattle.world_script.proofs.WordLemmas.{AreWords, span}
use Rattle.world_script.proofs.HexadecimalLemmas.{datagram_printed, records_printed, version_printed}

-- the first word of lines of this form
abbrev pub name : Keyword → List ℕ
name keyword.At = codes "at"
name keyword.In = codes "in"
name keyword.Mark = codes "mark"
name keyword.Close = codes "close"
name keyword.End = codes "end"
name keyword.Reserve = codes "reserve"
name keyword.Limit = codes "limit"
name keyword.Offset = codes "offset"
name keyword.Profile = codes "profile"
name keyword.Rule = codes "rule"
name keyword.Gateways = codes "gateways"
name keyword.Nodes = codes "nodes"
name keyword.Submit = codes "submit"
name keyword.Tick = codes "tick"
name keyword.Halt = codes "halt"
name keyword.Start = codes "start"
name keyword.Deliver = codes "deliver"
name keyword.Flow = codes "flow"
name keyword.Mix = codes "mix"
name keyword.Commit = codes "commit"
name keyword.Write = codes "write"
name keyword.Redirect = codes "redirect"
name keyword.Stop = codes "stop"
name keyword.Open = codes "open"
name keyword.Arm = codes "arm"
name keyword.Fail = codes "fail"
name keyword.ArmShelf = codes "armshelf"
name keyword.FailShelf = codes "failshelf"
name keyword.Settle = codes "settle"

-- A line of this form is printed as words after the first that say it again, and that are no longer than these.
pub record IsSpoken (of : ScriptKind) (form : Keyword) (words : List (List ℕ)) (said : Line) : Type 0 where
  pub spoken : List (List ℕ)
  pub text : line_text of said ≡ name form ++ words_text spoken
  pub sets : is_setting_line said ≡ is_setting form
  pub are : AreWords spoken
  pub short : span spoken ≤ span words
  pub again : (rules : ℕ) (content : List ℕ) → said_by of form rules content spoken ≡ Ok said

-- a line is printed as these words, and is a setting where lines of the form are
abbrev Shows : ScriptKind → Keyword → List (List ℕ) → Line → Type 0
Shows of form words said =
    (line_text of said ≡ name form ++ words_text words) × (is_setting_line said ≡ is_setting form)

shown : (of : ScriptKind) (form : Keyword) (words spoken : List (List ℕ)) (is said : Line) → words ≡ spoken → is ≡ said →
    Shows of form spoken is → Shows of form words said
shown of form words spoken is said e f shows = rw (e, sym f) shows

-- the same words
same : {of : ScriptKind} {form : Keyword} {words : List (List ℕ)} {said : Line} → AreWords words → Shows of form words said →
    ((rules : ℕ) (content : List ℕ) → said_by of form rules content words ≡ Ok said) → IsSpoken of form words said
same {words = words} are shows again =
    record { spoken = words; text = shows.0; sets = shows.1; are = are; short = omega arith; again = again }

-- words in front of others
pub more_words : (first : List ℕ) (words more : List (List ℕ)) →
    (first ++ words_text words) ++ words_text more ≡ first ++ words_text (words ++ more)
more_words first words more = search (arith, append_assoc, flat_map-append)

-- Tests that are passed.

pub ok_same : {A E : Type 0} (a b : A) → ◌≡◌ {A = Result A E} (Ok a) (Ok b) → a ≡ b
ok_same a b e = cc

pub then_read : {A : Type 0} (why : InputKind) (o : Option A) (later : A → Result Line InputKind) (said : Line) →
    read_then why o later ≡ Ok said →
    (x : A) × (o ≡ Some x) × (later x ≡ Ok said)
then_read why o later said h = grind arith

pub or_read : {A : Type 0} (why : InputKind) (of : A → Line) (o : Option A) (said : Line) → read_or why of o ≡ Ok said →
    (x : A) × (o ≡ Some x) × (of x ≡ said)
or_read why of o said h = grind (arith, ok_same)

as_read : {A : Type 0} (of : A → Line) (o : Option A) (why : InputKind) (said : Line) → said_as of (ok_or o why) ≡ Ok said →
    (x : A) × (o ≡ Some x) × (of x ≡ said)
as_read of o why said h = grind (arith, ok_same)

-- Lines of one word.

one_word : {of : ScriptKind} {form : Keyword} (is : Line) → Shows of form [] is →
    ((rules : ℕ) (content : List ℕ) → said_by of form rules content [] ≡ Ok is) →
    (words : List (List ℕ)) (said : Line) → word_said is words ≡ Ok said → IsSpoken of form words said
one_word is shows again words said h = grind (arith, ok_same, same)

-- Lines of one number.

-- a word that is read as a number is that number
numbered : {of : ScriptKind} {form : Keyword} {word : List ℕ} {said : Line} {read : Option ℕ} (make : ℕ → Line) →
    ((n : ℕ) → read ≡ Some n → word ≡ decimal n) → ((m : ℕ) → Shows of form (decimal m ∷ []) (make m)) →
    AreWords (word ∷ []) → ((n : ℕ) × (read ≡ Some n) × (make n ≡ said)) →
    ((rules : ℕ) (content : List ℕ) → said_by of form rules content (word ∷ []) ≡ Ok said) →
    IsSpoken of form (word ∷ []) said
numbered make is shows are p again = same are (rw (is p.0 p.1, sym p.2) (shows p.0)) again

any_number : {of : ScriptKind} {form : Keyword} {word : List ℕ} {said : Line} (make : ℕ → Line) →
    ((m : ℕ) → Shows of form (decimal m ∷ []) (make m)) →
    AreWords (word ∷ []) → said_as make (one_number (word ∷ [])) ≡ Ok said →
    ((rules : ℕ) (content : List ℕ) → said_by of form rules content (word ∷ []) ≡ Ok said) →
    IsSpoken of form (word ∷ []) said
any_number {word = word} {said = said} make shows are h again =
    numbered make (any_printed word) shows are (as_read make (number_of word) kind.Number said h) again

ranged : {of : ScriptKind} {form : Keyword} {word : List ℕ} {said : Line} (make : ℕ → Line) (least most : ℕ) →
    most < 2 ^ 64 → ((m : ℕ) → Shows of form (decimal m ∷ []) (make m)) →
    AreWords (word ∷ []) → said_as make (one_between least most (word ∷ [])) ≡ Ok said →
    ((rules : ℕ) (content : List ℕ) → said_by of form rules content (word ∷ []) ≡ Ok said) →
    IsSpoken of form (word ∷ []) said
ranged {word = word} {said = said} make least most small shows are h again =
    numbered make (λ n. between_printed least most word n small) shows are
    (as_read make (number_between least most word) kind.Number said h) again

-- a line that names the gateway in a replay
gateway_spoken : (of : ScriptKind) (form : Keyword) (make : ℕ → Line) →
    ((k : ScriptKind) (m : ℕ) → (line_text k (make m) ≡ gateway_text k (name form) m)
    × (is_setting_line (make m) ≡ is_setting form)) →
    ((k : ScriptKind) (rules : ℕ) (content : List ℕ) (ws : List (List ℕ)) →
    said_by k form rules content ws ≡ said_as make (one_gateway k ws)) →
    (words : List (List ℕ)) (said : Line) → AreWords words →
    said_as make (one_gateway of words) ≡ Ok said → IsSpoken of form words said
gateway_spoken script.Replay form make shows reads (word ∷ []) said are h =
    any_number make (shows script.Replay) are h (λ rules content. reads script.Replay rules content (word ∷ []) ∙ h)
gateway_spoken script.Feed form make shows reads [] said are h =
    let one = shows script.Feed 1 in
    rw (sym (ok_same (make 1) said h)) (same tt (one.0 ∙ sym (append-nil (name form)), one.1)
    (λ rules content. reads script.Feed rules content []))
gateway_spoken script.Serve form make shows reads [] said are h =
    let one = shows script.Serve 1 in
    rw (sym (ok_same (make 1) said h)) (same tt (one.0 ∙ sym (append-nil (name form)), one.1)
    (λ rules content. reads script.Serve rules content []))
gateway_spoken _ form make shows reads _ said are h = let no : ⊥ = cc in absurd no

-- Limits.

limit_spoken_as : (of : ScriptKind) (make : ℕ → Line) (named what number : List ℕ) (least most : ℕ) (said : Line) →
    most < 2 ^ 64 → ((m : ℕ) → Shows of keyword.Limit (named ∷ decimal m ∷ []) (make m)) →
    AreWords (what ∷ number ∷ []) → bytes_eq what named ≡ true →
    read_or kind.Number make (number_between least most number) ≡ Ok said →
    ((rules : ℕ) (content : List ℕ) → said_by of keyword.Limit rules content (what ∷ number ∷ []) ≡ Ok said) →
    IsSpoken of keyword.Limit (what ∷ number ∷ []) said
limit_spoken_as of make named what number least most said small shows are e h again =
    let p = or_read kind.Number make (number_between least most number) said h in
    let f = between_printed least most number p.0 small p.1 in
    same are (shown of keyword.Limit (what ∷ number ∷ []) (named ∷ decimal p.0 ∷ []) (make p.0) said
    (λ i. same_bytes what named e i ∷ f i ∷ []) p.2 (shows p.0)) again

pub limit_spoken : (of : ScriptKind) (words : List (List ℕ)) (said : Line) → AreWords words → limit_said words ≡ Ok said →
    IsSpoken of keyword.Limit words said
limit_spoken of (what ∷ number ∷ []) said are h =
    elim (if_cases (bytes_eq what (codes "records")) _ _ _ h) [
      | inl p ↦
          limit_spoken_as of line.LimitRecords (codes "records") what number 1 1000000 said (omega arith) (λ m. (refl, refl)) are
          p.0 p.1 (λ rules content. h)
      | inr p ↦ elim (if_cases (bytes_eq what (codes "size")) _ _ _ p.1) [
        | inl q ↦
            limit_spoken_as of line.LimitSize (codes "size") what number 1 1000000000 said (omega arith) (λ m. (refl, refl)) are
            q.0 q.1 (λ rules content. h)
        | inr q ↦
            let r = where_ok (bytes_eq what (codes "open")) _ kind.Number said q.1 in
            limit_spoken_as of line.LimitOpen (codes "open") what number 1 1000000 said (omega arith) (λ m. (refl, refl)) are
            r.0 r.1 (λ rules content. h)
      ]
    ]
limit_spoken of _ said are h = let no : ⊥ = cc in absurd no

-- Offsets.

offset_spoken : (of : ScriptKind) (words : List (List ℕ)) (said : Line) → AreWords words →
    offset_said words ≡ Ok said → IsSpoken of keyword.Offset words said
offset_spoken of (word ∷ []) said are h =
    let p = or_read kind.Number line.Offset (offset_of word) said h in
    let o = offset_printed word p.0 p.1 in
    record {
      spoken = offset_text p.0 ∷ [];
      text = ap (λ (l : Line). line_text of l) (sym p.2);
      sets = ap (λ (l : Line). is_setting_line l) (sym p.2);
      are = (o.is, tt);
      short = omega (arith, o.long);
      again = λ rules content. ap (λ (z : Option ℤ). read_or kind.Number line.Offset z) o.again ∙ ap Ok p.2;
    }
offset_spoken of _ said are h = let no : ⊥ = cc in absurd no

-- Lines of several numbers.

call_limit : 18446744073709551615 < 2 ^ 64
call_limit = omega arith

-- a failure, of an area or of a shelf
fail_spoken : (of : ScriptKind) (form : Keyword) (fails : ℕ → ℕ → Line) →
    ((g c : ℕ) → Shows of form (decimal g ∷ decimal c ∷ []) (fails g c)) →
    (words : List (List ℕ)) (said : Line) → AreWords words → fail_said fails words ≡ Ok said →
    ((rules : ℕ) (content : List ℕ) → said_by of form rules content words ≡ Ok said) →
    IsSpoken of form words said
fail_spoken of form fails shows (gateway ∷ call ∷ []) said are h again =
    let p = then_read kind.Number (number_of gateway) _ said h in
    let q = or_read kind.Number (fails p.0) (call_of call) said p.2 in
    let e = any_printed gateway p.0 p.1 in
    let f = between_printed 1 18446744073709551615 call q.0 call_limit q.1 in
    same are (shown of form (gateway ∷ call ∷ []) (decimal p.0 ∷ decimal q.0 ∷ []) (fails p.0 q.0) said
    (λ i. e i ∷ f i ∷ []) q.2 (shows p.0 q.0)) again
fail_spoken of form fails shows _ said are h again = let no : ⊥ = cc in absurd no

-- a stop, of an area or of a shelf
arm_spoken : (of : ScriptKind) (form : Keyword) (arms : ℕ → ℕ → Mode → Line) →
    ((g c : ℕ) (m : Mode) → (line_text of (arms g c m) ≡ armed_text (name form) g c m)
    × (is_setting_line (arms g c m) ≡ is_setting form)) →
    (words : List (List ℕ)) (said : Line) → AreWords words → arm_said arms words ≡ Ok said →
    ((rules : ℕ) (content : List ℕ) → said_by of form rules content words ≡ Ok said) →
    IsSpoken of form words said
arm_spoken of form arms shows (gateway ∷ call ∷ word ∷ []) said are h again =
    let p = then_read kind.Number (number_of gateway) _ said h in
    let q = then_read kind.Number (call_of call) _ said p.2 in
    let r = or_read kind.Number (arms p.0 q.0) (mode_of word) said q.2 in
    let e = any_printed gateway p.0 p.1 in
    let f = between_printed 1 18446744073709551615 call q.0 call_limit q.1 in
    let g = mode_printed word r.0 r.1 in
    let is = shows p.0 q.0 r.0 in
    same are (shown of form (gateway ∷ call ∷ word ∷ []) (decimal p.0 ∷ decimal q.0 ∷ mode_text r.0 ∷ []) (arms p.0 q.0 r.0)
    said (λ i. e i ∷ f i ∷ g i ∷ []) r.2
    (is.0 ∙ more_words (name form) (decimal p.0 ∷ decimal q.0 ∷ []) (mode_text r.0 ∷ []), is.1)) again
arm_spoken of form arms shows _ said are h again = let no : ⊥ = cc in absurd no

redirect_spoken : (of : ScriptKind) (words : List (List ℕ)) (said : Line) → AreWords words →
    redirect_said words ≡ Ok said → IsSpoken of keyword.Redirect words said
redirect_spoken of (gateway ∷ cause ∷ []) said are h =
    let p = then_read kind.Number (number_of gateway) _ said h in
    let q = or_read kind.Number (λ cause. line.Redirect p.0 cause None) (number_between 59 63 cause) said p.2 in
    let e = any_printed gateway p.0 p.1 in
    let f = between_printed 59 63 cause q.0 (omega arith) q.1 in
    same are (shown of keyword.Redirect (gateway ∷ cause ∷ []) (decimal p.0 ∷ decimal q.0 ∷ []) (line.Redirect p.0 q.0 None)
    said (λ i. e i ∷ f i ∷ []) q.2 (refl, refl)) (λ rules content. h)
redirect_spoken of (gateway ∷ cause ∷ to ∷ []) said are h =
    let p = then_read kind.Number (number_of gateway) _ said h in
    let q = then_read kind.Number (number_between 59 63 cause) _ said p.2 in
    let r = or_read kind.Number (λ to. line.Redirect p.0 q.0 (Some to)) (number_of to) said q.2 in
    let e = any_printed gateway p.0 p.1 in
    let f = between_printed 59 63 cause q.0 (omega arith) q.1 in
    let g = any_printed to r.0 r.1 in
    same are (shown of keyword.Redirect (gateway ∷ cause ∷ to ∷ []) (decimal p.0 ∷ decimal q.0 ∷ decimal r.0 ∷ [])
    (line.Redirect p.0 q.0 (Some r.0)) said (λ i. e i ∷ f i ∷ g i ∷ []) r.2
    (more_words (codes "redirect") (decimal p.0 ∷ decimal q.0 ∷ []) (decimal r.0 ∷ []), refl)) (λ rules content. h)
redirect_spoken of _ said are h = let no : ⊥ = cc in absurd no

-- Datagrams and packets.

in_spoken : (of : ScriptKind) (words : List (List ℕ)) (said : Line) → AreWords words → in_said words ≡ Ok said →
    IsSpoken of keyword.In words said
in_spoken of (from ∷ word ∷ words) said are h =
    let p = then_read kind.Number (address_of from) _ said h in
    let q = or_read kind.Hex (line.Datagram p.0) (octets_of (word ∷ words)) said p.2 in
    let o = datagram_printed word words q.0 are.1 q.1 in
    record {
      spoken = from ∷ encode_upper q.0 ∷ [];
      text = ap (λ (l : Line). line_text of l) (sym q.2) ∙ ap (λ (w : List ℕ). codes "in" ++ words_text (w ∷ encode_upper q.0 ∷ [])) (sym (address_printed from p.0 p.1));
      sets = ap (λ (l : Line). is_setting_line l) (sym q.2);
      are = (are.0, (o.is, tt));
      short = omega (arith, o.short);
      again = λ rules content.
          (λ i. read_then kind.Number (p.1 i) (λ sender. read_or kind.Hex (line.Datagram sender) (o.again i))) ∙ ap Ok q.2;
    }
in_spoken of _ said are h = let no : ⊥ = cc in absurd no

-- the packet that words say: there is a record
pub packet_again : (of : ScriptKind) (node format version : List ℕ) (records words : List (List ℕ)) (said : Line) →
    0 < span words →
    packet_said node format version words ≡ Ok said → (rules : ℕ) (content : List ℕ) →
    said_by of keyword.Submit rules content (node ∷ format ∷ version ∷ words) ≡ Ok said
packet_again of node format version records words said some h rules content = grind arith

submit_spoken : (of : ScriptKind) (words : List (List ℕ)) (said : Line) → AreWords words →
    submit_said words ≡ Ok said → IsSpoken of keyword.Submit words said
submit_spoken of (node ∷ format ∷ version ∷ word ∷ words) said are h =
    let p = then_read kind.Number (number_of node) _ said h in
    let q = then_read kind.Number (number_up_to 255 format) _ said p.2 in
    let r = then_read kind.Hex (version_of version) _ said q.2 in
    let s = or_read kind.Hex (line.Submit p.0 q.0 r.0) (records_of (word ∷ words)) said r.2 in
    let v = version_printed version r.0 r.1 in
    let rs = records_printed (word ∷ words) s.0 are.1.1.1 s.1 in
    let e = any_printed node p.0 p.1 in
    let f = (number_printed 255 format q.0 (omega arith) q.1).1 in
    let all : packet_said node format (version_text r.0) (map encode_upper s.0) ≡ Ok said = search arith in
    record {
      spoken = node ∷ format ∷ version_text r.0 ∷ map encode_upper s.0;
      text = ap (λ (l : Line). line_text of l) (sym s.2)
          ∙ more_words (codes "submit") (decimal p.0 ∷ decimal q.0 ∷ []) (version_text r.0 ∷ map encode_upper s.0)
          ∙ (λ i. codes "submit" ++ words_text (sym e i ∷ sym f i ∷ version_text r.0 ∷ map encode_upper s.0));
      sets = ap (λ (l : Line). is_setting_line l) (sym s.2);
      are = (are.0, (are.1.0, (v.is, rs.are)));
      short = omega (arith, v.long, rs.long);
      again = packet_again of node format (version_text r.0) s.0 (map encode_upper s.0) said (omega (arith, rs.long)) all;
    }
submit_spoken of _ said are h = let no : ⊥ = cc in absurd no

-- Every line but a rule.

abbrev pub is_rule_form : Keyword → Bool
is_rule_form keyword.Rule = true
is_rule_form _ = false

pub spoken : (of : ScriptKind) (form : Keyword) (rules : ℕ) (content : List ℕ) (words : List (List ℕ)) (said : Line) →
    is_rule_form form ≡ false → AreWords words →
    said_by of form rules content words ≡ Ok said → IsSpoken of form words said
spoken of keyword.At _ _ (word ∷ []) said _ are h =
    numbered line.At (λ n e. (number_printed last_moment word n (omega arith) e).1) (λ m. (refl, refl)) are
    (or_read kind.Number line.At (number_up_to last_moment word) said h) (λ r c. h)
spoken of keyword.In _ _ words said _ are h = in_spoken of words said are h
spoken of keyword.Mark _ _ words said _ are h =
    gateway_spoken of keyword.Mark line.Mark (λ k m. (refl, refl)) (λ k r c ws. refl) words said are h
spoken of keyword.Close _ _ words said _ are h =
    gateway_spoken of keyword.Close line.Close (λ k m. (refl, refl)) (λ k r c ws. refl) words said are h
spoken of keyword.End _ _ words said _ are h = one_word line.End (refl, refl) (λ r c. refl) words said h
spoken of keyword.Reserve _ _ (word ∷ []) _ _ are h =
    ranged line.Reserve 100 268435456 (omega arith) (λ m. (refl, refl)) are h (λ r c. h)
spoken of keyword.Limit _ _ words said _ are h = limit_spoken of words said are h
spoken of keyword.Offset _ _ words said _ are h = offset_spoken of words said are h
spoken of keyword.Profile _ _ (word ∷ []) _ _ are h =
    ranged line.Profile 1 2 (omega arith) (λ m. (refl, refl)) are h (λ r c. h)
spoken of keyword.Gateways _ _ (word ∷ []) _ _ are h =
    ranged line.Gateways 1 8 (omega arith) (λ m. (refl, refl)) are h (λ r c. h)
spoken of keyword.Nodes _ _ (word ∷ []) _ _ are h =
    ranged line.Nodes 1 16 (omega arith) (λ m. (refl, refl)) are h (λ r c. h)
spoken of keyword.Submit _ _ words said _ are h = submit_spoken of words said are h
spoken of keyword.Tick _ _ (word ∷ []) _ _ are h = any_number line.Tick (λ m. (refl, refl)) are h (λ r c. h)
spoken of keyword.Halt _ _ (word ∷ []) _ _ are h = any_number line.Halt (λ m. (refl, refl)) are h (λ r c. h)
spoken of keyword.Start _ _ (word ∷ []) _ _ are h = any_number line.Start (λ m. (refl, refl)) are h (λ r c. h)
spoken of keyword.Deliver _ _ (word ∷ []) _ _ are h = any_number line.Deliver (λ m. (refl, refl)) are h (λ r c. h)
spoken of keyword.Flow _ _ words said _ are h = one_word line.Flow (refl, refl) (λ r c. refl) words said h
spoken of keyword.Mix _ _ (word ∷ []) _ _ are h = any_number line.Mix (λ m. (refl, refl)) are h (λ r c. h)
spoken of keyword.Commit _ _ (word ∷ []) _ _ are h = any_number line.Commit (λ m. (refl, refl)) are h (λ r c. h)
spoken of keyword.Write _ _ (word ∷ []) _ _ are h = any_number line.Write (λ m. (refl, refl)) are h (λ r c. h)
spoken of keyword.Redirect _ _ words said _ are h = redirect_spoken of words said are h
spoken of keyword.Stop _ _ (word ∷ []) _ _ are h = any_number line.Stop (λ m. (refl, refl)) are h (λ r c. h)
spoken of keyword.Open _ _ (word ∷ []) _ _ are h = any_number line.Open (λ m. (refl, refl)) are h (λ r c. h)
spoken of keyword.Arm _ _ words said _ are h =
    arm_spoken of keyword.Arm line.Arm (λ g c m. (refl, refl)) words said are h (λ r c. h)
spoken of keyword.Fail _ _ words said _ are h =
    fail_spoken of keyword.Fail line.Fail (λ g c. (refl, refl)) words said are h (λ r c. h)
spoken of keyword.ArmShelf _ _ words said _ are h =
    arm_spoken of keyword.ArmShelf line.ArmShelf (λ g c m. (refl, refl)) words said are h (λ r c. h)
spoken of keyword.FailShelf _ _ words said _ are h =
    fail_spoken of keyword.FailShelf line.FailShelf (λ g c. (refl, refl)) words said are h (λ r c. h)
spoken of keyword.Settle _ _ words said _ are h = one_word line.Settle (refl, refl) (λ r c. refl) words said h
spoken _ _ _ _ _ _ other are h = let no : ⊥ = cc in absurd no
