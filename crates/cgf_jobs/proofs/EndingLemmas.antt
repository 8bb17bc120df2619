-- A script that the grammar takes ends with `end`, but for blank lines; so all files of its network are written, and what
-- it prints ends with its report.
use Rattle.std.proofs.Common.{◌≡◌, ◌∙◌, refl, sym, ap, subst, ℕ, suc, ◌+◌, Bool, true, false, true≢false, ◌||◌, if◌then◌else◌, List, [], ◌∷◌, ◌++◌, length, Option, Some, None, Result, Ok, Err, append_assoc, append-nil}
use Rattle.cgf_jobs.proofs.Names.{AllByRecursion, AreWritten, contented, EndsByReport, formed, HaveMachines, is_end_line, keyed, Line, line_after, line_notices, line_text, lines_after, list_any, onward, printed, printed_by, progress_of, reading_of, ReadsBack, refusal_of_line, refusal_of_lines, refused_from, refused_or, replay_of, ReplayValue, report_of, script_after, script_in, settled, worded, WorldKind}
use Rattle.world_script.specs.Forms.{keyword_of}
use Rattle.world_script.specs.Script.{Refusal}
use Rattle.world_script.specs.Text.{RawLine, is_blank, is_printable, line_content, line_size, raw_lines}
use Rattle.route_filter.specs.Words.{words_of}
use Rattle.world_script.specs.declared.fault.InputKind.{InputKind}
use Rattle.world_script.specs.declared.fault.InputKind.TheVariants as kind
use Rattle.world_script.specs.declared.keyword.Keyword.{Keyword}
use Rattle.world_script.specs.declared.kind.ScriptKind.{ScriptKind}
use Rattle.world_script.specs.declared.line.Line.TheVariants as line
use Rattle.world_script.specs.declared.progress.Progress.{Progress}
use Rattle.replay_world.specs.Notices.{notice_lines}

-- The lines end with `end`, but for blank lines.
pub record EndsByEnd (lines : List Line) : Type 0 where
  pub front : List Line
  pub back : List Line
  pub whole : lines ≡ front ++ line.End ∷ back
  pub blank : AllByRecursion (λ l. l ≡ line.Blank) back

is_end : (l : Line) → is_end_line l ≡ true → l ≡ line.End
is_end line.End is = refl
is_end _ is = absurd (cc)

-- Behind an `end` only blank lines are taken.

after_end : (p : Progress) (form : Keyword) (content : List ℕ) (words : List (List ℕ)) (l : Line) → p.has_end ≡ true →
    formed p form content words ≡ Ok l → l ≡ line.Blank
after_end p form content words l ended h =
    let refused = rw ended at h in absurd (cc refused)

keyed_blank : (p : Progress) (r : Result Keyword InputKind) (content : List ℕ) (words : List (List ℕ)) (l : Line) →
    p.has_end ≡ true → keyed p r content words ≡ Ok l → l ≡ line.Blank
keyed_blank p (Err refusal) content words l ended h = absurd (cc)
keyed_blank p (Ok form) content words l ended h = after_end p form content words l ended h

worded_blank : (p : Progress) (content : List ℕ) (words : List (List ℕ)) (l : Line) → p.has_end ≡ true →
    worded p content words ≡ Ok l → l ≡ line.Blank
worded_blank p content [] l ended h = absurd (cc)
worded_blank p content (word ∷ words) l ended h =
    keyed_blank p (keyword_of p.kind word) content words l ended h

contented_blank : (p : Progress) (content : List ℕ) (l : Line) → p.has_end ≡ true → contented p content ≡ Ok l →
    l ≡ line.Blank
contented_blank p content l ended h = by (is_blank content) (is_printable content) h
  where
    by : (blank printable : Bool) →
        (if blank then Ok line.Blank else if printable then worded p content (words_of content) else Err kind.Word) ≡ Ok l →
        l ≡ line.Blank
    by true printable k = let same : line.Blank ≡ l = cc in sym same
    by false true k = worded_blank p content (words_of content) l ended k
    by false false k = absurd (cc)

reading_blank : (p : Progress) (raw : RawLine) (l : Line) (b : Bool) → p.has_end ≡ true →
    (if b then Err kind.TooLong else contented p (line_content raw)) ≡ Ok l → l ≡ line.Blank
reading_blank p raw l true ended h = absurd (cc)
reading_blank p raw l false ended h = contented_blank p (line_content raw) l ended h

-- One more line.

any_more : (before : List Line) (l : Line) →
    list_any is_end_line (before ++ l ∷ []) ≡ (list_any is_end_line before || is_end_line l)
any_more [] l = by (is_end_line l)
  where
    by : (b : Bool) → (b || false) ≡ (false || b)
    by true = refl
    by false = refl
any_more (m ∷ before) l = by (is_end_line m) (any_more before l)
  where
    by : (b : Bool) → list_any is_end_line (before ++ l ∷ []) ≡ (list_any is_end_line before || is_end_line l) →
        (b || list_any is_end_line (before ++ l ∷ [])) ≡ ((b || list_any is_end_line before) || is_end_line l)
    by true same = refl
    by false same = same

blank_more : (back : List Line) → AllByRecursion (λ l. l ≡ line.Blank) back →
    AllByRecursion (λ l. l ≡ line.Blank) (back ++ line.Blank ∷ [])
blank_more [] all = (refl, tt)
blank_more (l ∷ back) all = (all.0, blank_more back all.1)

ends_more : (before : List Line) (l : Line) → (list_any is_end_line before ≡ true → EndsByEnd before) →
    (list_any is_end_line before ≡ true → l ≡ line.Blank) → list_any is_end_line (before ++ l ∷ []) ≡ true →
    EndsByEnd (before ++ l ∷ [])
ends_more before l so_far blank some = by (list_any is_end_line before) refl
  where
    by : (b : Bool) → list_any is_end_line before ≡ b → EndsByEnd (before ++ l ∷ [])
    by true is =
        let ended = so_far is in
        record {
          front = ended.front;
          back = ended.back ++ line.Blank ∷ [];
          whole = ap (λ (m : Line). before ++ m ∷ []) (blank is)
              ∙ ap (λ (ls : List Line). ls ++ line.Blank ∷ []) ended.whole
              ∙ append_assoc ended.front (line.End ∷ ended.back) (line.Blank ∷ []);
          blank = blank_more ended.back ended.blank;
        }
    by false is =
        let here : is_end_line l ≡ true = rw is at (sym (any_more before l) ∙ some) in
        record {
          front = before;
          back = [];
          whole = ap (λ (m : Line). before ++ m ∷ []) (is_end l here);
          blank = tt;
        }

-- All lines.

ended_lines : (p : Progress) (said lines : List Line) (b : Bool) (place : ℕ) →
    if◌then◌else◌ {A = Result (List Line) Refusal} b (Ok said) (Err (record { place = place; kind = kind.NoEnd }))
    ≡ Ok lines → (b ≡ true) × (said ≡ lines)
ended_lines p said lines true place h = let same : said ≡ lines = cc in (refl, same)
ended_lines p said lines false place h = absurd (cc)

next_line : (place : ℕ) (r : Result Line InputKind) (later : Line → Result (List Line) Refusal) (lines : List Line) →
    onward place r later ≡ Ok lines → (l : Line) × (r ≡ Ok l) × (later l ≡ Ok lines)
next_line place (Err why) later lines h = absurd (cc)
next_line place (Ok l) later lines h = (l, refl, h)

after_ends : (of : ScriptKind) (size : ℕ) (before : List Line) (raws : List RawLine) (lines : List Line) →
    (list_any is_end_line before ≡ true → EndsByEnd before) → script_after of size before raws ≡ Ok lines → EndsByEnd lines
after_ends of size before [] lines so_far h =
    let p : Progress = progress_of of size before in
    let ended = ended_lines p before lines p.has_end p.place h in
    subst EndsByEnd ended.1 (so_far ended.0)
after_ends of size before (raw ∷ raws) lines so_far h =
    let p : Progress = progress_of of size before in
    let first = next_line (length before + 1) (reading_of p raw)
    (λ said. script_after of (size + line_size raw) (before ++ said ∷ []) raws) lines h in
    after_ends of (size + line_size raw) (before ++ first.0 ∷ []) raws lines
    (ends_more before first.0 so_far (λ ended. reading_blank p raw first.0 _ ended first.1)) first.2

script_ends : (of : ScriptKind) (text : List ℕ) (lines : List Line) → script_in of text ≡ Ok lines → EndsByEnd lines
script_ends of text lines h = after_ends of 0 [] (raw_lines text) lines (λ none. absurd (true≢false (sym none))) h

pub reads_ends : (of : ScriptKind) (lines : List Line) → ReadsBack of lines → EndsByEnd lines
reads_ends of lines h = script_ends of (printed of lines) lines h

-- A network that ended has all its files written.

lines_then : (v : ReplayValue) (front back : List Line) →
    lines_after v (front ++ back) ≡ lines_after (lines_after v front) back
lines_then v [] back = refl
lines_then v (said ∷ front) back = lines_then (line_after v said) front back

blank_stays : (v : ReplayValue) (back : List Line) → AllByRecursion (λ l. l ≡ line.Blank) back → lines_after v back ≡ v
blank_stays v [] all = refl
blank_stays v (said ∷ back) all = rw all.0 (blank_stays v back all.1)

pub ended_written : (v : ReplayValue) (lines : List Line) → EndsByEnd lines →
    ((front : List Line) → HaveMachines (lines_after v front)) →
    ((u : ReplayValue) → HaveMachines u → AreWritten (settled u)) → AreWritten (lines_after v lines)
ended_written v lines ended machines writes =
    let u : ReplayValue = lines_after v ended.front in
    let is : lines_after v lines ≡ settled u =
    ap (λ (ls : List Line). lines_after v ls) ended.whole ∙ lines_then v ended.front (line.End ∷ ended.back)
    ∙ blank_stays (line_after u line.End) ended.back ended.blank in
    subst AreWritten (sym is) (writes u (machines ended.front))

-- What lines print that end with `end` ends with the report, where none of them is refused.

abbrev TellsAt : ReplayValue → List Line → Type 0
TellsAt v lines = (front : List ℕ) × (printed_by v lines ≡ front ++ report_of (lines_after v lines))

blank_prints : (v : ReplayValue) (back : List Line) → AllByRecursion (λ l. l ≡ line.Blank) back → printed_by v back ≡ []
blank_prints v [] all = refl
blank_prints v (said ∷ back) all = ap (λ (l : Line). printed_by v (l ∷ back)) all.0 ∙ blank_prints v back all.1

end_tells : (v : ReplayValue) (back : List Line) → AllByRecursion (λ l. l ≡ line.Blank) back → TellsAt v (line.End ∷ back)
end_tells v back blank =
    let u : ReplayValue = line_after v line.End in
    let before : List ℕ = notice_lines (line_notices v line.End) in (
      before,
      ap (λ (text : List ℕ). (before ++ report_of u) ++ text) (blank_prints u back blank)
          ∙ append-nil (before ++ report_of u)
          ∙ ap (λ (w : ReplayValue). before ++ report_of w) (sym (blank_stays u back blank)),
    )

pub some_is_none : {A B : Type 0} (x : A) → Some x ≡ None → B
some_is_none x is = absurd (cc)

module _ (v : ReplayValue) (said : Line) (later : List Line) (place : ℕ) where
  abbrev u : ReplayValue
  u = line_after v said

  none_later : refused_from place v (said ∷ later) ≡ None →
      (refusal_of_line v said ≡ None) × (refused_from (suc place) u later ≡ None)
  none_later none = by (refusal_of_line v said) refl
    where
      by : (o : Option WorldKind) → refusal_of_line v said ≡ o →
          (refusal_of_line v said ≡ None) × (refused_from (suc place) u later ≡ None)
      by None is = (
        is,
        sym (ap (λ (o : Option WorldKind). refused_or o place (refused_from (suc place) u later)) is) ∙ none,
      )
      by (Some kind) is =
          some_is_none (record { place = place; kind = kind })
          (sym (ap (λ (o : Option WorldKind). refused_or o place (refused_from (suc place) u later)) is) ∙ none)

  tells_more : refusal_of_line v said ≡ None → TellsAt u later → TellsAt v (said ∷ later)
  tells_more none tells = (
    line_text v said ++ tells.0,
    rw (none, tells.1) (sym (append_assoc (line_text v said) tells.0 (report_of (lines_after u later)))),
  )

tells_from : (v : ReplayValue) (front back : List Line) (place : ℕ) → AllByRecursion (λ l. l ≡ line.Blank) back →
    refused_from place v (front ++ line.End ∷ back) ≡ None → TellsAt v (front ++ line.End ∷ back)
tells_from v [] back place blank none = end_tells v back blank
tells_from v (said ∷ front) back place blank none =
    let lines : List Line = front ++ line.End ∷ back in
    let go_on = none_later v said lines place none in
    tells_more v said lines place go_on.0 (tells_from (line_after v said) front back (suc place) blank go_on.1)

ended_tells : (v : ReplayValue) (lines : List Line) → EndsByEnd lines → refused_from 1 v lines ≡ None → TellsAt v lines
ended_tells v lines ended none =
    rw ended.whole (tells_from v ended.front ended.back 1 ended.blank (rw ended.whole at none))

pub ended_told : (lines : List Line) → EndsByEnd lines → refusal_of_lines lines ≡ None → EndsByReport lines
ended_told lines ended none = ended_tells (replay_of lines) lines ended none
