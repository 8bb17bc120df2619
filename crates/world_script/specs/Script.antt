-- Which lines a script may have, and the first line that is refused.
use Rattle.std.specs.Prelude.{ℕ, ◌+◌, ◌&&◌, ◌||◌, not, Bool, true, false, nat_lt, if◌then◌else◌, List, [], ◌∷◌, ◌++◌, length, count_by, Result, Ok, Err}
use Rattle.std.specs.List.{list_any}
use Rattle.route_filter.specs.Words.{words_of}
use Rattle.world_script.specs.Forms.{is_setting, keyword_of}
use Rattle.world_script.specs.Saying.{said_by}
use Rattle.world_script.specs.Text.{RawLine, is_blank, is_printable, line_content, line_size, raw_lines}
use Rattle.world_script.specs.declared.keyword.Keyword.{Keyword}
use Rattle.world_script.specs.declared.kind.ScriptKind.{ScriptKind}
use Rattle.world_script.specs.declared.kind.ScriptKind.TheVariants.{Feed}
use Rattle.world_script.specs.declared.progress.Progress.{Progress}
use Rattle.world_script.specs.declared.line.Line.{Line}
use Rattle.world_script.specs.declared.line.Line.TheVariants as line
use Rattle.world_script.specs.declared.fault.InputKind.{InputKind}
use Rattle.world_script.specs.declared.fault.InputKind.TheVariants.{TooLong, Word, After, Late, NoEnd}

-- the most octets that the text of a script may have
abbrev pub most_text : ℕ
most_text = 16777216

-- What stands before a line.

abbrev pub is_end_line : Line → Bool
is_end_line line.End = true
is_end_line _ = false

abbrev pub is_rule_line : Line → Bool
is_rule_line (line.Rule text) = true
is_rule_line _ = false

abbrev pub is_setting_line : Line → Bool
is_setting_line (line.Reserve length) = true
is_setting_line (line.LimitRecords count) = true
is_setting_line (line.LimitSize size) = true
is_setting_line (line.LimitOpen seconds) = true
is_setting_line (line.Offset minutes) = true
is_setting_line (line.Profile profile) = true
is_setting_line (line.Rule text) = true
is_setting_line (line.Gateways count) = true
is_setting_line (line.Nodes count) = true
is_setting_line _ = false

abbrev pub is_blank_line : Line → Bool
is_blank_line line.Blank = true
is_blank_line _ = false

-- a line that is no setting; empty lines and comments don't count
abbrev pub is_action_line : Line → Bool
is_action_line said = not (is_setting_line said || is_blank_line said)

-- what of the lines before one decides what it may say: their octets, the number of the next line, whether an `end` and
-- whether another line than a setting stands among them, and how many rules do
abbrev pub progress_of : ScriptKind → ℕ → List Line → Progress
progress_of of size before = record {
  kind = of;
  size = size;
  place = length before + 1;
  has_end = list_any is_end_line before;
  has_action = list_any is_action_line before;
  rules = count_by is_rule_line before;
}

-- One line: the first test that fails decides.

-- a line of a form that is known: after an `end` only blank lines stand, and settings stand before all others
abbrev pub formed : Progress → Keyword → List ℕ → List (List ℕ) → Result Line InputKind
formed before form content words =
    if before.has_end then Err After
    else if is_setting form && before.has_action then Err Late
    else said_by before.kind form before.rules content words

-- by its words: the first one says the form
abbrev pub keyed : Progress → Result Keyword InputKind → List ℕ → List (List ℕ) → Result Line InputKind
keyed before (Err refusal) content words = Err refusal
keyed before (Ok form) content words = formed before form content words

abbrev pub worded : Progress → List ℕ → List (List ℕ) → Result Line InputKind
worded before content [] = Err Word
worded before content (word ∷ words) = keyed before (keyword_of before.kind word) content words

-- by its content: an empty line or a comment may stand anywhere and hold any octets
abbrev pub contented : Progress → List ℕ → Result Line InputKind
contented before content =
    if is_blank content then Ok line.Blank
    else if is_printable content then worded before content (words_of content)
    else Err Word

-- what a line says, by the lines before it: no line may hold the octet after the first 16,777,216 of the text
abbrev pub reading_of : Progress → RawLine → Result Line InputKind
reading_of before raw =
    if nat_lt most_text (before.size + line_size raw) then Err TooLong else contented before (line_content raw)

-- All lines, and an `end` among them.

-- the line with this number, from 1, is the first that is refused
pub record Refusal : Type 0 where
  pub place : ℕ
  pub kind : InputKind

-- no line is left: where no `end` came, the line after the last is refused
abbrev pub ended_by : Progress → List Line → Result (List Line) Refusal
ended_by p said = if p.has_end then Ok said else Err (record { place = p.place; kind = NoEnd })

-- the later lines, where this one isn't refused
abbrev pub onward : ℕ → Result Line InputKind → (Line → Result (List Line) Refusal) → Result (List Line) Refusal
onward place (Err kind) later = Err (record { place = place; kind = kind })
onward place (Ok said) later = later said

-- all lines, where these of so many octets stand before those that are left
abbrev pub script_after : ScriptKind → ℕ → List Line → List RawLine → Result (List Line) Refusal
script_after of size before [] = ended_by (progress_of of size before) before
script_after of size before (raw ∷ later) =
    onward (length before + 1) (reading_of (progress_of of size before) raw)
    (λ said. script_after of (size + line_size raw) (before ++ said ∷ []) later)

-- the lines of a script of this kind, or the first that is refused
abbrev pub script_in : ScriptKind → List ℕ → Result (List Line) Refusal
script_in of text = script_after of 0 [] (raw_lines text)

-- the lines of the script of a feed
abbrev pub script_of : List ℕ → Result (List Line) Refusal
script_of text = script_in Feed text

-- a script: of which kind it is, and its lines
pub record ScriptValue : Type 0 where
  pub kind : ScriptKind
  pub lines : List Line
