-- The lines of a text.
use Rattle.std.specs.Prelude.{ℕ, ◌+◌, ◌-◌, ◌==◌, Bool, true, false, if◌then◌else◌, List, [], ◌∷◌, length, take, slice_get, sum_by}
use Rattle.std.specs.Int.{is_in_range}
use Rattle.std.specs.List.{list_all}
use Rattle.std.specs.Option.{option_map_or}
use Rattle.world_script.specs.declared.text.TextLine.{TextLine}

-- a line of a text, without the line feed, and whether a line feed ends it: the last line may lack it
pub record RawLine : Type 0 where
  pub octets : List ℕ
  pub ended : Bool

-- an octet in front of the first line
abbrev pub onto_line : ℕ → List RawLine → List RawLine
onto_line x [] = record { octets = x ∷ []; ended = false } ∷ []
onto_line x (l ∷ ls) = record { octets = x ∷ l.octets; ended = l.ended } ∷ ls

-- the lines of a text
abbrev pub raw_lines : List ℕ → List RawLine
raw_lines [] = []
raw_lines (x ∷ xs) = if x == 10 then record { octets = []; ended = true } ∷ raw_lines xs else onto_line x (raw_lines xs)

-- how many octets of the text a line has, its line feed included
abbrev pub line_size : RawLine → ℕ
line_size l = length l.octets + (if l.ended then 1 else 0)

-- how many octets lines have together
abbrev pub size_of : List RawLine → ℕ
size_of lines = sum_by line_size lines

-- whether a list ends with this octet
abbrev pub ends_with : ℕ → List ℕ → Bool
ends_with octet xs = option_map_or (λ x. x == octet) (slice_get xs (length xs - 1)) false

-- a list without the carriage return at its end, where it has one
abbrev pub without_return : List ℕ → List ℕ
without_return xs = if ends_with 13 xs then take (length xs - 1) xs else xs

-- what a line says: a carriage return before the line feed is dropped
abbrev pub line_content : RawLine → List ℕ
line_content l = if l.ended then without_return l.octets else l.octets

-- whether a line does nothing: it is empty, or begins with a number sign
abbrev pub is_blank : List ℕ → Bool
is_blank [] = true
is_blank (x ∷ xs) = x == 35

-- whether all octets are printable ones of ASCII
abbrev pub is_printable : List ℕ → Bool
is_printable content = list_all (λ x. is_in_range 32 126 x) content

-- a line that the code lends
abbrev pub lent_line : TextLine → RawLine
lent_line l = record { octets = l.octets.now; ended = l.ended }
