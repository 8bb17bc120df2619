-- The lines that are printed, step by step.
use Rattle.std.proofs.Common.{◌≡◌, ℕ, ◌+◌, ◌-◌, ◌*◌, ◌^◌, ◌<◌, ◌≤◌, min, ◌==◌, List, [], ◌∷◌, ◌++◌, length, length-append, take, drop, slice_set, Some, None, slice_get, ap, sym, ◌∙◌, arith, add-one, append_assoc, append-nil}
use Rattle.cgf_jobs.proofs.Names.{at_drop_all, encode_upper, encode_with, file_line, files_below, flat_map, in_stream, Item, length-set, lines_size, SealedFile, Settings, stream_files, take_all, take_at, take_more_set}
use Rattle.std.proofs.lemmas.Grind.{flat_map-append}
use Rattle.std.proofs.lemmas.List.Elements.{filter-append}
use Rattle.cgf_jobs.proofs.PlaceLemmas.{none_at, rest_at}

-- the digits of all octets are spelt, and the end of the line behind them
pub line_spelt : (octets line : List ℕ) (k : ℕ) → length octets ≤ k → length line ≡ 2 * length octets + 1
    → take (2 * k) line ++ encode_upper (drop k octets) ≡ encode_upper octets
    → k ≡ length octets → slice_set line (2 * length octets) 10 ≡ encode_upper octets ++ 10 ∷ []
unfolding encode_with
line_spelt octets line k all long spelt end =
    let digits : take (2 * k) line ≡ encode_upper octets =
    sym (append-nil (take (2 * k) line)) ∙ sym (at_drop_all (λ (xs : List ℕ). take (2 * k) line ++ encode_upper xs) octets k all) ∙ spelt in
    let front : take (2 * length octets) line ≡ encode_upper octets = ap (λ (n : ℕ). take (2 * n) line) (sym end) ∙ digits in
    let size : length (slice_set line (2 * length octets) 10) ≡ length line = length-set line (2 * length octets) 10 in
    sym (take_all (2 * length octets + 1) (slice_set line (2 * length octets) 10) (omega (arith, size, long)))
    ∙ take_more_set line (2 * length octets) 10 (omega (arith, long))
    ∙ ap (λ (xs : List ℕ). xs ++ 10 ∷ []) front

-- what stood in a list before it was made longer
pub kept_before : (old more : List ℕ) (start size : ℕ) → length old ≡ start → start ≤ size → take start (take size old ++ more) ≡ old
kept_before old more start size is within =
    ap (λ (xs : List ℕ). take start (xs ++ more)) (take_all size old (omega (arith, is, within))) ∙ take_at old more start is

-- a line is written behind what stood there
pub line_added : (front line rest old text : List ℕ) (size : ℕ) → length front + length line ≡ size → front ≡ old → line ≡ text
    → take size (front ++ line ++ rest) ≡ old ++ text
line_added front line rest old text size long is shows =
    take_at (front ++ line) rest size (omega (arith, length-append front line, long)) ∙ (λ i. is i ++ shows i)

-- the line of a file, part by part
pub file_printed : (start begun named spaced now word name octets : List ℕ) → begun ≡ start ++ word → named ≡ begun ++ name
    → spaced ≡ named ++ 32 ∷ [] → now ≡ spaced ++ (octets ++ 10 ∷ []) → now ≡ start ++ (word ++ (name ++ (32 ∷ (octets ++ 10 ∷ []))))
file_printed start begun named spaced now word name octets first title space last =
    rw (last, space, title, first) (simp append_assoc)

-- the lines of the files of a stream
abbrev pub lines_in : ℕ → List SealedFile → List ℕ
lines_in s files = flat_map (file_line 0) (in_stream s files)

-- one file, and then the others
lines_step : (s : ℕ) (f : SealedFile) (files : List SealedFile) → lines_in s (f ∷ files) ≡ lines_in s (f ∷ []) ++ lines_in s files
lines_step s f files =
    ap (λ (fs : List SealedFile). flat_map (file_line 0) fs) (filter-append (λ (g : SealedFile). g.name.stream == s) (f ∷ []) files)
    ∙ flat_map-append (file_line 0) (in_stream s (f ∷ [])) (in_stream s files)

-- the line of a file was printed, and those behind it are left
pub line_printed : (s at : ℕ) (files : List SealedFile) (f : SealedFile) (before now all : List ℕ) → slice_get files at ≡ Some f
    → before ++ lines_in s (drop at files) ≡ all → now ≡ before ++ lines_in s (f ∷ []) → now ++ lines_in s (drop (at + 1) files) ≡ all
line_printed s at files f before now all found whole more =
    ap (λ (p : List ℕ). p ++ lines_in s (drop (at + 1) files)) more
    ∙ append_assoc before (lines_in s (f ∷ [])) (lines_in s (drop (at + 1) files))
    ∙ ap (λ (x : List ℕ). before ++ x) (sym (ap (λ (fs : List SealedFile). lines_in s fs) (rest_at files at f found) ∙ lines_step s f (drop (at + 1) files)))
    ∙ whole

-- no file is left
pub lines_printed : (s at : ℕ) (files : List SealedFile) (before all : List ℕ) → slice_get files at ≡ None
    → before ++ lines_in s (drop at files) ≡ all → before ≡ all
lines_printed s at files before all none whole =
    sym (append-nil before) ∙ ap (λ (fs : List SealedFile). before ++ lines_in s fs) (sym (none_at files at none)) ∙ whole

-- the octets of one more line were counted, and those of the lines behind it are left
pub size_more : (size next at : ℕ) (files : List SealedFile) (f : SealedFile) → slice_get files at ≡ Some f
    → min (size + lines_size (drop at files)) (2 ^ 64 - 1) ≡ min (lines_size files) (2 ^ 64 - 1)
    → next ≡ min (size + (2 * length f.octets + 26)) (2 ^ 64 - 1)
    → min (next + lines_size (drop (at + 1) files)) (2 ^ 64 - 1) ≡ min (lines_size files) (2 ^ 64 - 1)
size_more size next at files f found so_far more =
    let left : lines_size (drop at files) ≡ 2 * length f.octets + 26 + lines_size (drop (at + 1) files) =
    ap lines_size (rest_at files at f found) in
    omega (arith, left, so_far, more)

-- all were, where the sum isn't the greatest number
pub size_counted : (size at : ℕ) (files : List SealedFile) → slice_get files at ≡ None
    → min (size + lines_size (drop at files)) (2 ^ 64 - 1) ≡ min (lines_size files) (2 ^ 64 - 1)
    → size < 2 ^ 63 → size ≡ lines_size files
size_counted size at files none so_far small =
    let left : lines_size (drop at files) ≡ 0 = ap lines_size (none_at files at none) in
    omega (arith, left, so_far, small)

-- the lines of one more stream
pub stream_printed : (settings : Settings) (items : List Item) (s : ℕ) (files : List SealedFile) (start before now : List ℕ)
    → before ≡ start ++ flat_map (file_line 0) (files_below s settings items) → in_stream s files ≡ stream_files settings s items
    → now ≡ before ++ lines_in s files → now ≡ start ++ flat_map (file_line 0) (files_below (s + 1) settings items)
stream_printed settings items s files start before now printed stands more =
    rw (more, printed, stands, add-one, append_assoc, flat_map-append)
