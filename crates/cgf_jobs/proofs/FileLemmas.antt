-- The files that a writer leaves on a shelf that was empty.
use Rattle.std.proofs.Common.{◌≡◌, ℕ, suc, ◌+◌, ◌-◌, ◌<◌, ◌≤◌, max, IsTrue, cond, List, [], ◌∷◌, ◌++◌, count_by, drop, length, length-take, take, take-add, Ok, refl, ap, sym, ◌∙◌, arith, append-nil}
use Rattle.cgf_jobs.proofs.Names.{closed_of, files_from, greatest_in, Holds, in_stream, is_part, Item, part_of, sealed_in, Settings, settings_in, shelf_of, stream_count, stream_division, stream_files, take_all, take_min}
use Rattle.std.proofs.lemmas.List.Sums.{sum_by-append}
use Rattle.area_disk.specs.Disk.{Rose}
use Rattle.cdr_file.specs.CdrFile.{FileSettings}
use Rattle.cdr_shelf.specs.declared.shelf.Shelf.{Ghosts}
use Rattle.file_rotate.specs.Division.{ClosedRun}
use Rattle.file_writer.specs.Advancing.{Advances, HasRecovered}
use Rattle.file_writer.specs.Holding.{files_after}
use Rattle.file_writer.specs.declared.writer.Writer.{Writer}

-- a count that is 0 didn't rise
pub never_rose : Rose 0 0 → ⊥
never_rose rose = omega (arith, rose)

pub length-files_from : (settings : FileSettings) (s sequence : ℕ) (runs : List (ClosedRun (List ℕ))) → length (files_from settings s sequence runs) ≡ length runs
length-files_from settings s sequence [] = refl
length-files_from settings s sequence (run ∷ runs) = ap (λ (n : ℕ). suc n) (length-files_from settings s (sequence + 1) runs)

-- what an empty shelf holds before the first item
none_held : {A : Type 0} {tells : Ghosts A} (writer : Writer A tells) (all : List Item) → tells.files (shelf_of writer) ≡ []
    → ((s : ℕ) → s < stream_count → sealed_in writer s ≡ 0) → Holds writer (λ s. 0) (λ s. []) all []
none_held writer all empty none s h =
    let none_closed : closed_of (settings_in writer) s [] ≡ 0 = refl in
    let none_stand : max (sealed_in writer s) (0 + closed_of (settings_in writer) s []) - 0 ≡ 0 = omega (arith, none s h, none_closed) in
    ap (in_stream s) empty ∙ sym (ap (λ n. take n (files_after (settings_in writer) (λ t. 0) s all)) none_stand)

-- the records of a part more are counted
pub counted_on : (from most : ℕ) (all : List Item) → count_by is_part (take (from + length (part_of from most all)) all)
    ≡ count_by is_part (take from all) + count_by is_part (part_of from most all)
counted_on from most all =
    ap (λ (items : List Item). count_by is_part items)
    (take-add from (length (part_of from most all)) all
    ∙ ap (λ (k : ℕ). take from all ++ take k (drop from all)) (length-take most (drop from all))
    ∙ ap (λ (items : List Item). take from all ++ items) (take_min most (drop from all)))
    ∙ sum_by-append (λ (item : Item). cond (is_part item) 1 0) (take from all) (part_of from most all)

-- all files of the items stand on a shelf that was empty
pub files_written : {A : Type 0} {tells : Ghosts A} (start old new : Writer A tells) (items : List Item) (settings : Settings) (n : ℕ)
    → IsTrue tells.tells_files → HasRecovered tells (λ s. 0) 0 start old → tells.files (shelf_of old) ≡ []
    → settings_in new ≡ settings → Advances tells (λ s. 0) [] items old new (Ok n)
    → (s : ℕ) → s < stream_count → in_stream s (tells.files (shelf_of new)) ≡ stream_files settings s items
files_written {tells = tells} start old new items settings n told recovered empty set advances s h =
    found ∙ take_all count (files_after (settings_in new) (λ t. 0) s (items ++ [])) enough
    ∙ ap (λ all. files_after (settings_in new) (λ t. 0) s all) (append-nil items) ∙ ap (λ (with : Settings). stream_files with s items) set
  where
    none : (t : ℕ) → t < stream_count → sealed_in old t ≡ 0
    none t below = recovered.sealed told t below ∙ ap (greatest_in t) empty

    count : ℕ
    count = max (sealed_in new s) (0 + closed_of (settings_in new) s items) - 0

    found : in_stream s (tells.files (shelf_of new)) ≡ take count (files_after (settings_in new) (λ t. 0) s (items ++ []))
    found = advances.holds told (λ t. []) [] (none_held old (items ++ []) empty none) s h

    enough : length (files_after (settings_in new) (λ t. 0) s (items ++ [])) ≤ count
    enough =
        let files : length (files_after (settings_in new) (λ t. 0) s (items ++ [])) ≡ length (stream_division (settings_in new) s (items ++ [])).closed =
        length-files_from (settings_in new).file s 1 (stream_division (settings_in new) s (items ++ [])).closed in
        let same : length (stream_division (settings_in new) s (items ++ [])).closed ≡ closed_of (settings_in new) s items =
        ap (λ all. closed_of (settings_in new) s all) (append-nil items) in
        omega (arith, files, same)
