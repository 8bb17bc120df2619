-- A division goes on from the run that it leaves open, and so does what a cutter keeps.
use Rattle.std.proofs.Common.{◌≡◌, List, [], ◌∷◌, ◌++◌, Option, Some, None, refl, sym, ap, ◌∙◌}
use Rattle.cdr_file.specs.declared.closure.ClosureReason.{ClosureReason}
use Rattle.file_rotate.specs.declared.limits.Limits.{Limits}
use Rattle.file_rotate.specs.declared.open_file.OpenFile.{OpenFile}
use Rattle.file_rotate.specs.Cutting.{file_after, file_of}
use Rattle.file_rotate.specs.Division.{Cuts, Division, closed_first, cuts_at, divided_from, goes_on, joined, run_after, with_cuts}
use Rattle.file_rotate.specs.Items.{Filed, Item}
use Rattle.file_rotate.proofs.CuttingLemmas.{file_of-run_after}

-- one more closed run in front
closed_first-goes_on : {P : Type 0} (limits : Limits) (reason : Option ClosureReason) (run : List (Filed P)) (division : Division P) (after : List (Item P))
    → closed_first reason run (goes_on limits division after) ≡ goes_on limits (closed_first reason run division) after
closed_first-goes_on limits None run division after = refl
closed_first-goes_on limits (Some reason) run division after = refl

with_cuts-goes_on : {P : Type 0} (limits : Limits) (cuts : Cuts) (run : List (Filed P)) (item : Item P) (division : Division P) (after : List (Item P))
    → with_cuts cuts run item (goes_on limits division after) ≡ goes_on limits (with_cuts cuts run item division) after
with_cuts-goes_on {P} limits cuts run item division after =
    ap (λ (d : Division P). closed_first cuts.before run d) (closed_first-goes_on limits cuts.after (joined cuts.before run item) division after)
    ∙ closed_first-goes_on limits cuts.before run (closed_first cuts.after (joined cuts.before run item) division) after

pub divided_from-append : {P : Type 0} (limits : Limits) (run : List (Filed P)) (before after : List (Item P))
    → divided_from limits run (before ++ after) ≡ goes_on limits (divided_from limits run before) after
divided_from-append limits run [] after = refl
divided_from-append {P} limits run (item ∷ before) after =
    ap (λ (d : Division P). with_cuts (cuts_at limits run item) run item d) (divided_from-append limits (run_after (cuts_at limits run item) run item) before after)
    ∙ with_cuts-goes_on limits (cuts_at limits run item) run item (divided_from limits (run_after (cuts_at limits run item) run item) before) after

-- closed runs in front leave the open one
left_open-closed_first : {P : Type 0} (reason : Option ClosureReason) (run : List (Filed P)) (division : Division P) → (closed_first reason run division).left_open ≡ division.left_open
left_open-closed_first None run division = refl
left_open-closed_first (Some reason) run division = refl

left_open-with_cuts : {P : Type 0} (cuts : Cuts) (run : List (Filed P)) (item : Item P) (division : Division P) → (with_cuts cuts run item division).left_open ≡ division.left_open
left_open-with_cuts cuts run item division =
    left_open-closed_first cuts.before run (closed_first cuts.after (joined cuts.before run item) division)
    ∙ left_open-closed_first cuts.after (joined cuts.before run item) division

pub file_of-left_open : {P : Type 0} (limits : Limits) (run : List (Filed P)) (items : List (Item P)) → file_after limits (file_of run) items ≡ file_of (divided_from limits run items).left_open
file_of-left_open limits run [] = refl
file_of-left_open {P} limits run (item ∷ items) =
    ap (λ (file : Option OpenFile). file_after limits file items) (file_of-run_after limits run item)
    ∙ file_of-left_open limits (run_after (cuts_at limits run item) run item) items
    ∙ ap (λ (open_run : List (Filed P)). file_of open_run) (sym (left_open-with_cuts (cuts_at limits run item) run item (divided_from limits (run_after (cuts_at limits run item) run item) items)))
