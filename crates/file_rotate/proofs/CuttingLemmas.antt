-- What is kept of an open file is that of its run, at each item, so that a cutter's answers mark the division.
use Rattle.std.proofs.Common.{◌≡◌, ℕ, List, [], ◌∷◌, ◌++◌, length-append, Option, Some, None, refl, sym, ap, ◌∙◌, arith}
use Rattle.std.proofs.lemmas.List.{append-nil}
use Rattle.std.proofs.lemmas.List.Sums.{sum_by-append, sum_by-cons}
use Rattle.std.proofs.lemmas.Option.{same_Some}
use Rattle.cdr_file.specs.declared.closure.ClosureReason.{ClosureReason}
use Rattle.cdr_file.specs.declared.filed_kind.FiledKind.{FiledKind}
use Rattle.file_rotate.specs.declared.limits.Limits.{Limits}
use Rattle.file_rotate.specs.declared.open_file.OpenFile.{OpenFile}
use Rattle.file_rotate.specs.Cutting.{answers_from, file_of, file_with, item_cuts, item_file, limit_reached, marked_from, with_record}
use Rattle.file_rotate.specs.Division.{Cuts, cdr_length, cuts_at, divided_from, Division, ends_after, ends_before, run_limit_reached, joined, run_after, still, with_cuts}
use Rattle.file_rotate.specs.Items.{Filed, Item, Record, Tick, Close}

same_file : (kind : FiledKind) (opened : ℕ) (count count' octets octets' : ℕ) → count ≡ count' → octets ≡ octets'
    → ◌≡◌ {A = OpenFile} (record { kind = kind; opened = opened; count = count; octets = octets }) (record { kind = kind; opened = opened; count = count'; octets = octets' })
same_file kind opened count count' octets octets' c o = λ i. record { kind = kind; opened = opened; count = c i; octets = o i }

-- one more record
file_of-grown : {P : Type 0} (run : List (Filed P)) (filed : Filed P) → file_of (run ++ filed ∷ []) ≡ Some (with_record (file_of run) filed.kind filed.octets filed.moment)
file_of-grown [] filed = ap (λ (file : OpenFile). Some file) (same_file filed.kind filed.moment _ _ _ _ refl (omega (arith, sum_by-cons cdr_length filed [])))
file_of-grown (first ∷ later) filed =
    ap (λ (file : OpenFile). Some file) (same_file first.kind first.moment _ _ _ _ (omega (arith, length-append later (filed ∷ []))) (omega (arith, sum_by-append cdr_length (first ∷ later) (filed ∷ []), sum_by-cons cdr_length filed [])))

file_of-still : {P : Type 0} (reason : Option ClosureReason) (run : List (Filed P)) → file_of (still reason run []) ≡ still reason (file_of run) None
file_of-still None run = refl
file_of-still (Some reason) run = refl

-- the limits are those of the run
run_limit_reached-kept : {P : Type 0} (limits : Limits) (run : List (Filed P)) (file : OpenFile) → file_of run ≡ Some file → run_limit_reached limits run ≡ limit_reached limits file
unfolding run_limit_reached
run_limit_reached-kept limits [] file e = cc
run_limit_reached-kept limits (first ∷ later) file e = ap (λ (f : OpenFile). limit_reached limits f) (same_Some _ _ e)

ends_before-kept : {P : Type 0} (limits : Limits) (run : List (Filed P)) (item : Item P) → ends_before limits run item ≡ (item_cuts limits (file_of run) item).before
unfolding ends_before
ends_before-kept limits [] (Record filed) = refl
ends_before-kept limits [] (Tick moment) = refl
ends_before-kept limits [] (Close moment) = refl
ends_before-kept limits (first ∷ later) (Record filed) = refl
ends_before-kept limits (first ∷ later) (Tick moment) = refl
ends_before-kept limits (first ∷ later) (Close moment) = refl

-- the file that has a record is that of the run which has it
file_of-joined : {P : Type 0} (limits : Limits) (run : List (Filed P)) (filed : Filed P)
    → file_of (joined (ends_before limits run (Record filed)) run (Record filed)) ≡ Some (file_with (file_of run) filed.kind filed.octets filed.moment)
file_of-joined limits run filed =
    file_of-grown (still (ends_before limits run (Record filed)) run []) filed
    ∙ ap (λ (f : Option OpenFile). Some (with_record f filed.kind filed.octets filed.moment))
    (file_of-still (ends_before limits run (Record filed)) run
    ∙ ap (λ (reason : Option ClosureReason). still reason (file_of run) None) (ends_before-kept limits run (Record filed)))

ends_after-kept : {P : Type 0} (limits : Limits) (run : List (Filed P)) (item : Item P)
    → ends_after limits (joined (ends_before limits run item) run item) item ≡ (item_cuts limits (file_of run) item).after
unfolding ends_after
ends_after-kept limits run (Record filed) = run_limit_reached-kept limits (joined (ends_before limits run (Record filed)) run (Record filed)) _ (file_of-joined limits run filed)
ends_after-kept limits run _ = refl

pub same_cuts : (before before' after after' : Option ClosureReason) → before ≡ before' → after ≡ after'
    → ◌≡◌ {A = Cuts} (record { before = before; after = after }) (record { before = before'; after = after' })
same_cuts before before' after after' b a = λ i. record { before = b i; after = a i }

-- a cutter's answer cuts where the run of the open file ends
pub cuts-kept : {P : Type 0} (limits : Limits) (run : List (Filed P)) (item : Item P) → item_cuts limits (file_of run) item ≡ cuts_at limits run item
cuts-kept limits run item = sym (same_cuts _ _ _ _ (ends_before-kept limits run item) (ends_after-kept limits run item))

-- what is left open at a mark
mark-kept : {P : Type 0} (limits : Limits) (run : List (Filed P)) (reason : Option ClosureReason) (item : Item P) → ends_before limits run item ≡ reason
    → still reason (file_of run) None ≡ file_of (still (ends_before limits run item) run [] ++ [])
mark-kept limits run reason item e =
    ap (λ (r : Option ClosureReason). still r (file_of run) None) (sym e)
    ∙ sym (file_of-still (ends_before limits run item) run)
    ∙ ap (λ (r : List (Filed _)). file_of r) (sym (append-nil (still (ends_before limits run item) run [])))

-- what is kept after an item is that of the run after it
pub file_of-run_after : {P : Type 0} (limits : Limits) (run : List (Filed P)) (item : Item P)
    → item_file limits (file_of run) item ≡ file_of (run_after (cuts_at limits run item) run item)
unfolding ends_after
file_of-run_after limits run (Record filed) =
    sym (file_of-still (ends_after limits (joined (ends_before limits run (Record filed)) run (Record filed)) (Record filed)) (joined (ends_before limits run (Record filed)) run (Record filed))
    ∙ ap (λ (reason : Option ClosureReason). still reason (file_of (joined (ends_before limits run (Record filed)) run (Record filed))) None) (ends_after-kept limits run (Record filed))
    ∙ ap (λ (file : Option OpenFile). still (item_cuts limits (file_of run) (Record filed)).after file None) (file_of-joined limits run filed))
file_of-run_after limits run (Tick moment) = mark-kept limits run _ (Tick moment) (ends_before-kept limits run (Tick moment))
file_of-run_after limits run (Close moment) = mark-kept limits run _ (Close moment) (ends_before-kept limits run (Close moment))

-- the answers from an open run on mark the division from it on
pub marked_is_divided : {P : Type 0} (limits : Limits) (run : List (Filed P)) (items : List (Item P)) → marked_from run (answers_from limits (file_of run) items) ≡ divided_from limits run items
marked_is_divided limits run [] = refl
marked_is_divided {P} limits run (item ∷ items) =
    ap (λ (cuts : Cuts). with_cuts cuts run item (marked_from (run_after cuts run item) (answers_from limits (item_file limits (file_of run) item) items))) (cuts-kept limits run item)
    ∙ ap (λ (file : Option OpenFile). with_cuts (cuts_at limits run item) run item (marked_from (run_after (cuts_at limits run item) run item) (answers_from limits file items))) (file_of-run_after limits run item)
    ∙ ap (λ (division : Division P). with_cuts (cuts_at limits run item) run item division) (marked_is_divided limits (run_after (cuts_at limits run item) run item) items)
