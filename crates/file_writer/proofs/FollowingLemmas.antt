-- How a stream's file and what is kept of it go on through closings and records.
use Rattle.std.proofs.Common.{◌≡◌, ◌≢◌, ℕ, max, ◌+◌, ◌≤◌, Bool, if◌then◌else◌, IsTrue, IfOk, OnOk, List, [], ◌∷◌, ◌++◌, length, Option, None, Some, Result, sym, ap, arith}
use Rattle.file_writer.proofs.Names.{append-nil, appending, appending_of, beginning, beginning_of, body_behind, BodyWhere, Call, calls_at, cdr_octets, closed_by, closed_file, closed_progress, ClosesOpen, closing, closing_of, ClosureReason, Cuts, Ending, facts_of, facts_of_one, facts_with, file_octets, Filed, FiledKind, FiledRecord, FileName, FileSettings, Follows, Ghosts, greatest_in, greatest_in-append, growing_of, grown, grown_facts, GrownWhere, is_sealed, IsErr, IsErrAnd, IsFiledKind, IsGrown, IsUp, item_cuts, item_file, kind_change, Limits, Makes, map-append, mark_cuts, mark_file, mark_item, mark_reason, name_in, nat_tests, ne_eqb, number_in, OpenFile, Pairs, Progress, ReadyWhere, Record, record_of, run_after, run_octets, run_records, RunFacts, same_Some, SealedFile, Seals, seals, ShelfFault, Stays, still, StillOpen, UnsealedFile, Went, with_record, Writes}
use Rattle.file_writer.proofs.MakingLemmas.{all_sealed, makes_as}
use Rattle.file_writer.proofs.WritingLemmas.{own_number}

-- ---- calls that are the same where the shelf tells its files

makes_same : {A : Type 0} (tells : Ghosts A) (xs ys : List Call) (ended : Ending) (old new : A)
    → length xs ≡ length ys → (IsTrue tells.tells_files → xs ≡ ys)
    → Makes tells xs ended old new → Makes tells ys ended old new
makes_same tells xs ys ended old new long same made = search (arith, makes_as)

-- ---- closing

long_if : (b : Bool) (f g : SealedFile) → length (if b then [] else Writes ∷ Writes ∷ Seals f ∷ [])
    ≡ length (if b then [] else Writes ∷ Writes ∷ Seals g ∷ [])
long_if b f g = grind arith

closing_long : (settings : FileSettings) (s : ℕ) (file : Progress) (u : Option UnsealedFile)
    (reason : Option ClosureReason) (run : List (Filed (List ℕ)))
    → length (closing_of settings s file u reason)
    ≡ length (closing settings s file.sealed (file.closed + 1) reason run)
closing_long settings s file u reason run = grind (arith, nat_tests, long_if)

file_is : (settings : FileSettings) (name : FileName) (reason : ClosureReason) (growing : Option RunFacts)
    (run : List FiledRecord) (u : Option UnsealedFile)
    → growing ≡ growing_of run → ClosesOpen (Some reason) growing → body_behind growing u ≡ run_octets run
    → closed_file settings name reason growing u
    ≡ record { name = name; octets = file_octets run name.sequence reason settings }
file_is settings name reason growing run u e opens body = grind (arith, same_Some)

-- the calls of a closing are those for the run
pub makes_closing : {A : Type 0} (tells : Ghosts A) (settings : FileSettings) (s : ℕ) (run : List (Filed (List ℕ)))
    (file : Progress) (reason : Option ClosureReason) (ended : Ending) (old new : A)
    → Follows tells s run file old → ClosesOpen reason file.growing
    → Makes tells (closing_of settings s file (tells.unsealed old s) reason) ended old new
    → Makes tells (closing settings s file.sealed (file.closed + 1) reason run) ended old new
makes_closing tells settings s run file reason ended old new follows opens made =
    search (arith, makes_same, closing_long, follows.body)

pub none_body : (b : Bool) (u : Option UnsealedFile) → BodyWhere b None [] u
none_body b u = grind arith

pub close_follows : {A : Type 0} (tells : Ghosts A) (s : ℕ) (run : List (Filed (List ℕ))) (file later : Progress)
    (reason : Option ClosureReason) (old new : A)
    → Follows tells s run file old → later ≡ closed_progress reason file
    → (IsTrue tells.tells_files → StillOpen reason file (tells.unsealed old s) (tells.unsealed new s))
    → Follows tells s (still reason run []) later new
close_follows tells s run file later reason old new follows e opens = grind (arith, nat_tests)

pub closed_count : (reason : Option ClosureReason) (file later : Progress) → later ≡ closed_progress reason file
    → later.closed ≡ closed_by reason file.closed
closed_count reason file later e = grind arith

pub closed_sealed : (reason : Option ClosureReason) (file later : Progress) → later ≡ closed_progress reason file
    → later.sealed ≡ file.sealed
closed_sealed reason file later e = grind arith

-- ---- a record more

-- the laws of what a header says of records
pub record FactsLaws : Type 0 where
  pub first : (filed : FiledRecord) → facts_of (filed ∷ []) ≡ facts_of_one filed
  pub more : (run : List FiledRecord) (last : FiledRecord) → run ≢ [] → facts_of (run ++ last ∷ [])
      ≡ facts_with (facts_of run) last
  pub growth : (run : List FiledRecord) (last : FiledRecord) → run_octets (run ++ last ∷ [])
      ≡ run_octets run ++ cdr_octets last

growing_grown : FactsLaws → (rs : List FiledRecord) (r : FiledRecord) → Some (grown_facts (growing_of rs) r)
    ≡ growing_of (rs ++ r ∷ [])
growing_grown laws rs r = grind arith

grown_body : FactsLaws → (b : Bool) (name : FileName) (growing : Option RunFacts) (rs : List FiledRecord)
    (r : FiledRecord) (old new : Option UnsealedFile)
    → BodyWhere b growing (run_octets rs) old → GrownWhere b name growing r old new
    → BodyWhere b (Some (grown_facts growing r)) (run_octets (rs ++ r ∷ [])) new
grown_body laws b name growing rs r old new body has_grown = grind arith

pub append_follows : {A : Type 0} (tells : Ghosts A) (s : ℕ) (run : List (Filed (List ℕ))) (filed : Filed (List ℕ))
    (file later : Progress) (old new : A) → FactsLaws
    → Follows tells s run file old → later ≡ grown file (record_of filed)
    → (IsTrue tells.tells_files → IsGrown s file (record_of filed) (tells.unsealed old s) (tells.unsealed new s))
    → Follows tells s (run ++ filed ∷ []) later new
append_follows tells s run filed file later old new laws follows e has_grown =
    search (arith, map-append, growing_grown, grown_body, follows.body)

beginning_is : (growing : Option RunFacts) (run : List (Filed (List ℕ))) → growing ≡ growing_of (run_records run)
    → beginning_of growing ≡ beginning run
beginning_is growing run e = grind arith

-- the calls for a record are those for the run
pub appending_is : {A : Type 0} (tells : Ghosts A) (s : ℕ) (run : List (Filed (List ℕ))) (filed : Filed (List ℕ))
    (file : Progress) (shelf : A) → Follows tells s run file shelf
    → appending_of file ≡ appending file.sealed (file.closed + 1) run (Record filed)
appending_is tells s run filed file shelf follows = cc (beginning_is file.growing run follows.kept)

-- ---- what is sealed

name_of_closed : (settings : FileSettings) (name : FileName) (reason : ClosureReason) (growing : Option RunFacts)
    (u : Option UnsealedFile) → (closed_file settings name reason growing u).name ≡ name
name_of_closed settings name reason growing u = grind arith

greatest_if : (b : Bool) (s n : ℕ) (f : SealedFile) → number_in s f.name ≡ n
    → greatest_in s (seals (if b then [] else Writes ∷ Writes ∷ Seals f ∷ [])) ≤ n
greatest_if b s n f e = grind arith

sealed_by_closing : (settings : FileSettings) (s t : ℕ) (file : Progress) (u : Option UnsealedFile)
    (reason : Option ClosureReason)
    → greatest_in t (seals (closing_of settings s file u reason))
    ≤ number_in t (record { stream = s; sequence = closed_by reason file.closed })
sealed_by_closing settings s t file u reason = grind (arith, greatest_if, name_of_closed)

greatest_closing : (settings : FileSettings) (s : ℕ) (file : Progress) (u : Option UnsealedFile)
    (reason : Option ClosureReason) (files : List SealedFile)
    → greatest_in s files ≤ max file.closed file.sealed
    → greatest_in s (files ++ seals (closing_of settings s file u reason))
    ≤ max (closed_progress reason file).closed (closed_progress reason file).sealed
greatest_closing settings s file u reason files h = grind (arith, greatest_in-append, sealed_by_closing, own_number)

other_number : (s t n : ℕ) → t ≢ s → number_in t (record { stream = s; sequence = n }) ≡ 0
other_number s t n h = ap (λ (b : Bool). if b then n else 0) (ne_eqb s t (λ e. h (sym e)))

greatest_elsewhere : (settings : FileSettings) (s t : ℕ) (file : Progress) (u : Option UnsealedFile)
    (reason : Option ClosureReason) (files : List SealedFile) → t ≢ s
    → greatest_in t (files ++ seals (closing_of settings s file u reason)) ≡ greatest_in t files
greatest_elsewhere settings s t file u reason files h =
    search (arith, greatest_in-append, sealed_by_closing, other_number)

seals_if : (b : Bool) (growing : Option RunFacts)
    → seals (if b then [] else beginning_of growing ++ Writes ∷ Writes ∷ []) ≡ []
seals_if b growing = grind arith

-- ---- a stream stays up

pub close_up : {A : Type 0} (tells : Ghosts A) (settings : FileSettings) (s : ℕ) (file later : Progress)
    (reason : Option ClosureReason) (old new : A)
    → IsUp tells s file old → later ≡ closed_progress reason file
    → (IsTrue tells.tells_files → StillOpen reason file (tells.unsealed old s) (tells.unsealed new s))
    → Makes tells (closing_of settings s file (tells.unsealed old s) reason) Went old new → IsUp tells s later new
close_up tells settings s file later reason old new up e opens made =
    search (arith, all_sealed, greatest_closing, up.fresh, up.ready)

grown_ready : (b : Bool) (name : FileName) (growing : Option RunFacts) (r : FiledRecord)
    (old new : Option UnsealedFile) → GrownWhere b name growing r old new
    → ReadyWhere b name (Some (grown_facts growing r)) new
grown_ready b name growing r old new h = grind arith

same_files : {A : Type 0} (tells : Ghosts A) (file : Progress) (old new : A)
    → Makes tells (appending_of file) Went old new → IsTrue tells.tells_files → tells.files new ≡ tells.files old
same_files tells file old new made told = search (arith, all_sealed, seals_if, append-nil)

pub append_up : {A : Type 0} (tells : Ghosts A) (s : ℕ) (file later : Progress) (r : FiledRecord) (old new : A)
    → IsUp tells s file old → later ≡ grown file r
    → (IsTrue tells.tells_files → IsGrown s file r (tells.unsealed old s) (tells.unsealed new s))
    → Makes tells (appending_of file) Went old new → IsUp tells s later new
append_up tells s file later r old new up e has_grown made =
    rw e (record {
      fresh = λ told. rw (same_files tells file old new made told) (up.fresh told);
      ready = λ told. grown_ready (is_sealed file) (name_in s file) file.growing r _ _ (has_grown told);
    })

-- ---- other streams stay

pub close_stays : {A : Type 0} (tells : Ghosts A) (settings : FileSettings) (s t : ℕ) (file : Progress)
    (reason : Option ClosureReason) (old new : A) → t ≢ s
    → IsTrue tells.tells_files → tells.unsealed new t ≡ tells.unsealed old t
    → Makes tells (closing_of settings s file (tells.unsealed old s) reason) Went old new → Stays tells t old new
close_stays tells settings s t file reason old new h told same made = search (arith, all_sealed, greatest_elsewhere)

pub append_stays : {A : Type 0} (tells : Ghosts A) (t : ℕ) (file : Progress) (old new : A) → IsTrue tells.tells_files
    → tells.unsealed new t ≡ tells.unsealed old t
    → Makes tells (appending_of file) Went old new → Stays tells t old new
append_stays tells t file old new told same made = record {
  unsealed = same;
  greatest = ap (λ (files : List SealedFile). greatest_in t files) (same_files tells file old new made told);
}

pub stays_then : {A : Type 0} (tells : Ghosts A) (t : ℕ) (old mid new : A) → Stays tells t old mid
    → Stays tells t mid new → Stays tells t old new
stays_then tells t old mid new first next = search arith

-- ---- what a cutter keeps

pub pairs_closed : (reason : Option ClosureReason) (kept : Option OpenFile) (file later : Progress)
    → Pairs kept file.growing → later ≡ closed_progress reason file → Pairs (still reason kept None) later.growing
pairs_closed reason kept file later pairs e = grind arith

pairs_with : (kept : Option OpenFile) (growing : Option RunFacts) (r : FiledRecord) → Pairs kept growing
    → IsFiledKind r.kind
    → Pairs (Some (with_record kept r.kind (length r.octets) r.moment)) (Some (grown_facts growing r))
pairs_with kept growing r pairs kind = grind arith

pub pairs_grown : (kept : Option OpenFile) (file later : Progress) (r : FiledRecord) → Pairs kept file.growing
    → IsFiledKind r.kind → later ≡ grown file r
    → Pairs (Some (with_record kept r.kind (length r.octets) r.moment)) later.growing
pairs_grown kept file later r pairs kind e = rw e (pairs_with kept file.growing r pairs kind)

-- where a function ended, it has no answer
pub no_answer : {T : Type 0} (q : Result T ShelfFault) (e : ShelfFault) (P : T → Type 0) → IsErr q
    × IsErrAnd q (λ x. x ≡ e) → IfOk q P
no_answer q e P h = grind arith

-- ---- an item

-- at a Tick or a Close, nothing is closed behind it
pub mark_cuts_is : (limits : Limits) (file : Option OpenFile) (closes : Bool) (moment : ℕ)
    → item_cuts {P = List ℕ} limits file (mark_item closes moment) ≡ mark_cuts limits file closes moment
mark_cuts_is limits file closes moment = grind arith

pub mark_file_is : (limits : Limits) (file : Option OpenFile) (closes : Bool) (moment : ℕ)
    → item_file {P = List ℕ} limits file (mark_item closes moment) ≡ mark_file limits file closes moment
mark_file_is limits file closes moment = grind arith

abbrev pub only_before : Option ClosureReason → Cuts
only_before reason = record { before = reason; after = None }

pub mark_calls : (settings : FileSettings) (s sealed closed : ℕ) (reason : Option ClosureReason)
    (run : List (Filed (List ℕ))) (closes : Bool) (moment : ℕ)
    → closing settings s sealed (closed + 1) reason run ≡ calls_at settings s sealed (only_before reason) closed run
    (mark_item closes moment)
mark_calls settings s sealed closed reason run closes moment = grind (arith, append-nil)

pub mark_run : (reason : Option ClosureReason) (run : List (Filed (List ℕ))) (closes : Bool) (moment : ℕ)
    → still reason run [] ≡ run_after (only_before reason) run (mark_item closes moment)
mark_run reason run closes moment = grind (arith, append-nil)

closes_some : (reason : Option ClosureReason) (run : RunFacts) → ClosesOpen reason (Some run)
closes_some reason run = grind arith

-- what isn't open isn't closed
pub mark_closes : (limits : Limits) (kept : Option OpenFile) (closes : Bool) (moment : ℕ) (growing : Option RunFacts)
    (reason : Option ClosureReason)
    → Pairs kept growing → reason ≡ mark_reason limits kept closes moment → ClosesOpen reason growing
mark_closes limits kept closes moment growing reason pairs e = grind (arith, closes_some)

pub record_closes : (kept : Option OpenFile) (kind : FiledKind) (growing : Option RunFacts)
    (reason : Option ClosureReason)
    → Pairs kept growing → reason ≡ kind_change kept kind → ClosesOpen reason growing
record_closes kept kind growing reason pairs e = grind (arith, closes_some)

pub grown_closes : (file later : Progress) (r : FiledRecord) (reason : Option ClosureReason) → later ≡ grown file r
    → ClosesOpen reason later.growing
grown_closes file later r reason e = rw e (closes_some reason (grown_facts file.growing r))

pub no_result : {T : Type 0} (q : Result T ShelfFault) (e : ShelfFault) (P : Type 0) → IsErr q
    × IsErrAnd q (λ x. x ≡ e) → OnOk q P
no_result q e P h = grind arith
