-- What stands of the files of items after some of the calls for more of them, and when a writer recovers on a shelf that
-- holds the first ones.
use Rattle.std.proofs.Common.{◌≡◌, ℕ, suc, max, min, ◌+◌, ◌-◌, ◌<◌, ◌≤◌, Bool, ◌==◌, if◌then◌else◌, List, [], ◌∷◌, ◌++◌, length, take, drop, refl, sym, ap, ◌∙◌, arith, append_assoc, length-drop}
use Rattle.file_writer.proofs.Names.{append-nil, Call, calls_of, closed_of, ClosedRun, Division, DivisionGoesOn, files_from, FileSettings, greatest_in, greatest_in-append, in_stream, in_stream-append, Item, later_division, number_in, SealedFile, seals, Settings, stream_count, stream_division, stream_files, take-add, take-append-add, take-append-drop, take-append_seam, take_min}
use Rattle.file_writer.specs.Holding.{HoldsOf, files_after}
use Rattle.file_writer.proofs.CallsLemmas.{drop-append, in_stream-seals, seals-calls_of}
use Rattle.file_writer.proofs.FilesLemmas.{closed_of-append, division-append, files_from-append, length-files_from}
use Rattle.file_writer.proofs.WritingLemmas.{own_number}

-- ---- lists

-- a list goes on from where another one is dropped
take_on : {A : Type 0} (xs ys made left : List A) (k : ℕ) → made ++ left ≡ drop k xs → take k (xs ++ ys) ++ made
    ≡ take (k + length made) (xs ++ ys)
take_on xs ys made left k e = search (arith, take-add, drop-append, append_assoc, take-append_seam)

take_more : {A : Type 0} (front xs ys made left : List A) (k : ℕ) → made ++ left ≡ drop k xs
    → take (length front + k) (front ++ (xs ++ ys)) ++ made
    ≡ take (length front + k + length made) (front ++ (xs ++ ys))
take_more front xs ys made left k e =
    let same : length front + k + length made ≡ length front + (k + length made) = omega arith in
    search (arith, take-append-add, append_assoc, take_on)

-- ---- files

-- the files of items and of more of them
more_files : DivisionGoesOn → (settings : Settings) (closed : ℕ → ℕ) (items more : List Item) (s : ℕ)
    → files_after settings closed s (items ++ more) ≡ files_after settings closed s items
    ++ files_from settings.file s (closed s + closed_of settings s items + 1)
    (later_division settings s items more).closed
more_files law settings closed items more s =
    let first : List (ClosedRun (List ℕ)) = (stream_division settings s items).closed in
    let number : closed s + 1 + length first ≡ closed s + closed_of settings s items + 1 = omega arith in
    ap (λ (d : Division (List ℕ)). files_from settings.file s (closed s + 1) d.closed)
    (division-append law settings s items more)
    ∙ files_from-append settings.file s (closed s + 1) first (later_division settings s items more).closed
    ∙ (λ i. files_from settings.file s (closed s + 1) first
    ++ files_from settings.file s (number i) (later_division settings s items more).closed)

-- the files of items, of more of them, and of the rest
three_parts : DivisionGoesOn → (settings : Settings) (closed : ℕ → ℕ) (items more rest : List Item) (s : ℕ)
    → (later : List SealedFile) × (files_after settings closed s ((items ++ more) ++ rest)
    ≡ files_after settings closed s items
    ++ (files_from settings.file s (closed s + closed_of settings s items + 1)
    (later_division settings s items more).closed ++ later))
three_parts law settings closed items more rest s =
    let middle : List SealedFile = files_from settings.file s (closed s + closed_of settings s items + 1)
    (later_division settings s items more).closed in
    let later : List SealedFile = files_from settings.file s (closed s + closed_of settings s (items ++ more) + 1)
    (later_division settings s (items ++ more) rest).closed in (
      later,
      more_files law settings closed (items ++ more) rest s
          ∙ ap (λ (files : List SealedFile). files ++ later) (more_files law settings closed items more s)
          ∙ append_assoc (files_after settings closed s items) middle later,
    )

module _ (law : DivisionGoesOn) (settings : Settings) (closed sealed : ℕ → ℕ) (before : ℕ → List SealedFile)
    (items more rest : List Item) (files : List SealedFile)
    (holds : (s : ℕ) → s < stream_count → HoldsOf settings closed before ((items ++ more) ++ rest) files s
    (max (sealed s) (closed s + closed_of settings s items) - closed s)) where
  -- how many files of a stream stand before any call, and how many of the later ones are sealed
  abbrev stand : ℕ → ℕ
  stand s = max (sealed s) (closed s + closed_of settings s items) - closed s

  abbrev past : ℕ → ℕ
  past s = sealed s - (closed s + closed_of settings s items)

  abbrev all : List Item
  all = (items ++ more) ++ rest

  abbrev calls : List Call
  calls = calls_of settings closed sealed items more

  abbrev middle : ℕ → List SealedFile
  middle s =
      files_from settings.file s (closed s + closed_of settings s items + 1) (later_division settings s items more).closed

  made_of : (made left : List Call) (s : ℕ) → s < stream_count → calls ≡ made ++ left
      → in_stream s (seals made) ++ in_stream s (seals left) ≡ drop (past s) (middle s)
  made_of made left s h e = cc (in_stream-seals s made left, seals-calls_of law settings closed sealed items more s h)

  -- after some of the calls
  some_stand : (made left : List Call) (s : ℕ) → s < stream_count → calls ≡ made ++ left
      → HoldsOf settings closed before all (files ++ seals made) s (stand s + length (in_stream s (seals made)))
  some_stand made left s h e =
      let parts = three_parts law settings closed items more rest s in
      let front : List SealedFile = files_after settings closed s items in
      let new : List SealedFile = in_stream s (seals made) in
      let long : length front ≡ closed_of settings s items = search (arith, length-files_from) in
      let count : stand s ≡ length front + past s = omega (arith, long) in
      in_stream-append s files (seals made) ∙ ap (λ (fs : List SealedFile). fs ++ new) (holds s h)
      ∙ append_assoc (before s) (take (stand s) (files_after settings closed s all)) new
      ∙ (λ i. before s ++ (take (count i) (parts.1 i) ++ new))
      ∙ ap (λ (fs : List SealedFile). before s ++ fs) (take_more front (middle s) parts.0 new
      (in_stream s (seals left)) (past s) (made_of made left s h e))
      ∙ (λ i. before s ++ take (sym count i + length new) (sym parts.1 i))

  pub begun : (k s : ℕ) → s < stream_count
      → HoldsOf settings closed before all (files ++ seals (take k calls)) s
      (stand s + length (in_stream s (seals (take k calls))))
  begun k s h = some_stand (take k calls) (drop k calls) s h (sym (take-append-drop k calls))

  -- after all of them
  pub all_stand : (later : ℕ → ℕ) (new : List SealedFile) → ((s : ℕ) → s < stream_count → later s ≡ sealed s)
      → new ≡ files ++ seals calls → (s : ℕ) → s < stream_count
      → HoldsOf settings closed before all new s
      (max (later s) (closed s + closed_of settings s (items ++ more)) - closed s)
  all_stand later new same e s h =
      let made : List SealedFile = in_stream s (seals calls) in
      let count : stand s + length made
      ≡ max (later s) (closed s + closed_of settings s (items ++ more)) - closed s =
      omega (
        arith,
        same s h,
        closed_of-append law settings s items more,
        length-drop (past s) (middle s),
        ap length (sym (append-nil made) ∙ made_of calls [] s h (sym (append-nil calls))),
        length-files_from settings.file s (closed s + closed_of settings s items + 1)
            (later_division settings s items more).closed,
      ) in
      ap (λ (fs : List SealedFile). in_stream s fs) e ∙ some_stand calls [] s h (sym (append-nil calls))
      ∙ ap (λ (n : ℕ). before s ++ take n (files_after settings closed s all)) count

-- ---- the greatest number of a stream is that of its own files

own_first : (t : Bool) (s : ℕ) (f : SealedFile) (files : List SealedFile)
    → number_in s f.name ≡ (if t then f.name.sequence else 0)
    → greatest_in s (if t then f ∷ files else files) ≡ max (number_in s f.name) (greatest_in s files)
own_first t s f files e = grind arith

greatest_own : (s : ℕ) (files : List SealedFile) → greatest_in s (in_stream s files) ≡ greatest_in s files
greatest_own s [] = refl
greatest_own s (f ∷ files) = cc (own_first (f.name.stream == s) s f (in_stream s files) refl, greatest_own s files)

-- files that are numbered one after the other
counted : (settings : FileSettings) (s before n : ℕ) (runs : List (ClosedRun (List ℕ)))
    → max (greatest_in s (take n (files_from settings s (before + 1) runs))) before ≡ before + min n (length runs)
counted settings s before (suc n) (run ∷ runs) =
    omega (arith, own_number s (before + 1), counted settings s (before + 1) n runs)
counted settings s before _ _ = omega arith

-- the first files of a stream are as many as the greatest number among them
pub first_counted : (settings : Settings) (s m : ℕ) (items : List Item) (files : List SealedFile)
    → in_stream s files ≡ take m (stream_files settings s items) → m ≤ closed_of settings s items
    → greatest_in s files ≡ m
first_counted settings s m items files first h =
    omega (
      arith,
      h,
      greatest_own s files,
      ap (greatest_in s) first,
      counted settings.file s 0 m (stream_division settings s items).closed,
    )

-- A shelf holds the first files, however many: then it holds those up to the greatest number that is found there.
pub holds_found : (settings : Settings) (closed : ℕ → ℕ) (before : ℕ → List SealedFile) (all : List Item)
    (sealed : List SealedFile) (s n : ℕ) → greatest_in s (before s) ≤ closed s
    → HoldsOf settings closed before all sealed s n
    → HoldsOf settings closed before all sealed s
    (max (greatest_in s sealed) (closed s + closed_of settings s []) - closed s)
holds_found settings closed before all sealed s n low stands =
    let runs : List (ClosedRun (List ℕ)) = (stream_division settings s all).closed in
    let files : List SealedFile = files_after settings closed s all in
    let count : min n (length runs) ≡ max (greatest_in s sealed) (closed s + 0) - closed s =
    omega (
      arith,
      low,
      greatest_own s sealed,
      ap (greatest_in s) stands,
      greatest_in-append s (before s) (take n files),
      counted settings.file s (closed s) n runs,
    ) in
    stands ∙ ap (λ (fs : List SealedFile). before s ++ fs) (sym (take_min n files)
    ∙ ap (λ (k : ℕ). take (min n k) files) (length-files_from settings.file s (closed s + 1) runs)
    ∙ ap (λ (k : ℕ). take k files) count)
