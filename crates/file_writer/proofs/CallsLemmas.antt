-- What calls for items seal: of each stream the files that the items close, but for those that are sealed already,
-- which get no call.
use Rattle.std.proofs.Common.{◌≡◌, ◌≢◌, ℕ, zero, suc, ◌+◌, ◌-◌, ◌≤◌, ◌<◌, Bool, true, false, nat_le, if◌then◌else◌, List, [], ◌∷◌, ◌++◌, length, take, drop, Option, refl, sym, ap, ◌∙◌, subst, arith, append_assoc, max}
use Rattle.file_writer.proofs.Names.{All-append, All-cons, All-drop, All-head, All-nil, All-tail, append-nil, appending, AreOfStreams, Call, calls_at, calls_below, calls_from, calls_of, cases_eq, closed_by, closed_first, closed_of, ClosedRun, closing, ClosureReason, Cuts, cuts_at, divided_from, Division, DivisionGoesOn, drop-nil, Filed, files_from, FileSettings, flat_map-append, in_stream, in_stream-append, Item, later_division, leb-false, leb-true, nat_tests, run_after, SealedFile, Seals, seals, Settings, stream_calls, stream_count, stream_division, stream_items, unless_sealed, with_cuts, Writes}
use Rattle.file_rotate.specs.Items as stream
use Rattle.file_writer.proofs.FilesLemmas.{closed_of-append, files_from-append, in_stream-other, in_stream-own, left_open-append, length-files_from}

pub seals-append : (xs ys : List Call) → seals (xs ++ ys) ≡ seals xs ++ seals ys
seals-append [] ys = refl
seals-append (Writes ∷ xs) ys = seals-append xs ys
seals-append (Seals file ∷ xs) ys = ap (λ (files : List SealedFile). file ∷ files) (seals-append xs ys)

-- ---- one item of a stream

none_if : (b : Bool) (calls : List Call) → seals calls ≡ [] → seals (if b then [] else calls) ≡ []
none_if b calls e = grind arith

seals-appending : (sealed sequence : ℕ) (run : List (Filed (List ℕ))) (item : stream.Item (List ℕ))
    → seals (appending sealed sequence run item) ≡ []
seals-appending sealed sequence run item = grind (arith, nat_tests, none_if)

-- where the file is sealed already, and where it is sealed now
closing-where : (sealed closed : ℕ) (file : SealedFile) (files : List SealedFile) (b : Bool)
    → nat_le (closed + 1) sealed ≡ b
    → seals (if b then [] else Writes ∷ Writes ∷ Seals file ∷ []) ++ drop (sealed - (closed + 1)) files
    ≡ drop (sealed - closed) (file ∷ files)
closing-where sealed closed file files true e =
    let past : sealed - closed ≡ suc (sealed - (closed + 1)) = omega (arith, leb-true (closed + 1) sealed e) in rw past
closing-where sealed closed file files false e =
    let none : sealed - closed ≡ 0 = omega (arith, leb-false (closed + 1) sealed e) in
    let next : sealed - (closed + 1) ≡ 0 = omega (arith, none) in rw (none, next)

closing-first : (settings : FileSettings) (s sealed closed : ℕ) (reason : Option ClosureReason)
    (run : List (Filed (List ℕ))) (division : Division (List ℕ))
    → seals (closing settings s sealed (closed + 1) reason run) ++ drop (sealed - closed_by reason closed)
    (files_from settings s (closed_by reason closed + 1) division.closed)
    ≡ drop (sealed - closed) (files_from settings s (closed + 1) (closed_first reason run division).closed)
closing-first settings s sealed closed reason run division = grind (arith, nat_tests, closing-where)

-- three lists of calls, of which the second seals nothing
seals-three : (xs ys zs : List Call) (files : List SealedFile) → seals ys ≡ [] → seals (xs ++ (ys ++ zs)) ++ files
    ≡ seals xs ++ (seals zs ++ files)
seals-three xs ys zs files e = search (arith, seals-append, append_assoc)

at-first : (settings : FileSettings) (s sealed closed : ℕ) (cuts : Cuts) (run : List (Filed (List ℕ)))
    (item : stream.Item (List ℕ)) (division : Division (List ℕ))
    → seals (calls_at settings s sealed cuts closed run item)
    ++ drop (sealed - closed_by cuts.after (closed_by cuts.before closed))
    (files_from settings s (closed_by cuts.after (closed_by cuts.before closed) + 1) division.closed)
    ≡ drop (sealed - closed) (files_from settings s (closed + 1) (with_cuts cuts run item division).closed)
at-first settings s sealed closed cuts run item division = search (arith, seals-three, seals-appending, closing-first)

-- ---- items of a stream

pub seals-calls_from : (settings : Settings) (s sealed closed : ℕ) (run : List (Filed (List ℕ)))
    (items : List (stream.Item (List ℕ)))
    → seals (calls_from settings s sealed closed run items)
    ≡ drop (sealed - closed) (files_from settings.file s (closed + 1) (divided_from settings.limits run items).closed)
seals-calls_from settings s sealed closed run [] = sym (drop-nil (sealed - closed))
seals-calls_from settings s sealed closed run (item ∷ items) =
    let cuts : Cuts = cuts_at settings.limits run item in
    let after : ℕ = closed_by cuts.after (closed_by cuts.before closed) in
    seals-append (calls_at settings.file s sealed cuts closed run item)
    (calls_from settings s sealed after (run_after cuts run item) items)
    ∙ ap (λ (files : List SealedFile). seals (calls_at settings.file s sealed cuts closed run item) ++ files)
    (seals-calls_from settings s sealed after (run_after cuts run item) items)
    ∙ at-first settings.file s sealed closed cuts run item (divided_from settings.limits (run_after cuts run item)
    items)

-- ---- some files, and later ones

pub drop-append : {A : Type 0} (n : ℕ) (xs ys : List A) → drop n (xs ++ ys) ≡ drop n xs ++ drop (n - length xs) ys
drop-append zero [] ys = refl
drop-append (suc n) [] ys = let all : suc n ≡ suc n - 0 = omega arith in λ i. drop (all i) ys
drop-append zero (x ∷ xs) ys = let none : 0 - suc (length xs) ≡ 0 = omega arith in rw none
drop-append (suc n) (x ∷ xs) ys = search (arith, (drop-append n xs ys))

in_turn : (file : FileSettings) (s sealed c : ℕ) (xs ys : List (ClosedRun (List ℕ)))
    → drop (sealed - c) (files_from file s (c + 1) xs)
    ++ drop (sealed - (c + length xs)) (files_from file s (c + length xs + 1) ys)
    ≡ drop (sealed - c) (files_from file s (c + 1) (xs ++ ys))
in_turn file s sealed c xs ys = search (arith, length-files_from, files_from-append, drop-append)

later-closed : DivisionGoesOn → (settings : Settings) (s : ℕ) (before xs ys : List Item)
    → (later_division settings s before (xs ++ ys)).closed ≡ (later_division settings s before xs).closed
    ++ (later_division settings s (before ++ xs) ys).closed
later-closed law settings s before xs ys = search (arith, flat_map-append, left_open-append)

-- ---- all streams

pub in_stream-seals : (s : ℕ) (xs ys : List Call)
    → in_stream s (seals (xs ++ ys)) ≡ in_stream s (seals xs) ++ in_stream s (seals ys)
in_stream-seals s xs ys = cc (seals-append xs ys, in_stream-append s (seals xs) (seals ys))

-- what the calls of the first streams come to, where those of one stream alone come to something
pub of_one : {X : Type 0} (of : List Call → List X) → of [] ≡ [] → ((xs ys : List Call) → of (xs ++ ys) ≡ of xs ++ of ys)
    → (settings : Settings) (closed sealed : ℕ → ℕ) (before : List Item) (item : Item) (n s : ℕ)
    → ((t : ℕ) → t ≢ s → of (stream_calls settings closed sealed before (item ∷ []) t) ≡ [])
    → (n ≤ s → of (calls_below n settings closed sealed before item) ≡ [])
    × (s < n → of (calls_below n settings closed sealed before item)
    ≡ of (stream_calls settings closed sealed before (item ∷ []) s))
unfolding calls_below
of_one of none both settings closed sealed before item zero s h = (λ g. none, λ g. absurd (omega arith))
of_one of none both settings closed sealed before item (suc n) s h =
    search (arith, (of_one of none both settings closed sealed before item n s h), cases_eq, append-nil)

pub seals-calls_of : DivisionGoesOn → (settings : Settings) (closed sealed : ℕ → ℕ) (before items : List Item) (s : ℕ)
    → s < stream_count
    → in_stream s (seals (calls_of settings closed sealed before items))
    ≡ drop (sealed s - (closed s + closed_of settings s before))
    (files_from settings.file s (closed s + closed_of settings s before + 1)
    (later_division settings s before items).closed)
seals-calls_of law settings closed sealed before [] s h =
    sym (drop-nil (sealed s - (closed s + closed_of settings s before)))
seals-calls_of law settings closed sealed before (item ∷ items) s h =
    let up : ℕ → ℕ = λ t. closed t + closed_of settings t before in
    let here : ℕ → List (ClosedRun (List ℕ)) = λ t. (later_division settings t before (item ∷ [])).closed in
    let later : List (ClosedRun (List ℕ)) = (later_division settings s (before ++ item ∷ []) items).closed in
    let sealed_by = λ (t : ℕ). seals-calls_from settings t (sealed t) (up t) (stream_division settings t before).left_open
    (stream_items settings.profile settings.rules t (item ∷ [])) in
    let first = (of_one (λ (calls : List Call). in_stream s (seals calls)) refl (in_stream-seals s) settings closed sealed
    before item stream_count s (λ t other. ap (in_stream s) (sealed_by t)
    ∙ in_stream-other settings.file s t (up t + 1) (sealed t - up t) (here t) other)).1 h in
    let next : closed s + closed_of settings s (before ++ item ∷ []) ≡ up s + length (here s) =
    omega (arith, closed_of-append law settings s before (item ∷ [])) in
    in_stream-seals s (calls_below stream_count settings closed sealed before item)
    (calls_of settings closed sealed (before ++ item ∷ []) items)
    ∙ (λ i. (first ∙ ap (in_stream s) (sealed_by s)
    ∙ in_stream-own settings.file s (up s + 1) (sealed s - up s) (here s)) i
    ++ seals-calls_of law settings closed sealed (before ++ item ∷ []) items s h i)
    ∙ ap (λ (n : ℕ). drop (sealed s - up s) (files_from settings.file s (up s + 1) (here s))
    ++ drop (sealed s - n) (files_from settings.file s (n + 1) later)) next
    ∙ in_turn settings.file s (sealed s) (up s) (here s) later
    ∙ ap (λ (runs : List (ClosedRun (List ℕ))). drop (sealed s - up s) (files_from settings.file s (up s + 1) runs))
    (sym (later-closed law settings s before (item ∷ []) items))

-- ---- the sealed files are of the streams that there are

abbrev IsOfStream : SealedFile → Type 0
IsOfStream file = file.name.stream < stream_count

files_of_stream : (settings : FileSettings) (s sequence : ℕ) (runs : List (ClosedRun (List ℕ))) → s < stream_count
    → AreOfStreams (files_from settings s sequence runs)
files_of_stream settings s sequence [] h = All-nil IsOfStream
files_of_stream settings s sequence (closed ∷ later) h =
    search (arith, All-cons, (files_of_stream settings s (sequence + 1) later h))

both_of_streams : (xs ys : List Call) → AreOfStreams (seals xs) → AreOfStreams (seals ys) → AreOfStreams (seals (xs ++ ys))
both_of_streams xs ys one other =
    subst AreOfStreams (sym (seals-append xs ys)) (All-append IsOfStream (seals xs) (seals ys) one other)

front_of_streams : (k : ℕ) (xs : List Call) → AreOfStreams (seals xs) → AreOfStreams (seals (take k xs))
front_of_streams zero xs all = All-nil IsOfStream
front_of_streams (suc k) [] all = all
front_of_streams (suc k) (Writes ∷ xs) all = front_of_streams k xs all
front_of_streams (suc k) (Seals file ∷ xs) all =
    search (arith, All-cons, All-head, (front_of_streams k xs (All-tail IsOfStream file (seals xs) all)), All-tail)

module _ (settings : Settings) (closed sealed : ℕ → ℕ) where
  below_of_streams : (before : List Item) (item : Item) (n : ℕ) → n < suc stream_count
      → AreOfStreams (seals (calls_below n settings closed sealed before item))
  unfolding calls_below
  below_of_streams before item zero h = All-nil IsOfStream
  below_of_streams before item (suc n) h =
      search (
        arith,
        both_of_streams,
        (below_of_streams before item n (omega arith)),
        seals-calls_from,
        All-drop,
        files_of_stream,
      )

  calls_of_streams : (before items : List Item) → AreOfStreams (seals (calls_of settings closed sealed before items))
  calls_of_streams before [] = All-nil IsOfStream
  calls_of_streams before (item ∷ items) =
      search (arith, both_of_streams, below_of_streams, (calls_of_streams (before ++ item ∷ []) items))

  pub seals_of_streams : (before items : List Item) (k : ℕ)
      → AreOfStreams (seals (take k (calls_of settings closed sealed before items)))
  seals_of_streams before items k = search (arith, front_of_streams, calls_of_streams)

-- ---- a file that is sealed already gets no call

-- where files up to a number are closed, the same later files are sealed
same_calls : (a b m sequence : ℕ) (calls : List Call) → max a m ≡ max b m → m < sequence →
    unless_sealed a sequence calls ≡ unless_sealed b sequence calls
same_calls a b m sequence calls e h = ap (λ (t : Bool). if t then [] else calls) (grind (arith, nat_tests))

same_closing : (settings : FileSettings) (s a b m sequence : ℕ) (reason : Option ClosureReason)
    (run : List (Filed (List ℕ))) → max a m ≡ max b m → m < sequence →
    closing settings s a sequence reason run ≡ closing settings s b sequence reason run
same_closing settings s a b m sequence reason run e h = grind (arith, same_calls)

same_appending : (a b m sequence : ℕ) (run : List (Filed (List ℕ))) (item : stream.Item (List ℕ)) →
    max a m ≡ max b m → m < sequence → appending a sequence run item ≡ appending b sequence run item
same_appending a b m sequence run item e h = grind (arith, same_calls)

no_fewer : (reason : Option ClosureReason) (closed : ℕ) → closed ≤ closed_by reason closed
no_fewer reason closed = grind arith

-- one stream

same_at : (settings : FileSettings) (s a b : ℕ) (cuts : Cuts) (closed : ℕ) (run : List (Filed (List ℕ)))
    (item : stream.Item (List ℕ)) → max a closed ≡ max b closed →
    calls_at settings s a cuts closed run item ≡ calls_at settings s b cuts closed run item
same_at settings s a b cuts closed run item e = search (arith, no_fewer, same_appending, same_closing)

same_from : (settings : Settings) (s a b closed : ℕ) (run : List (Filed (List ℕ)))
    (items : List (stream.Item (List ℕ))) → max a closed ≡ max b closed →
    calls_from settings s a closed run items ≡ calls_from settings s b closed run items
same_from settings s a b closed run [] e = refl
same_from settings s a b closed run (item ∷ items) e =
    let cuts : Cuts = cuts_at settings.limits run item in
    let mid : ℕ = closed_by cuts.before closed in
    let after : ℕ = closed_by cuts.after mid in
    let later : max a after ≡ max b after = omega (arith, e, no_fewer cuts.before closed, no_fewer cuts.after mid) in
    λ i. same_at settings.file s a b cuts closed run item e i
    ++ same_from settings s a b after (run_after cuts run item) items later i

-- all streams

-- of each stream the same files are sealed already, of those behind the ones that are closed before the items
abbrev pub SealedAlike : Settings → (ℕ → ℕ) → (ℕ → ℕ) → (ℕ → ℕ) → List Item → Type 0
SealedAlike settings closed a b before =
    (s : ℕ) → s < stream_count
    → max (a s) (closed s + closed_of settings s before) ≡ max (b s) (closed s + closed_of settings s before)

same_below : (n : ℕ) (settings : Settings) (closed a b : ℕ → ℕ) (before : List Item) (item : Item) → n ≤ stream_count →
    SealedAlike settings closed a b before →
    calls_below n settings closed a before item ≡ calls_below n settings closed b before item
unfolding calls_below
same_below zero settings closed a b before item h e = refl
same_below (suc s) settings closed a b before item h e =
    λ i. same_below s settings closed a b before item (omega (arith, h)) e i
    ++ same_from settings s (a s) (b s) (closed s + closed_of settings s before) (stream_division settings s before).left_open
    (stream_items settings.profile settings.rules s (item ∷ [])) (e s (omega (arith, h))) i

pub same_of : DivisionGoesOn → (settings : Settings) (closed a b : ℕ → ℕ) (before items : List Item) →
    SealedAlike settings closed a b before →
    calls_of settings closed a before items ≡ calls_of settings closed b before items
same_of law settings closed a b before [] e = refl
same_of law settings closed a b before (item ∷ items) e =
    λ i. same_below stream_count settings closed a b before item (omega arith) e i
    ++ same_of law settings closed a b (before ++ item ∷ []) items
    (λ s small. omega (arith, e s small, closed_of-append law settings s before (item ∷ []))) i
