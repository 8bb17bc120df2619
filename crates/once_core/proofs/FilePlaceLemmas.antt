-- The files of a history have each record that it files at one place: there are as many places as filings, what stands
-- at a place was filed, and is what the files have there.
use Rattle.std.proofs.Common.{◌≡◌, ⊎_elim, ℕ, zero, suc, ◌+◌, ◌==◌, not, Bool, cond, List, [], ◌∷◌, ◌++◌, map, filter, Option, Some, Contains, slice_get, refl, sym, ap, subst, ◌∙◌, arith, append_assoc, append-nil, ◌||◌, count_by, find, sum_by, get_or, length, ◌<◌, option_map, eqb-true}
use Rattle.once_core.proofs.Names.{as_filed, at_place, cases_eq, ClosedRun, division_of, enumerate_from, eq-eqb, filed, filed_items, filed_runs, FiledRecord, FilePlace, flat_map, get_or_from_slice_get, goes_to, HistoryEntry, in_run, is_sum_by, Item, items_of, Limits, list_any, matches, nat_tests, ne_eqb, none-some, once, placed, position_or_len, record_at, records_of, Rule, run_with, same_Some, Settings, slice_get-get_or, slice_get-map, slice_get_within, stream_of, stream_record, streams_of, sum_by-append, sum_by-cons}
use Rattle.std.proofs.lemmas.List.Folds.{find_at, list_any_at}
use Rattle.std.proofs.lemmas.List.FromFn.{get_or-enumerate_from, length-enumerate_from}
use Rattle.file_rotate.specs.Items.{Filed}
use Rattle.gw_base.specs.declared.tag.Tag.{Tag}
use Rattle.once_core.proofs.FileRunLemmas.{goes, plain, same_runs, stream_records}
use Rattle.once_core.proofs.ListLemmas.{filtered, get_contains, in_flat, in_head, in_map, in_tail, of_flat_map, of_map, passed}
use Rattle.once_core.proofs.CaseLemmas.{by_bool, by_option, map_known}

-- each record of some items stands once in the runs that they are divided into
abbrev pub Divides : Type 0
Divides = (limits : Limits) (items : List (Item FiledRecord)) →
    flat_map (λ (closed : ClosedRun FiledRecord). closed.run) (division_of limits items).closed ++ (division_of limits items).left_open
    ≡ records_of items

-- ---- sums

sum_kept : {A : Type 0} (w : A → ℕ) (p : A → Bool) (xs : List A) → sum_by w (filter p xs) ≡ sum_by (λ x. cond (p x) (w x) 0) xs
sum_kept {A} w p = is_sum_by (λ (xs : List A). sum_by w (filter p xs)) (λ x. cond (p x) (w x) 0) refl
    (λ x xs. grind (arith, sum_by-cons w x (filter p xs)))

sum_both : (f g : ℕ → ℕ) (ss : List ℕ) → sum_by f ss + sum_by g ss ≡ sum_by (λ s. f s + g s) ss
sum_both f g = is_sum_by (λ (ss : List ℕ). sum_by f ss + sum_by g ss) (λ s. f s + g s) refl
    (λ s ss. omega (arith, sum_by-cons f s ss, sum_by-cons g s ss))

sum_none : (f : ℕ → ℕ) → ((s : ℕ) → f s ≡ 0) → (ss : List ℕ) → sum_by f ss ≡ 0
sum_none f none ss = sym (is_sum_by (λ (ts : List ℕ). 0) f refl (λ s ts. omega (arith, none s)) ss)

-- ---- each stream once

abbrev is_same : ℕ → ℕ → ℕ
is_same x s = cond (x == s) 1 0

-- those beside a number are as many, but for the number itself
beside : (x y z : ℕ) → cond (not (y == z)) (is_same x z) 0 ≡ cond (x == y) 0 (is_same x z)
beside x y z = grind (arith, nat_tests)

once_count : (x : ℕ) (xs : List ℕ) → count_by (λ s. x == s) (once (λ s t. s == t) xs) ≡ cond (list_any (λ s. x == s) xs) 1 0
once_count x [] = refl
once_count x (y ∷ ys) =
    let rest = once (λ s t. s == t) ys in
    sum_by-cons (is_same x) y (filter (λ z. not (y == z)) rest)
    ∙ ap (λ (n : ℕ). is_same x y + n) (sum_kept (is_same x) (λ z. not (y == z)) rest ∙ ap (λ (f : ℕ → ℕ). sum_by f rest) (λ i z. beside x y z i))
    ∙ by_bool (λ (b : Bool). cond b 1 0 + sum_by (λ z. cond b 0 (is_same x z)) rest ≡ cond (b || list_any (λ s. x == s) ys) 1 0) (x == y)
    (λ e. ap (λ (n : ℕ). 1 + n) (sum_none (λ z. 0) (λ z. refl) rest)) (λ e. omega (arith, once_count x ys))

-- what is counted is there
counted_there : (x : ℕ) (ss : List ℕ) → count_by (λ s. x == s) ss ≡ 1 → Contains ss x
counted_there x [] e = absurd (omega (arith, e))
counted_there x (t ∷ ss) e = ⊎_elim
    (λ same. (0, omega arith, sym same))
    (λ apart. in_tail t x ss (counted_there x ss (omega (arith, e, sum_by-cons (is_same x) t ss, ap {B = ℕ} (λ (b : Bool). cond b 1 0) (ne_eqb x t apart)))))
    (cases_eq x t)

-- the stream of a record is one that the rules may choose, and stands once among these
one_stream : (settings : Settings) (tag : Option Tag) (format : ℕ)
    → count_by (λ s. stream_of settings.rules tag format == s) (streams_of settings) ≡ 1
one_stream settings tag format =
    let chosen = stream_of settings.rules tag format in
    let all : List ℕ = 0 ∷ map (λ (rule : Rule). rule.stream) settings.rules in
    let passes : Rule → Bool = λ rule. matches rule tag format in
    let is : Contains all chosen = map_known (Contains all) (find passes settings.rules)
    (λ none. in_head 0 (map (λ (rule : Rule). rule.stream) settings.rules))
    (λ r found. in_tail 0 r.stream (map (λ (rule : Rule). rule.stream) settings.rules)
    (in_map (λ (rule : Rule). rule.stream) settings.rules r
    (get_contains settings.rules (position_or_len passes settings.rules) r
    (sym (find_at passes settings.rules) ∙ found)))) in
    once_count chosen all ∙ ap (λ (b : Bool). cond b 1 0)
    (list_any_at (λ s. chosen == s) all is.0 chosen is.1 (eq-eqb chosen _ (sym is.2)))

-- ---- runs

all_in_runs : (closed : List (ClosedRun FiledRecord)) (open_run : List (Filed FiledRecord))
    → flat_map (λ (run : List (Filed FiledRecord)). run) (map (λ (c : ClosedRun FiledRecord). c.run) closed ++ open_run ∷ [])
    ≡ flat_map (λ (c : ClosedRun FiledRecord). c.run) closed ++ open_run
all_in_runs [] open_run = append-nil open_run
all_in_runs (c ∷ closed) open_run =
    ap (λ (rs : List (Filed FiledRecord)). c.run ++ rs) (all_in_runs closed open_run)
    ∙ sym (append_assoc c.run (flat_map (λ (c : ClosedRun FiledRecord). c.run) closed) open_run)

-- the records of a stream's files are those of the history that go there
in_runs : Divides → (settings : Settings) (s : ℕ) (h : List HistoryEntry)
    → flat_map (λ (run : List (Filed FiledRecord)). run) (filed_runs settings s h) ≡ filter (goes settings s)
    (map (as_filed settings.profile) (filed h))
in_runs divides settings s h =
    let items = filter (goes_to settings s) (filed_items settings.profile h) in
    let division = division_of settings.limits items in
    all_in_runs division.closed division.left_open ∙ divides settings.limits items ∙ stream_records settings s h

-- ---- how many records are such

module _ (p : FiledRecord → Bool) where
  abbrev placed_so : FilePlace × FiledRecord → ℕ
  placed_so x = cond (p x.1) 1 0

  abbrev filed_so : Filed FiledRecord → ℕ
  filed_so r = cond (p r.payload) 1 0

  abbrev record_so : FiledRecord → ℕ
  record_so r = cond (p r) 1 0

  run_count : (s sequence n : ℕ) (run : List (Filed FiledRecord)) → sum_by placed_so (map (at_place s sequence) (enumerate_from n run)) ≡ sum_by filed_so run
  run_count s sequence n [] = refl
  run_count s sequence n (r ∷ run) =
      sum_by-cons placed_so (at_place s sequence (n, r)) (map (at_place s sequence) (enumerate_from (n + 1) run))
      ∙ ap (λ (m : ℕ). cond (p r.payload) 1 0 + m) (run_count s sequence (n + 1) run) ∙ sym (sum_by-cons filed_so r run)

  abbrev stream_places : ℕ → ℕ × List (Filed FiledRecord) → List (FilePlace × FiledRecord)
  stream_places s file = map (at_place s file.0) (enumerate_from 0 file.1)

  runs_count : (s n : ℕ) (runs : List (List (Filed FiledRecord)))
      → sum_by placed_so (flat_map (stream_places s) (enumerate_from n runs)) ≡ sum_by filed_so (flat_map (λ run. run) runs)
  runs_count s n [] = refl
  runs_count s n (run ∷ runs) = omega (
    arith,
    sum_by-append placed_so (stream_places s (n, run)) (flat_map (stream_places s) (enumerate_from (n + 1) runs)),
    run_count s n 0 run,
    runs_count s (n + 1) runs,
    sum_by-append filed_so run (flat_map (λ (r : List (Filed FiledRecord)). r) runs),
  )

  spread : (f : ℕ → List (FilePlace × FiledRecord)) (ss : List ℕ) → sum_by placed_so (flat_map f ss) ≡ sum_by (λ s. sum_by placed_so (f s)) ss
  spread f = is_sum_by (λ (ss : List ℕ). sum_by placed_so (flat_map f ss)) (λ s. sum_by placed_so (f s)) refl (λ s ss. sum_by-append placed_so (f s) (flat_map f ss))

  -- each record goes to one stream
  module _ (settings : Settings) where
    abbrev share : List (Filed FiledRecord) → ℕ → ℕ
    share rs s = sum_by filed_so (filter (goes settings s) rs)

    shared : (r : Filed FiledRecord) (rs : List (Filed FiledRecord)) (s : ℕ)
        → share (r ∷ rs) s ≡ cond (goes settings s r) (filed_so r) 0 + share rs s
    shared r rs s = grind (arith, sum_by-cons filed_so r (filter (goes settings s) rs))

    somewhere : (r : Filed FiledRecord)
        → sum_by (λ s. cond (goes settings s r) (filed_so r) 0) (streams_of settings) ≡ filed_so r
    somewhere r =
        by_bool (λ (b : Bool). sum_by (λ s. cond (goes settings s r) (cond b 1 0) 0) (streams_of settings) ≡ cond b 1 0)
        (p r.payload)
        (λ e. one_stream settings r.payload.tag r.kind.format)
        (λ e. sum_none (λ s. cond (goes settings s r) 0 0) (λ s. grind arith) (streams_of settings))

    dealt : (rs : List (Filed FiledRecord)) → sum_by (share rs) (streams_of settings) ≡ sum_by filed_so rs
    dealt [] = sum_none (λ s. 0) (λ s. refl) (streams_of settings)
    dealt (r ∷ rs) =
        ap (λ (f : ℕ → ℕ). sum_by f (streams_of settings)) (λ i s. shared r rs s i)
        ∙ omega (
          arith,
          sum_both (λ s. cond (goes settings s r) (filed_so r) 0) (share rs) (streams_of settings),
          somewhere r,
          dealt rs,
          sum_by-cons filed_so r rs,
        )

  pub placed_count : Divides → (settings : Settings) (h : List HistoryEntry)
      → count_by (λ (x : FilePlace × FiledRecord). p x.1) (placed settings h) ≡ count_by p (filed h)
  placed_count divides settings h =
      spread (λ s. flat_map (stream_places s) (enumerate_from 1 (filed_runs settings s h))) (streams_of settings)
      ∙ ap (λ (f : ℕ → ℕ). sum_by f (streams_of settings))
      (λ i s. (runs_count s 1 (filed_runs settings s h)
      ∙ ap (λ (rs : List (Filed FiledRecord)). sum_by filed_so rs) (in_runs divides settings s h)) i)
      ∙ dealt settings (map (as_filed settings.profile) (filed h))
      ∙ is_sum_by (λ (rs : List FiledRecord). sum_by filed_so (map (as_filed settings.profile) rs))
      (λ r. cond (p r) 1 0) refl
      (λ r rs. sum_by-cons filed_so (as_filed settings.profile r) (map (as_filed settings.profile) rs)) (filed h)

-- ---- the record at a place

in_numbered : {A : Type 0} (n m : ℕ) (xs : List A) (k : ℕ) (x : A) → m ≡ n + k → slice_get xs k ≡ Some x
    → Contains (enumerate_from n xs) (m, x)
in_numbered n m xs k x same e =
    let lt = slice_get_within xs k x e in (
      k,
      omega (arith, lt, length-enumerate_from n xs),
      get_or-enumerate_from n xs k (m, x) lt ∙ (λ i. (sym same i, get_or_from_slice_get xs k x x e i)),
    )

of_numbered : {A : Type 0} (n : ℕ) (xs : List A) (x : ℕ × A) → Contains (enumerate_from n xs) x → (k : ℕ) × (x.0 ≡ n + k) × (slice_get xs k ≡ Some x.1)
of_numbered {A} n xs x is =
    let lt : is.0 < length xs = omega (arith, is.1, length-enumerate_from n xs) in
    let same : x ≡ (n + is.0, get_or xs is.0 x.1) = sym is.2 ∙ get_or-enumerate_from n xs is.0 x lt in
    (is.0, ap (λ (p : ℕ × A). p.0) same, slice_get-get_or xs is.0 x.1 lt ∙ ap (λ (p : ℕ × A). Some p.1) (sym same))

in_mapped : {A B : Type 0} (f : Filed A → Filed B) (index q : ℕ) (runs : List (List (Filed A)))
    → in_run index (run_with q (map (map f) runs)) ≡ option_map f (in_run index (run_with q runs))
in_mapped f index zero runs = refl
in_mapped f index (suc k) runs = grind (arith, slice_get-map (map f) runs k, slice_get-map f)

-- a record in the run with this number
record InRun (index q : ℕ) (runs : List (List (Filed FiledRecord))) (r : Filed FiledRecord) : Type 0 where
  before : ℕ
  run : List (Filed FiledRecord)
  number : q ≡ 1 + before
  run_is : slice_get runs before ≡ Some run
  is : slice_get run index ≡ Some r

run_of : (index q : ℕ) (runs : List (List (Filed FiledRecord))) (r : Filed FiledRecord)
    → in_run index (run_with q runs) ≡ Some r → InRun index q runs r
run_of index zero runs r e = absurd (none-some r e)
run_of index (suc k) runs r e = by_option
    (λ (o : Option (List (Filed FiledRecord))). in_run index o ≡ Some r → InRun index (suc k) runs r) (slice_get runs k)
    (λ none there. absurd (none-some r there))
    (λ run is there. record { before = k; run = run; number = omega arith; run_is = is; is = there }) e

module _ (settings : Settings) (h : List HistoryEntry) where
  abbrev runs : ℕ → List (List (Filed FiledRecord))
  runs s = filed_runs settings s h

  abbrev found : FilePlace → Option (Filed FiledRecord)
  found place = in_run place.index (run_with place.sequence (runs place.stream))

  abbrev places : ℕ → ℕ × List (Filed FiledRecord) → List (FilePlace × FiledRecord)
  places s file = map (at_place s file.0) (enumerate_from 0 file.1)

  -- the files of the history's items have it there
  record_is : (place : FilePlace) → record_at settings (items_of h) place ≡ option_map plain (found place)
  record_is place =
      ap (λ (rs : List (List (Filed (List ℕ)))). in_run place.index (run_with place.sequence rs)) (same_runs settings place.stream h)
      ∙ in_mapped plain place.index place.sequence (runs place.stream)

  -- a record stands there, in a stream that the rules may choose
  record IsAt (place : FilePlace) (filing : FiledRecord) : Type 0 where
    chosen : Contains (streams_of settings) place.stream
    all : Filed FiledRecord
    is : found place ≡ Some all
    filing_is : all.payload ≡ filing

  is_at : (place : FilePlace) (filing : FiledRecord) → Contains (placed settings h) (place, filing) → IsAt place filing
  is_at place filing is =
      let stream = of_flat_map (λ s. flat_map (places s) (enumerate_from 1 (runs s))) (streams_of settings)
      (place, filing) is in
      let file = of_flat_map (places stream.0) (enumerate_from 1 (runs stream.0)) (place, filing) stream.2 in
      let one = of_map (at_place stream.0 file.0.0) (enumerate_from 0 file.0.1) (place, filing) file.2 in
      let number = of_numbered 1 (runs stream.0) file.0 file.1 in
      let index = of_numbered 0 file.0.1 one.0 one.1 in
      let sequence : file.0.0 ≡ suc number.0 = omega (arith, number.1) in
      let at : one.0.0 ≡ index.0 = omega (arith, index.1) in
      subst (λ (x : FilePlace × FiledRecord). IsAt x.0 x.1) one.2 (record {
        chosen = stream.1;
        all = one.0.1;
        is = ap (λ (q : ℕ). in_run one.0.0 (run_with q (runs stream.0))) sequence ∙ ap (in_run one.0.0) number.2
            ∙ ap (slice_get file.0.1) at ∙ index.2;
        filing_is = refl;
      })

  at_is : (place : FilePlace) (r : Filed FiledRecord) → Contains (streams_of settings) place.stream
      → found place ≡ Some r
      → Contains (placed settings h) (place, r.payload)
  at_is place r chosen is =
      let at = run_of place.index place.sequence (runs place.stream) r is in
      in_flat (λ s. flat_map (places s) (enumerate_from 1 (runs s))) (streams_of settings) place.stream
      (place, r.payload) chosen
      (in_flat (places place.stream) (enumerate_from 1 (runs place.stream)) (place.sequence, at.run) (place, r.payload)
      (in_numbered 1 place.sequence (runs place.stream) at.before at.run at.number at.run_is)
      (in_map (at_place place.stream place.sequence) (enumerate_from 0 at.run) (place.index, r)
      (in_numbered 0 place.index at.run place.index r (omega arith) at.is)))

  -- no other record stands there
  pub one_there : (place : FilePlace) (one other : FiledRecord) → Contains (placed settings h) (place, one)
      → Contains (placed settings h) (place, other)
      → one ≡ other
  one_there place one other is are =
      let a = is_at place one is in
      let b = is_at place other are in
      sym a.filing_is ∙ ap (λ (r : Filed FiledRecord). r.payload) (same_Some a.all b.all (sym a.is ∙ b.is))
      ∙ b.filing_is

  -- the place is in a stream that the rules may choose
  pub stream_there : (place : FilePlace) (filing : FiledRecord) → Contains (placed settings h) (place, filing)
      → Contains (streams_of settings) place.stream
  stream_there place filing is = (is_at place filing is).chosen

module _ (divides : Divides) (settings : Settings) (h : List HistoryEntry) (place : FilePlace) where
  -- it went to the stream, and was filed
  record Came (r : Filed FiledRecord) : Type 0 where
    filed_is : Contains (filed h) r.payload
    whole : as_filed settings.profile r.payload ≡ r
    stream : stream_of settings.rules r.payload.tag r.kind.format ≡ place.stream

  came : (r : Filed FiledRecord) → found settings h place ≡ Some r → Came r
  came r is =
      let at = run_of place.index place.sequence (filed_runs settings place.stream h) r is in
      let all = map (as_filed settings.profile) (filed h) in
      let there = subst (λ (rs : List (Filed FiledRecord)). Contains rs r) (in_runs divides settings place.stream h)
      (in_flat (λ (run : List (Filed FiledRecord)). run) (filed_runs settings place.stream h) at.run r
      (get_contains (filed_runs settings place.stream h) at.before at.run at.run_is)
      (get_contains at.run place.index r at.is)) in
      let of = of_map (as_filed settings.profile) (filed h) r (filtered (goes settings place.stream) all r there) in
      subst Came of.2 (record {
        filed_is = of.1;
        whole = refl;
        stream = eqb-true _ _ (ap (goes settings place.stream) of.2 ∙ passed (goes settings place.stream) all r there);
      })

  pub was_filed : (filing : FiledRecord) → Contains (placed settings h) (place, filing) → Contains (filed h) filing
  was_filed filing is = let at = is_at settings h place filing is in subst (Contains (filed h)) at.filing_is
      (came at.all at.is).filed_is

  pub stands_there : (filing : FiledRecord) → Contains (placed settings h) (place, filing)
      → record_at settings (items_of h) place ≡ Some (stream_record settings.profile filing.kind filing.octets filing.moment)
  stands_there filing is =
      let at = is_at settings h place filing is in
      record_is settings h place ∙ ap (option_map plain) at.is
      ∙ ap (λ (r : Filed FiledRecord). Some (plain r))
      (sym (came at.all at.is).whole ∙ ap (as_filed settings.profile) at.filing_is)

  -- and they have a record nowhere else
  pub all_stand : (one : Filed (List ℕ)) → record_at settings (items_of h) place ≡ Some one
      → (filing : FiledRecord) × Contains (placed settings h) (place, filing)
  all_stand one is = by_option
      (λ (o : Option (Filed FiledRecord)). option_map plain o ≡ Some one
      → (filing : FiledRecord) × Contains (placed settings h) (place, filing))
      (found settings h place) (λ none there. absurd (none-some one there))
      (λ r e there.
      let stream = stream_of settings.rules r.payload.tag r.kind.format in (
        r.payload,
        at_is settings h place r (subst (Contains (streams_of settings)) (came r e).stream
            (counted_there stream (streams_of settings) (one_stream settings r.payload.tag r.kind.format))) e,
      ))
      (sym (record_is settings h place) ∙ is)
