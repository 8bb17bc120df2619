-- The files with the records as they were filed are the files of the history's items: a division asks nothing of what it
-- carries. And the records of a stream's files are those of the history that go there.
use Rattle.std.proofs.Common.{◌≡◌, ℕ, ◌+◌, ◌==◌, Bool, List, [], ◌∷◌, ◌++◌, map, filter, Option, Some, None, refl, ap, ◌∙◌, sum_by, arith}
use Rattle.once_core.proofs.Names.{along, as_filed, cdr_length, Close, closed_first, ClosureReason, divided_from, Division, division_of, ends_after, ends_before, filed, filed_by, filed_by_act, filed_item, filed_items, filed_items_by, filed_runs, FiledRecord, filter-append, flat_map, flat_map-append, goes_to, HistoryAct, HistoryEntry, is_sum_by, Item, items_by, items_by_act, items_of, joined, length-map, Limits, map-append, part_of, Record, records_of, run_length, run_limit_reached, runs_of, Settings, stream_division, stream_item, stream_of, sum_by-cons}
use Rattle.cdr_file.specs.CdrFile.{header_length}
use Rattle.file_rotate.specs.Division.{still}
use Rattle.file_rotate.specs.Items.{Filed, Tick}

-- ---- what a division carries

module _ {A B : Type 0} (f : A → B) where
  -- the same record with something else
  abbrev pub carried : Filed A → Filed B
  carried r = record { kind = r.kind; octets = r.octets; moment = r.moment; payload = f r.payload }

  abbrev pub carried_item : Item A → Item B
  carried_item (Record r) = Record (carried r)
  carried_item (Tick moment) = Tick moment
  carried_item (Close moment) = Close moment

  lengths : (run : List (Filed A)) → sum_by cdr_length (map carried run) ≡ sum_by cdr_length run
  lengths = is_sum_by (λ (run : List (Filed A)). sum_by cdr_length (map carried run)) cdr_length refl (λ r run. sum_by-cons cdr_length (carried r) (map carried run))

  run_lengths : (run : List (Filed A)) → run_length (map carried run) ≡ run_length run
  run_lengths [] = refl
  run_lengths (r ∷ run) = ap (λ (n : ℕ). header_length r.kind + n) (lengths (r ∷ run))

  limits_same : (limits : Limits) (run : List (Filed A)) → run_limit_reached limits (map carried run) ≡ run_limit_reached limits run
  unfolding run_limit_reached
  limits_same limits run = rw (run_lengths run, length-map run carried)

  before_same : (limits : Limits) (run : List (Filed A)) (item : Item A)
      → ends_before limits (map carried run) (carried_item item) ≡ ends_before limits run item
  unfolding ends_before
  before_same limits (r ∷ run) (Record other) = refl
  before_same limits _ _ = refl

  after_same : (limits : Limits) (run : List (Filed A)) (item : Item A)
      → ends_after limits (map carried run) (carried_item item) ≡ ends_after limits run item
  unfolding ends_after
  after_same limits run (Record r) = limits_same limits run
  after_same limits run _ = refl

  still_same : (o : Option ClosureReason) (run : List (Filed A)) → still o (map carried run) [] ≡ map carried (still o run [])
  still_same None run = refl
  still_same (Some reason) run = refl

  joined_same : (o : Option ClosureReason) (run : List (Filed A)) (item : Item A)
      → joined o (map carried run) (carried_item item) ≡ map carried (joined o run item)
  joined_same o run item = grind (arith, map-append carried run)

  first_same : (o : Option ClosureReason) (run : List (Filed A)) (one : Division B) (other : Division A)
      → runs_of one ≡ map (map carried) (runs_of other)
      → runs_of (closed_first o (map carried run) one) ≡ map (map carried) (runs_of (closed_first o run other))
  first_same None run one other same = same
  first_same (Some reason) run one other same = ap (λ (runs : List (List (Filed B))). map carried run ∷ runs) same

  pub divided_same : (limits : Limits) (run : List (Filed A)) (items : List (Item A))
      → runs_of (divided_from limits (map carried run) (map carried_item items)) ≡ map (map carried) (runs_of (divided_from limits run items))
  divided_same limits run [] = refl
  divided_same limits run (item ∷ items) =
      let b = ends_before limits run item in
      let mine = joined b run item in
      let a = ends_after limits mine item in
      let more = divided_from limits (map carried (still a mine [])) (map carried_item items) in
      let less = divided_from limits (still a mine []) items in
      rw (before_same limits run item, joined_same b run item, after_same limits mine item, still_same a mine)
      (first_same b run (closed_first a (map carried mine) more) (closed_first a mine less)
      (first_same a mine more less (divided_same limits (still a mine []) items)))

-- ---- what entries give, one after the other

along_same : {A B C : Type 0} (F : List HistoryEntry → HistoryEntry → List A)
    (G : List HistoryEntry → HistoryEntry → List B)
    (f : List A → List C) (g : List B → List C) → f [] ≡ g [] → ((xs ys : List A) → f (xs ++ ys) ≡ f xs ++ f ys)
    → ((xs ys : List B) → g (xs ++ ys) ≡ g xs ++ g ys)
    → ((before : List HistoryEntry) (e : HistoryEntry) → f (F before e) ≡ g (G before e))
    → (before h : List HistoryEntry) → f (along F before h) ≡ g (along G before h)
along_same F G f g none fs gs each before [] = none
along_same F G f g none fs gs each before (e ∷ h) =
    let later = before ++ e ∷ [] in
    cc (
      fs (F before e) (along F later h),
      gs (G before e)
          (along G later h),
      each before e,
      along_same F G f g none fs gs each later h,
    )

-- ---- the items of a stream

abbrev pub plain : Filed FiledRecord → Filed (List ℕ)
plain r = carried (λ (x : FiledRecord). x.octets) r

module _ (settings : Settings) (s : ℕ) where
  -- what entries give to files
  abbrev items_at : List HistoryEntry → HistoryEntry → List (Item FiledRecord)
  items_at before e = filed_items_by settings.profile before e.moment e.act

  abbrev of_stream : List (Item FiledRecord) → List (Item (List ℕ))
  of_stream items = map (carried_item (λ (x : FiledRecord). x.octets)) (filter (goes_to settings s) items)

  records_same : (rs : List FiledRecord)
      → flat_map (stream_item settings.profile settings.rules s) (map part_of rs) ≡ of_stream
      (map (filed_item settings.profile) rs)
  records_same [] = refl
  records_same (r ∷ rs) = grind (arith, records_same rs)

  act_same : (before : List HistoryEntry) (moment : ℕ) (a : HistoryAct)
      → flat_map (stream_item settings.profile settings.rules s) (items_by_act before moment a) ≡ of_stream (filed_items_by settings.profile before moment a)
  act_same before moment a = grind (arith, records_same)

  -- the files of a stream are these, with the octets of their records alone
  pub same_runs : (h : List HistoryEntry)
      → runs_of (stream_division settings s (items_of h)) ≡ map (map plain) (filed_runs settings s h)
  same_runs h =
      ap (λ (items : List (Item (List ℕ))). runs_of (division_of settings.limits items))
      (along_same items_by items_at (flat_map (stream_item settings.profile settings.rules s)) of_stream refl
      (flat_map-append (stream_item settings.profile settings.rules s))
      (λ xs ys. ap (map (carried_item (λ (x : FiledRecord). x.octets))) (filter-append (goes_to settings s) xs ys)
      ∙ map-append _ _ _)
      (λ before e. act_same before e.moment e.act) [] h)
      ∙ divided_same (λ (x : FiledRecord). x.octets) settings.limits [] (filter (goes_to settings s) (filed_items settings.profile h))

  -- ---- the records of a stream

  abbrev pub goes : Filed FiledRecord → Bool
  goes r = stream_of settings.rules r.payload.tag r.kind.format == s

  records_append : (xs ys : List (Item FiledRecord)) → records_of (xs ++ ys) ≡ records_of xs ++ records_of ys
  records_append [] ys = refl
  records_append (i ∷ xs) ys = grind (arith, records_append xs ys)

  records_going : (items : List (Item FiledRecord))
      → records_of (filter (goes_to settings s) items) ≡ filter goes (records_of items)
  records_going [] = refl
  records_going (i ∷ items) = grind (arith, records_going items)

  items_filed : (rs : List FiledRecord)
      → records_of (map (filed_item settings.profile) rs) ≡ map (as_filed settings.profile) rs
  items_filed [] = refl
  items_filed (r ∷ rs) = ap (λ (fs : List (Filed FiledRecord)). as_filed settings.profile r ∷ fs) (items_filed rs)

  act_filed : (before : List HistoryEntry) (moment : ℕ) (a : HistoryAct)
      → records_of (filed_items_by settings.profile before moment a) ≡ map (as_filed settings.profile)
      (filed_by_act before moment a)
  act_filed before moment a = grind (arith, items_filed)

  -- they are those of the history that go there
  pub stream_records : (h : List HistoryEntry)
      → records_of (filter (goes_to settings s) (filed_items settings.profile h)) ≡ filter goes
      (map (as_filed settings.profile) (filed h))
  stream_records h =
      records_going (filed_items settings.profile h)
      ∙ ap (filter goes) (along_same items_at filed_by records_of (map (as_filed settings.profile)) refl records_append
      (map-append (as_filed settings.profile))
      (λ before e. act_filed before e.moment e.act) [] h)
