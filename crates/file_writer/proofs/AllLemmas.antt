-- One stream of all takes an item, and the others stay.
use Rattle.std.proofs.Common.{◌≡◌, ◌≢◌, inl, inr, ℕ, zero, suc, ◌+◌, ◌<◌, ◌≤◌, Bool, IsTrue, List, [], ◌∷◌, ◌++◌, length, take, Option, slice_index_or, slice_set, refl, sym, ap, ◌∙◌, subst, arith, append_assoc}
use Rattle.file_writer.proofs.Names.{append-nil, Call, calls_at, calls_below, calls_from, calls_of, cases_eq, cases_lt, CdrKind, closed_by, closed_of, ClosureReason, Cuts, cuts_at, divided_from, Division, DivisionGoesOn, EachSafe, eq-eqb, Filed, FileSettings, get_or-set_other, get_or-set_same, Ghosts, GoesTo, HasTaken, IsBehind, IsSafe, Item, later_division, le-ltb, Limits, lt-ltb, mark_item, mark_told, nat_tests, ne_eqb, part_of, Rule, run_after, Settings, Stays, Stream, stream_calls, stream_count, stream_division, stream_item, stream_items, stream_of, stream_record, StreamAt, Tag, take_more, up_to, with_cuts, with_item}
use Rattle.file_rotate.specs.Items as rotate
use Rattle.file_writer.proofs.FilesLemmas.{closed_of-append, left_open-append}
use Rattle.file_writer.proofs.CallsLemmas.{of_one}

-- ---- one item

after_cuts : (before after : Option ClosureReason) (run : List (Filed (List ℕ))) (item : rotate.Item (List ℕ))
    (rest : List (Filed (List ℕ))) (n : ℕ)
    → ((with_cuts (record { before = before; after = after }) run item (record { closed = []; left_open = rest })).left_open
    ≡ rest)
    × (closed_by after (closed_by before n) ≡ n + length
    (with_cuts (record { before = before; after = after }) run item (record { closed = []; left_open = rest })).closed)
after_cuts before after run item rest n = grind arith

module _ (law : DivisionGoesOn) {A : Type 0} (tells : Ghosts A) (settings : Settings) (closed sealed : ℕ → ℕ)
    (before : List Item) (item : Item) (s : ℕ) where
  abbrev run : List (Filed (List ℕ))
  run = (stream_division settings s before).left_open

  one_item : (xs : List (rotate.Item (List ℕ))) → stream_item settings.profile settings.rules s item ≡ xs
      → stream_items settings.profile settings.rules s (item ∷ []) ≡ xs
  one_item xs e = append-nil (stream_item settings.profile settings.rules s item) ∙ e

  pub calls_are : (file : FileSettings) (x : rotate.Item (List ℕ)) (stream : Stream) (shelf : A) → settings.file ≡ file
      → stream_item settings.profile settings.rules s item ≡ x ∷ []
      → StreamAt tells settings closed sealed before s stream shelf
      → calls_at file s stream.file.sealed (cuts_at stream.cutter.limits run x) stream.file.closed run x
      ≡ stream_calls settings closed sealed before (item ∷ []) s
  calls_are file x stream shelf same e at =
      search (arith, at.has_sealed, at.limits, at.has_closed, append-nil, one_item)

  later_is : (xs : List (rotate.Item (List ℕ))) → stream_item settings.profile settings.rules s item ≡ xs
      → later_division settings s before (item ∷ []) ≡ divided_from settings.limits run xs
  later_is xs e = ap (λ (ys : List (rotate.Item (List ℕ))). divided_from settings.limits run ys) (one_item xs e)

  pub taken_at : (x : rotate.Item (List ℕ)) (stream later : Stream) (old new : A) → stream_item settings.profile settings.rules s item
      ≡ x ∷ [] → StreamAt tells settings closed sealed before s stream old
      → HasTaken tells s run x stream later new
      → StreamAt tells settings closed sealed (before ++ item ∷ []) s later new
  taken_at x stream later old new e at taken =
      let cuts : Cuts = cuts_at settings.limits run x in
      let rest : List (Filed (List ℕ)) = run_after cuts run x in
      let same : cuts_at stream.cutter.limits run x ≡ cuts = ap (λ (limits : Limits). cuts_at limits run x) at.limits in
      let after = after_cuts cuts.before cuts.after run x rest (closed s + closed_of settings s before) in
      let left : (stream_division settings s (before ++ item ∷ [])).left_open ≡ rest =
      left_open-append law settings s before (item ∷ [])
      ∙ ap (λ (d : Division (List ℕ)). d.left_open) (later_is (x ∷ []) e) ∙ after.0 in
      record {
        behind = search arith;
        has_closed = taken.closed ∙ (λ i. closed_by (same i).after (closed_by (same i).before (at.has_closed i)))
            ∙ omega (
              arith,
              after.1,
              closed_of-append law settings s before (item ∷ []),
              ap (λ (d : Division (List ℕ)). length d.closed) (later_is (x ∷ []) e),
            );
        has_sealed = taken.sealed ∙ at.has_sealed;
        limits = taken.limits ∙ at.limits;
        profile = taken.profile ∙ at.profile;
      }

  pub not_taken : (stream : Stream) (shelf : A) → stream_item settings.profile settings.rules s item ≡ []
      → StreamAt tells settings closed sealed before s stream shelf
      → StreamAt tells settings closed sealed (before ++ item ∷ []) s stream shelf
  not_taken stream shelf e at =
      let left : (stream_division settings s (before ++ item ∷ [])).left_open ≡ run =
      cc (left_open-append law settings s before (item ∷ []), later_is [] e) in
      record {
        behind = subst (λ (r : List (Filed (List ℕ))). IsBehind tells s r stream shelf) (sym left) at.behind;
        has_closed = omega (
          arith,
          at.has_closed,
          closed_of-append law settings s before (item ∷ []),
          ap (λ (d : Division (List ℕ)). length d.closed) (later_is [] e),
        );
        has_sealed = at.has_sealed;
        limits = at.limits;
        profile = at.profile;
      }

-- ---- a stream whose file on the shelf stays

pub at_stays : {A : Type 0} (tells : Ghosts A) (settings : Settings) (closed sealed : ℕ → ℕ) (items : List Item)
    (s : ℕ) (stream : Stream) (old new : A)
    → (IsTrue tells.tells_files → Stays tells s old new) → StreamAt tells settings closed sealed items s stream old
    → StreamAt tells settings closed sealed items s stream new
at_stays tells settings closed sealed items s stream old new stays at = search (arith, at.behind.follows.body)

-- ---- one of all

-- what holds of the stream that is changed, and of the others
pub each_set : (P : ℕ → Stream → Type 0) (streams : List Stream) (k : ℕ) (later : Stream) → k < length streams
    → P k later → ((s : ℕ) (d : Stream) → s ≢ k → s < stream_count → P s (slice_index_or streams s d))
    → (s : ℕ) (d : Stream) → s < stream_count → P s (slice_index_or (slice_set streams k later) s d)
each_set P streams k later within here there s d h = search (arith, cases_eq, get_or-set_same, get_or-set_other)

-- one stream is changed, and can take an item
pub safe_set : {A : Type 0} (tells : Ghosts A) (streams : List Stream) (s : ℕ) (later : Stream) (old new : A)
    → s < stream_count → length streams ≡ stream_count → IsSafe tells s later new
    → (IsTrue tells.tells_files → (t : ℕ) → t ≢ s → Stays tells t old new) → EachSafe tells streams old
    → EachSafe tells (slice_set streams s later) new
safe_set tells streams s later old new within sixteen here others safe =
    each_set (λ (t : ℕ) (st : Stream). IsSafe tells t st new) streams s later (omega (arith, within, sixteen)) here
    (λ t d other h. record {
      limits = (safe t d h).limits;
      pairs = (safe t d h).pairs;
      up = record {
        fresh = λ told. omega (arith, (safe t d h).up.fresh told, (others told t other).greatest);
        ready = λ told. rw (others told t other).unsealed ((safe t d h).up.ready told);
      };
    })

pub up_to_other : (n : ℕ) (before : List Item) (item : Item) (s : ℕ) → s ≢ n → up_to n before item s
    ≡ up_to (n + 1) before item s
up_to_other n before item s h = ap (λ (b : Bool). with_item b before item) (grind (arith, nat_tests))

pub not_yet : (n : ℕ) (before : List Item) (item : Item) (s : ℕ) → n ≤ s → up_to n before item s ≡ before
not_yet n before item s h = ap (λ (b : Bool). with_item b before item) (le-ltb s n h)

-- a mark goes to each stream
pub mark_stream_item : (profile : ℕ) (rules : List Rule) (s : ℕ) (closes : Bool) (moment : ℕ)
    → stream_item profile rules s (mark_told closes moment) ≡ mark_item closes moment ∷ []
mark_stream_item profile rules s closes moment = grind arith

none_more : (settings : Settings) (closed sealed : ℕ → ℕ) (before : List Item) (item : Item) (n m : ℕ) → n ≡ m
    → (rest : List Call)
    × (calls_below m settings closed sealed before item ≡ calls_below n settings closed sealed before item ++ rest)
none_more settings closed sealed before item n m e = search (arith, append-nil)

pub below_more : (settings : Settings) (closed sealed : ℕ → ℕ) (before : List Item) (item : Item) (n m : ℕ) → n ≤ m
    → (rest : List Call)
    × (calls_below m settings closed sealed before item ≡ calls_below n settings closed sealed before item ++ rest)
unfolding calls_below
below_more settings closed sealed before item n zero h = search (arith, none_more)
below_more settings closed sealed before item n (suc m) h =
    elim (cases_lt n (suc m)) [
      | inl less ↦
          let r = below_more settings closed sealed before item n m (omega (arith, less)) in
          let last : List Call = stream_calls settings closed sealed before (item ∷ []) m in (
            r.0 ++ last,
            (λ i. r.1 i ++ last) ∙ append_assoc (calls_below n settings closed sealed before item) r.0 last,
          )
      | inr most ↦ none_more settings closed sealed before item n (suc m) (omega (arith, h, most))
    ]

pub all_done : (n : ℕ) (before : List Item) (item : Item) (s : ℕ) → s < n → up_to n before item s ≡ before ++ item ∷ []
all_done n before item s h = ap (λ (b : Bool). with_item b before item) (lt-ltb s n h)

pub below_none : (settings : Settings) (closed sealed : ℕ → ℕ) (before : List Item) (item : Item)
    → [] ≡ calls_below 0 settings closed sealed before item
unfolding calls_below
below_none settings closed sealed before item = refl

pub below_next : (settings : Settings) (closed sealed : ℕ → ℕ) (before : List Item) (item : Item) (n : ℕ)
    → calls_below n settings closed sealed before item ++ stream_calls settings closed sealed before (item ∷ []) n
    ≡ calls_below (n + 1) settings closed sealed before item
unfolding calls_below
below_next settings closed sealed before item n = search arith

-- a stream that the item doesn't go to makes no calls
pub only_calls : (settings : Settings) (closed sealed : ℕ → ℕ) (before : List Item) (item : Item) (s : ℕ)
    → ((t : ℕ) → t ≢ s → stream_item settings.profile settings.rules t item ≡ []) → s < stream_count
    → calls_below stream_count settings closed sealed before item
    ≡ stream_calls settings closed sealed before (item ∷ []) s
only_calls settings closed sealed before item s others h =
    (of_one (λ (calls : List Call). calls) refl (λ xs ys. refl) settings closed sealed before item stream_count s
    (λ t other. ap (calls_from settings t (sealed t) (closed t + closed_of settings t before)
    (stream_division settings t before).left_open)
    (append-nil (stream_item settings.profile settings.rules t item) ∙ others t other))).1 h

-- ---- records, and items one after the other

pub goes_to : (profile : ℕ) (rules : List Rule) (kind : CdrKind) (tag : Option Tag) (octets : List ℕ) (moment s : ℕ)
    → s ≡ stream_of rules tag kind.format
    → GoesTo profile rules (part_of kind tag octets moment) s (stream_record profile kind octets moment)
goes_to profile rules kind tag octets moment s e = search (arith, nat_tests, eq-eqb, ne_eqb)

pub calls-append : (settings : Settings) (closed sealed : ℕ → ℕ) (before xs ys : List Item)
    → calls_of settings closed sealed before (xs ++ ys) ≡ calls_of settings closed sealed before xs
    ++ calls_of settings closed sealed (before ++ xs) ys
calls-append settings closed sealed before [] ys = cc (append-nil before)
calls-append settings closed sealed before (x ∷ xs) ys =
    cc (
      calls-append settings closed sealed (before ++ x ∷ []) xs ys,
      append_assoc before (x ∷ []) xs,
      append_assoc (calls_below stream_count settings closed sealed before x)
          (calls_of settings closed sealed (before ++ x ∷ []) xs) (calls_of settings closed sealed (before ++ (x ∷ xs)) ys),
    )

pub calls-one : (settings : Settings) (closed sealed : ℕ → ℕ) (before xs : List Item) (x : Item)
    → calls_of settings closed sealed before xs ++ calls_below stream_count settings closed sealed (before ++ xs) x
    ≡ calls_of settings closed sealed before (xs ++ x ∷ [])
calls-one settings closed sealed before xs x = search (arith, calls-append, append-nil)

pub take_next : (items : List Item) (i : ℕ) (x : Item) → i < length items → x ≡ slice_index_or items i x
    → take (i + 1) items ≡ take i items ++ x ∷ []
take_next items i x h e = take_more items i x h ∙ ap (λ (y : Item). take i items ++ y ∷ []) (sym e)
