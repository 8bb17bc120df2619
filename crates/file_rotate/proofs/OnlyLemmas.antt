-- There are no other runs that are as they are to be.
use Rattle.std.proofs.Common.{◌≡◌, inl, inr, List, [], ◌∷◌, ◌++◌, Option, Some, None, refl, sym, ap, ◌∙◌, subst, append_assoc}
use Rattle.std.proofs.lemmas.List.{append-nil}
use Rattle.cdr_file.specs.declared.closure.ClosureReason.{ClosureReason}
use Rattle.file_rotate.specs.declared.limits.Limits.{Limits}
use Rattle.file_rotate.specs.Division.{AreRuns, ClosedRun, Cuts, Division, EndsBefore, EndsAfter, IsQuiet, IsRun, closed_first, divided_from, ends_after, ends_before, joined, run_after, with_cuts}
use Rattle.file_rotate.specs.Items.{Filed, Item, record_in, records_of}
use Rattle.file_rotate.proofs.CuttingLemmas.{same_cuts}
use Rattle.file_rotate.proofs.RunLemmas.{head_is, none_before, not_split, tail_is}

-- ---- the division at its first item

divided_at : {P : Type 0} (limits : Limits) (run : List (Filed P)) (item : Item P) (items : List (Item P)) (before after : Option ClosureReason) → ends_before limits run item ≡ before
    → ends_after limits (joined before run item) item ≡ after
    → divided_from limits run (item ∷ items) ≡ with_cuts (record { before = before; after = after }) run item (divided_from limits (run_after (record { before = before; after = after }) run item) items)
divided_at {P} limits run item items before after b a =
    ap (λ (cuts : Cuts). with_cuts cuts run item (divided_from limits (run_after cuts run item) items))
    (same_cuts _ _ _ _ b (ap (λ (reason : Option ClosureReason). ends_after limits (joined reason run item) item) b ∙ a))

divided_before : {P : Type 0} (limits : Limits) (run : List (Filed P)) (item : Item P) (items : List (Item P)) (reason : ClosureReason) → ends_before limits run item ≡ Some reason
    → divided_from limits run (item ∷ items) ≡ closed_first (Some reason) run (divided_from limits [] (item ∷ items))
divided_before {P} limits run item items reason b =
    divided_at limits run item items (Some reason) (ends_after limits (joined (Some reason) run item) item) b refl
    ∙ ap (λ (division : Division P). closed_first (Some reason) run division)
    (sym (divided_at limits [] item items None (ends_after limits (joined (Some reason) run item) item) (none_before limits item) refl))

-- ---- quiet items, from the first on

first_before : {P : Type 0} (limits : Limits) (run : List (Filed P)) (item : Item P) (items : List (Item P)) → IsQuiet limits run (item ∷ items) → ends_before limits run item ≡ None
first_before {P} limits run item items quiet = subst (λ (r : List (Filed P)). ends_before limits r item ≡ None) (append-nil run) (quiet.before [] item items refl)

first_after : {P : Type 0} (limits : Limits) (run : List (Filed P)) (item : Item P) (items : List (Item P)) → IsQuiet limits run (item ∷ items) → ends_after limits (run ++ record_in item) item ≡ None
first_after {P} limits run item items quiet =
    subst (λ (r : List (Filed P)). ends_after limits (r ++ record_in item) item ≡ None) (append-nil run) (quiet.after [] item items refl)

quiet_later : {P : Type 0} (limits : Limits) (run : List (Filed P)) (item : Item P) (items : List (Item P)) → IsQuiet limits run (item ∷ items) → IsQuiet limits (run ++ record_in item) items
quiet_later {P} limits run item items quiet = record {
  before = λ front at rest e. subst (λ (r : List (Filed P)). ends_before limits r at ≡ None) (sym (append_assoc run (record_in item) (records_of front)))
      (quiet.before (item ∷ front) at rest (ap (λ (xs : List (Item P)). item ∷ xs) e));
  after = λ front at rest e. subst (λ (r : List (Filed P)). ends_after limits (r ++ record_in at) at ≡ None) (sym (append_assoc run (record_in item) (records_of front)))
      (quiet.after (item ∷ front) at rest (ap (λ (xs : List (Item P)). item ∷ xs) e));
}

-- ---- runs

-- closed runs and the open one are the division
abbrev Are : {P : Type 0} → Limits → List (Filed P) → List (Item P) → List (ClosedRun P) → List (Filed P) → Type 0
Are {P} limits run items closed left_open = ◌≡◌ {A = Division P} (record { closed = closed; left_open = left_open }) (divided_from limits run items)

-- and they are so, whatever run is open, where they are as they are to be
abbrev OnlyThese : {P : Type 0} → Limits → List (Item P) → Type 0
OnlyThese {P} limits items =
    (run : List (Filed P)) (closed : List (ClosedRun P)) (left_open : List (Filed P)) → AreRuns limits run items closed left_open → Are limits run items closed left_open

-- a closed run in front
in_front : {P : Type 0} (run : List (Filed P)) (closed : ClosedRun P) (others : List (ClosedRun P)) (left_open : List (Filed P)) (division : Division P) → closed.run ≡ run
    → ◌≡◌ {A = Division P} (record { closed = others; left_open = left_open }) division
    → ◌≡◌ {A = Division P} (record { closed = closed ∷ others; left_open = left_open }) (closed_first (Some closed.reason) run division)
in_front {P} run closed others left_open division same others_are =
    ap (λ (r : List (Filed P)). let d : Division P = record { closed = (record { run = r; reason = closed.reason }) ∷ others; left_open = left_open } in d) same
    ∙ ap (λ (d : Division P). closed_first (Some closed.reason) run d) others_are

-- the first run ends after an item, and no file is closed before the first item
only_after : {P : Type 0} (limits : Limits) (run : List (Filed P)) (item : Item P) (items front rest : List (Item P)) (closed : ClosedRun P) (others : List (ClosedRun P)) (left_open : List (Filed P))
    → OnlyThese limits items → ends_before limits run item ≡ None → items ≡ front ++ rest → closed.run ≡ run ++ records_of (item ∷ front) → AreRuns limits [] rest others left_open
    → (before : List (Item P)) (last : Item P) → item ∷ front ≡ before ++ last ∷ [] → IsQuiet limits run before → ends_before limits (run ++ records_of before) last ≡ None
    → ends_after limits ((run ++ records_of before) ++ record_in last) last ≡ Some closed.reason → Are limits run (item ∷ items) (closed ∷ others) left_open
only_after {P} limits run item items front rest closed others left_open only none split records later [] last joined quiet goes_on ends =
    let alone : front ≡ [] = tail_is joined in
    let after : ends_after limits (run ++ record_in item) item ≡ Some closed.reason =
    subst (λ (at : Item P). ends_after limits (run ++ record_in at) at ≡ Some closed.reason) (sym (head_is joined))
    (subst (λ (r : List (Filed P)). ends_after limits (r ++ record_in last) last ≡ Some closed.reason) (append-nil run) ends) in
    let same : closed.run ≡ run ++ record_in item =
    records ∙ ap (λ (xs : List (Item P)). run ++ (record_in item ++ records_of xs)) alone ∙ ap (λ (r : List (Filed P)). run ++ r) (append-nil (record_in item)) in
    let rest_is : rest ≡ items = sym (split ∙ ap (λ (xs : List (Item P)). xs ++ rest) alone) in
    in_front (run ++ record_in item) closed others left_open (divided_from limits [] items) same
    (only [] others left_open (subst (λ (xs : List (Item P)). AreRuns limits [] xs others left_open) rest_is later))
    ∙ sym (divided_at limits run item items None (Some closed.reason) none after)
only_after {P} limits run item items front rest closed others left_open only none split records later (x ∷ before) last joined quiet goes_on ends =
    let quiet_item : IsQuiet limits run (item ∷ before) = subst (λ (y : Item P). IsQuiet limits run (y ∷ before)) (sym (head_is joined)) quiet in
    let goes_on_item : ends_before limits (run ++ (record_in item ++ records_of before)) last ≡ None =
    subst (λ (y : Item P). ends_before limits (run ++ (record_in y ++ records_of before)) last ≡ None) (sym (head_is joined)) goes_on in
    let ends_item : ends_after limits ((run ++ (record_in item ++ records_of before)) ++ record_in last) last ≡ Some closed.reason =
    subst (λ (y : Item P). ends_after limits ((run ++ (record_in y ++ records_of before)) ++ record_in last) last ≡ Some closed.reason) (sym (head_is joined)) ends in
    only (run ++ record_in item) (closed ∷ others) left_open (
      front,
      rest,
      split,
      record {
        records = records ∙ sym (append_assoc run (record_in item) (records_of front));
        ends = inr (record {
          front = before;
          last = last;
          joined = tail_is joined;
          quiet = quiet_later limits run item before quiet_item;
          goes_on = subst (λ (r : List (Filed P)). ends_before limits r last ≡ None) (sym (append_assoc run (record_in item) (records_of before))) goes_on_item;
          ends = subst (λ (r : List (Filed P)). ends_after limits (r ++ record_in last) last ≡ Some closed.reason) (sym (append_assoc run (record_in item) (records_of before))) ends_item;
        });
      },
      later,
    )
    ∙ sym (divided_at limits run item items None None none (first_after limits run item before quiet_item))

-- the first run ends before an item after the first
only_before : {P : Type 0} (limits : Limits) (run : List (Filed P)) (item : Item P) (items front rest : List (Item P)) (closed : ClosedRun P) (others : List (ClosedRun P)) (left_open : List (Filed P))
    → OnlyThese limits items → ends_before limits run item ≡ None → items ≡ front ++ rest → closed.run ≡ run ++ records_of (item ∷ front) → AreRuns limits [] rest others left_open
    → EndsBefore limits run (item ∷ front) rest closed.reason → Are limits run (item ∷ items) (closed ∷ others) left_open
only_before {P} limits run item items front rest closed others left_open only none split records later e =
    only (run ++ record_in item) (closed ∷ others) left_open (
      front,
      rest,
      split,
      record {
        records = records ∙ sym (append_assoc run (record_in item) (records_of front));
        ends = inl (record {
          item = e.item;
          later = e.later;
          next = e.next;
          quiet = quiet_later limits run item front e.quiet;
          ends = subst (λ (r : List (Filed P)). ends_before limits r e.item ≡ Some closed.reason) (sym (append_assoc run (record_in item) (records_of front))) e.ends;
        });
      },
      later,
    )
    ∙ sym (divided_at limits run item items None None none (first_after limits run item front e.quiet))

-- the reason for which a run with no items ends is that before the next item
reason_before : {P : Type 0} (limits : Limits) (run : List (Filed P)) (item : Item P) (items rest : List (Item P)) (reason : ClosureReason) → item ∷ items ≡ rest
    → EndsBefore limits run [] rest reason → ends_before limits run item ≡ Some reason
reason_before {P} limits run item items rest reason split e =
    subst (λ (at : Item P). ends_before limits run at ≡ Some reason) (sym (head_is (split ∙ e.next)))
    (subst (λ (r : List (Filed P)). ends_before limits r e.item ≡ Some reason) (append-nil run) e.ends)

not_both : {A : Type 0} {o : Option A} {a : A} → o ≡ None → o ≡ Some a → ⊥
not_both none some = cc

not_after_none : {P : Type 0} (limits : Limits) (run : List (Filed P)) (reason : ClosureReason) → EndsAfter limits run [] reason → ⊥
not_after_none limits run reason e = not_split e.front e.last [] e.joined

-- the first run has the first item
only_first : {P : Type 0} (limits : Limits) (run : List (Filed P)) (item : Item P) (items front rest : List (Item P)) (closed : ClosedRun P) (others : List (ClosedRun P)) (left_open : List (Filed P))
    → OnlyThese limits items → ends_before limits run item ≡ None → items ≡ front ++ rest → IsRun limits run (item ∷ front) rest closed → AreRuns limits [] rest others left_open
    → Are limits run (item ∷ items) (closed ∷ others) left_open
only_first limits run item items front rest closed others left_open only none split is_run later = elim is_run.ends [
  | inl e ↦ only_before limits run item items front rest closed others left_open only none split is_run.records later e
  | inr e ↦ only_after limits run item items front rest closed others left_open only none split is_run.records later e.front e.last e.joined e.quiet e.goes_on e.ends
]

-- no file is closed before the first item
only_on : {P : Type 0} (limits : Limits) (run : List (Filed P)) (item : Item P) (items : List (Item P)) → OnlyThese limits items → ends_before limits run item ≡ None
    → (closed : List (ClosedRun P)) (left_open : List (Filed P)) → AreRuns limits run (item ∷ items) closed left_open → Are limits run (item ∷ items) closed left_open
only_on limits run item items only none [] left_open runs =
    only (run ++ record_in item) [] left_open (quiet_later limits run item items runs.0, runs.1 ∙ sym (append_assoc run (record_in item) (records_of items)))
    ∙ sym (divided_at limits run item items None None none (first_after limits run item items runs.0))
only_on {P} limits run item items only none (closed ∷ others) left_open runs = by_front runs.0 runs.2 runs.3
  where
    by_front : (front : List (Item P)) → item ∷ items ≡ front ++ runs.1 → IsRun limits run front runs.1 closed → Are limits run (item ∷ items) (closed ∷ others) left_open
    by_front [] split is_run = elim is_run.ends [
      | inl e ↦ absurd (not_both none (reason_before limits run item items runs.1 closed.reason split e))
      | inr e ↦ absurd (not_after_none limits run closed.reason e)
    ]
    by_front (x ∷ front) split is_run =
        only_first limits run item items front runs.1 closed others left_open only none (tail_is split)
        (subst (λ (y : Item P). IsRun limits run (y ∷ front) runs.1 closed) (sym (head_is split)) is_run) runs.4

-- a run that has the first item doesn't end before it
goes_on : {P : Type 0} (limits : Limits) (run : List (Filed P)) (item : Item P) (items rest : List (Item P)) (closed : ClosedRun P) → IsRun limits run (item ∷ items) rest closed
    → ends_before limits run item ≡ None
goes_on {P} limits run item items rest closed is_run = elim is_run.ends [
  | inl e ↦ first_before limits run item items e.quiet
  | inr e ↦ by_front e.front e.last e.joined e.quiet e.goes_on
]
  where
    by_front : (front : List (Item P)) (last : Item P) → item ∷ items ≡ front ++ last ∷ [] → IsQuiet limits run front → ends_before limits (run ++ records_of front) last ≡ None
        → ends_before limits run item ≡ None
    by_front [] last joined quiet on =
        subst (λ (at : Item P). ends_before limits run at ≡ None) (sym (head_is joined)) (subst (λ (r : List (Filed P)). ends_before limits r last ≡ None) (append-nil run) on)
    by_front (x ∷ front) last joined quiet on = subst (λ (at : Item P). ends_before limits run at ≡ None) (sym (head_is joined)) (first_before limits run x front quiet)

-- the file is closed before the first item
only_closed : {P : Type 0} (limits : Limits) (run : List (Filed P)) (item : Item P) (items : List (Item P)) (reason : ClosureReason) → OnlyThese limits items
    → ends_before limits run item ≡ Some reason → (closed : List (ClosedRun P)) (left_open : List (Filed P)) → AreRuns limits run (item ∷ items) closed left_open
    → Are limits run (item ∷ items) closed left_open
only_closed limits run item items reason only some [] left_open runs = absurd (not_both (first_before limits run item items runs.0) some)
only_closed {P} limits run item items reason only some (closed ∷ others) left_open runs = by_front runs.0 runs.2 runs.3
  where
    by_front : (front : List (Item P)) → item ∷ items ≡ front ++ runs.1 → IsRun limits run front runs.1 closed → Are limits run (item ∷ items) (closed ∷ others) left_open
    by_front [] split is_run = elim is_run.ends [
      | inl e ↦ in_front run closed others left_open (divided_from limits [] (item ∷ items)) (is_run.records ∙ append-nil run)
          (only_on limits [] item items only (none_before limits item) others left_open (subst (λ (xs : List (Item P)). AreRuns limits [] xs others left_open) (sym split) runs.4))
          ∙ sym (divided_before limits run item items closed.reason (reason_before limits run item items runs.1 closed.reason split e))
      | inr e ↦ absurd (not_after_none limits run closed.reason e)
    ]
    by_front (x ∷ front) split is_run =
        absurd (not_both (goes_on limits run item front runs.1 closed (subst (λ (y : Item P). IsRun limits run (y ∷ front) runs.1 closed) (sym (head_is split)) is_run)) some)

only_at : {P : Type 0} (limits : Limits) (run : List (Filed P)) (item : Item P) (items : List (Item P)) (before : Option ClosureReason) → OnlyThese limits items
    → ends_before limits run item ≡ before → (closed : List (ClosedRun P)) (left_open : List (Filed P)) → AreRuns limits run (item ∷ items) closed left_open
    → Are limits run (item ∷ items) closed left_open
only_at limits run item items None only before closed left_open runs = only_on limits run item items only before closed left_open runs
only_at limits run item items (Some reason) only before closed left_open runs = only_closed limits run item items reason only before closed left_open runs

-- there are no items
not_closed : {P : Type 0} (limits : Limits) (run : List (Filed P)) (front rest : List (Item P)) (closed : ClosedRun P) → [] ≡ front ++ rest → IsRun limits run front rest closed → ⊥
not_closed {P} limits run front rest closed split is_run = elim is_run.ends [
  | inl e ↦ not_split front e.item e.later (split ∙ ap (λ (xs : List (Item P)). front ++ xs) e.next)
  | inr e ↦ not_split e.front e.last rest (split ∙ ap (λ (xs : List (Item P)). xs ++ rest) e.joined ∙ append_assoc e.front (e.last ∷ []) rest)
]

pub only_these : {P : Type 0} (limits : Limits) (items : List (Item P)) → OnlyThese limits items
only_these {P} limits [] run [] left_open runs = ap (λ (r : List (Filed P)). let d : Division P = record { closed = []; left_open = r } in d) (runs.1 ∙ append-nil run)
only_these limits [] run (closed ∷ others) left_open runs = absurd (not_closed limits run runs.0 runs.1 closed runs.2 runs.3)
only_these limits (item ∷ items) run closed left_open runs = only_at limits run item items (ends_before limits run item) (only_these limits items) refl closed left_open runs
