-- The division has the runs that it is to have.
use Rattle.std.proofs.Common.{◌≡◌, inl, inr, List, [], ◌∷◌, ◌++◌, Option, Some, None, refl, sym, ap, ◌∙◌, subst, append_assoc}
use Rattle.std.specs.List.{flat_map}
use Rattle.std.proofs.lemmas.List.{append-nil}
use Rattle.cdr_file.specs.declared.closure.ClosureReason.{ClosureReason}
use Rattle.file_rotate.specs.declared.limits.Limits.{Limits}
use Rattle.file_rotate.specs.Division.{AreRuns, ClosedRun, Division, EndsBefore, EndsAfter, IsQuiet, IsRun, divided_from, ends_after, ends_before, joined, run_after, with_cuts}
use Rattle.file_rotate.specs.Items.{Filed, Item, record_in, records_of}

-- ---- lists

pub head_is : {A : Type 0} {x y : A} {xs ys : List A} → x ∷ xs ≡ y ∷ ys → x ≡ y
head_is e = cc

pub tail_is : {A : Type 0} {x y : A} {xs ys : List A} → x ∷ xs ≡ y ∷ ys → xs ≡ ys
tail_is e = cc

pub not_split : {A : Type 0} (front : List A) (x : A) (rest : List A) → [] ≡ front ++ x ∷ rest → ⊥
not_split [] x rest e = cc
not_split (y ∷ front) x rest e = cc

records_of-append : {P : Type 0} (front rest : List (Item P)) → records_of (front ++ rest) ≡ records_of front ++ records_of rest
records_of-append [] rest = refl
records_of-append (item ∷ front) rest =
    ap (λ (records : List (Filed _)). record_in item ++ records) (records_of-append front rest)
    ∙ sym (append_assoc (record_in item) (records_of front) (records_of rest))

-- ---- quiet items

-- what holds of each place in a list of items after a run
at_each : {P : Type 0} (Q : List (Filed P) → Item P → Type 0) (run : List (Filed P)) (item : Item P) (items : List (Item P)) → Q run item
    → ((front : List (Item P)) (at : Item P) (rest : List (Item P)) → items ≡ front ++ at ∷ rest → Q ((run ++ record_in item) ++ records_of front) at)
    → (front : List (Item P)) (at : Item P) (rest : List (Item P)) → item ∷ items ≡ front ++ at ∷ rest → Q (run ++ records_of front) at
at_each {P} Q run item items here there [] at rest e =
    subst (λ (y : Item P). Q (run ++ []) y) (head_is e) (subst (λ (r : List (Filed P)). Q r item) (sym (append-nil run)) here)
at_each {P} Q run item items here there (x ∷ front) at rest e =
    subst (λ (y : Item P). Q (run ++ (record_in y ++ records_of front)) at) (head_is e)
    (subst (λ (r : List (Filed P)). Q r at) (append_assoc run (record_in item) (records_of front)) (there front at rest (tail_is e)))

quiet_none : {P : Type 0} (limits : Limits) (run : List (Filed P)) → IsQuiet limits run []
quiet_none limits run = record {
  before = λ front item rest e. absurd (not_split front item rest e);
  after = λ front item rest e. absurd (not_split front item rest e);
}

-- one more quiet item in front
quiet_more : {P : Type 0} (limits : Limits) (run : List (Filed P)) (item : Item P) (items : List (Item P)) → ends_before limits run item ≡ None
    → ends_after limits (run ++ record_in item) item ≡ None → IsQuiet limits (run ++ record_in item) items → IsQuiet limits run (item ∷ items)
quiet_more {P} limits run item items before after quiet = record {
  before = at_each (λ (r : List (Filed P)) (at : Item P). ends_before limits r at ≡ None) run item items before quiet.before;
  after = at_each (λ (r : List (Filed P)) (at : Item P). ends_after limits (r ++ record_in at) at ≡ None) run item items after quiet.after;
}

-- ---- runs

ends_before_more : {P : Type 0} (limits : Limits) (run : List (Filed P)) (item : Item P) (items rest : List (Item P)) (reason : ClosureReason) → ends_before limits run item ≡ None
    → ends_after limits (run ++ record_in item) item ≡ None → EndsBefore limits (run ++ record_in item) items rest reason → EndsBefore limits run (item ∷ items) rest reason
ends_before_more {P} limits run item items rest reason before after e = record {
  item = e.item;
  later = e.later;
  next = e.next;
  quiet = quiet_more limits run item items before after e.quiet;
  ends = subst (λ (r : List (Filed P)). ends_before limits r e.item ≡ Some reason) (append_assoc run (record_in item) (records_of items)) e.ends;
}

ends_after_more : {P : Type 0} (limits : Limits) (run : List (Filed P)) (item : Item P) (items : List (Item P)) (reason : ClosureReason) → ends_before limits run item ≡ None
    → ends_after limits (run ++ record_in item) item ≡ None → EndsAfter limits (run ++ record_in item) items reason → EndsAfter limits run (item ∷ items) reason
ends_after_more {P} limits run item items reason before after e = record {
  front = item ∷ e.front;
  last = e.last;
  joined = ap (λ (xs : List (Item P)). item ∷ xs) e.joined;
  quiet = quiet_more limits run item e.front before after e.quiet;
  goes_on = subst (λ (r : List (Filed P)). ends_before limits r e.last ≡ None) (append_assoc run (record_in item) (records_of e.front)) e.goes_on;
  ends = subst (λ (r : List (Filed P)). ends_after limits (r ++ record_in e.last) e.last ≡ Some reason) (append_assoc run (record_in item) (records_of e.front)) e.ends;
}

run_more : {P : Type 0} (limits : Limits) (run : List (Filed P)) (item : Item P) (items rest : List (Item P)) (closed : ClosedRun P) → ends_before limits run item ≡ None
    → ends_after limits (run ++ record_in item) item ≡ None → IsRun limits (run ++ record_in item) items rest closed → IsRun limits run (item ∷ items) rest closed
run_more limits run item items rest closed before after is_run = record {
  records = is_run.records ∙ append_assoc run (record_in item) (records_of items);
  ends = elim is_run.ends [
    | inl e ↦ inl (ends_before_more limits run item items rest closed.reason before after e)
    | inr e ↦ inr (ends_after_more limits run item items closed.reason before after e)
  ];
}

runs_more : {P : Type 0} (limits : Limits) (run : List (Filed P)) (item : Item P) (items : List (Item P)) (closed : List (ClosedRun P)) (left_open : List (Filed P)) → ends_before limits run item ≡ None
    → ends_after limits (run ++ record_in item) item ≡ None → AreRuns limits (run ++ record_in item) items closed left_open → AreRuns limits run (item ∷ items) closed left_open
runs_more limits run item items [] left_open before after runs =
    (quiet_more limits run item items before after runs.0, runs.1 ∙ append_assoc run (record_in item) (records_of items))
runs_more {P} limits run item items (closed ∷ others) left_open before after runs =
    (item ∷ runs.0, runs.1, ap (λ (xs : List (Item P)). item ∷ xs) runs.2, run_more limits run item runs.0 runs.1 closed before after runs.3, runs.4)

-- ---- the division

-- a division is that of an open run and items
abbrev Divides : {P : Type 0} → Limits → List (Filed P) → List (Item P) → Division P → Type 0
Divides limits run items division = AreRuns limits run items division.closed division.left_open

pub none_before : {P : Type 0} (limits : Limits) (item : Item P) → ends_before limits [] item ≡ None
unfolding ends_before
none_before limits item = refl

-- at an item before which no file is closed
divides_on : {P : Type 0} (limits : Limits) (run : List (Filed P)) (item : Item P) (items : List (Item P)) (after : Option ClosureReason)
    → ((r : List (Filed P)) → Divides limits r items (divided_from limits r items)) → ends_before limits run item ≡ None → ends_after limits (run ++ record_in item) item ≡ after
    → Divides limits run (item ∷ items) (with_cuts (record { before = None; after = after }) run item (divided_from limits (run_after (record { before = None; after = after }) run item) items))
divides_on limits run item items None rest before at = runs_more limits run item items _ _ before at (rest (run ++ record_in item))
divides_on {P} limits run item items (Some reason) rest before at = (
  item ∷ [],
  items,
  refl,
  record {
    records = ap (λ (r : List (Filed P)). run ++ r) (sym (append-nil (record_in item)));
    ends = inr (record {
      front = [];
      last = item;
      joined = refl;
      quiet = quiet_none limits run;
      goes_on = subst (λ (r : List (Filed P)). ends_before limits r item ≡ None) (sym (append-nil run)) before;
      ends = subst (λ (r : List (Filed P)). ends_after limits (r ++ record_in item) item ≡ Some reason) (sym (append-nil run)) at;
    });
  },
  rest [],
)

-- at any item
divides_at : {P : Type 0} (limits : Limits) (run : List (Filed P)) (item : Item P) (items : List (Item P)) (before after : Option ClosureReason)
    → ((r : List (Filed P)) → Divides limits r items (divided_from limits r items)) → ends_before limits run item ≡ before → ends_after limits (joined before run item) item ≡ after
    → Divides limits run (item ∷ items) (with_cuts (record { before = before; after = after }) run item (divided_from limits (run_after (record { before = before; after = after }) run item) items))
divides_at limits run item items None after rest before at = divides_on limits run item items after rest before at
divides_at {P} limits run item items (Some reason) after rest before at = (
  [],
  item ∷ items,
  refl,
  record {
    records = sym (append-nil run);
    ends = inl (record {
      item = item;
      later = items;
      next = refl;
      quiet = quiet_none limits run;
      ends = subst (λ (r : List (Filed P)). ends_before limits r item ≡ Some reason) (sym (append-nil run)) before;
    });
  },
  divides_on limits [] item items after rest (none_before limits item) at,
)

pub divides : {P : Type 0} (limits : Limits) (run : List (Filed P)) (items : List (Item P)) → Divides limits run items (divided_from limits run items)
divides limits run [] = (quiet_none limits run, sym (append-nil run))
divides limits run (item ∷ items) =
    divides_at limits run item items (ends_before limits run item) (ends_after limits (joined (ends_before limits run item) run item) item) (λ r. divides limits r items) refl refl

-- ---- the records

-- the records of the runs are those that came in
pub runs_joined : {P : Type 0} (limits : Limits) (run : List (Filed P)) (items : List (Item P)) (closed : List (ClosedRun P)) (left_open : List (Filed P))
    → AreRuns limits run items closed left_open → flat_map (λ (c : ClosedRun P). c.run) closed ++ left_open ≡ run ++ records_of items
runs_joined limits run items [] left_open runs = runs.1
runs_joined {P} limits run items (closed ∷ others) left_open runs =
    append_assoc closed.run (flat_map (λ (c : ClosedRun P). c.run) others) left_open
    ∙ ap (λ (records : List (Filed P)). closed.run ++ records) (runs_joined limits [] runs.1 others left_open runs.4)
    ∙ ap (λ (records : List (Filed P)). records ++ records_of runs.1) runs.3.records
    ∙ append_assoc run (records_of runs.0) (records_of runs.1)
    ∙ ap (λ (records : List (Filed P)). run ++ records) (sym (records_of-append runs.0 runs.1))
    ∙ ap (λ (xs : List (Item P)). run ++ records_of xs) (sym runs.2)
