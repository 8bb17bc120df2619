-- What each call of a book owes and adds as a turn.
use Rattle.std.proofs.Common.{◌≡◌, inl, inr, ℕ, zero, suc, ◌<◌, ◌≤◌, ◌==◌, ◌&&◌, Bool, true, false, if◌then◌else◌, List, [], ◌∷◌, ◌++◌, take, Option, Some, None, refl, sym, ap, subst, ◌∙◌, append_assoc, arith, drop, rules}
use Rattle.gateway_book.proofs.Names.{act_decided, Addr, after_commit, All, and_parts, append-nil, AreAligned, AreBy, base, Begins, Book, BookValue, Caller, cases_Bool, cond_both, decided, entry_by, failure_answer, false_from_ne_true, firm_length, Fortune, fortune_of, Ghosts, given_at, HasCause, history_of, HistoryAct, HistoryEntry, is_batch_full, is_closed, IsUnchanged, length_at, Mark, marked_if_ready, PreparedValue, readied, recorded_if, reopened, Reopening, Stays, take-append-drop, taken, Told, torn_of, tried, tried_with, value_of}
use Rattle.gw_base.specs.Facts.{joined}
use Rattle.gw_base.specs.Faults.{Stood}
use Rattle.gateway_book.specs.Book.{area_of}
use Rattle.gateway_book.specs.Turning.{IsTurn, act_in, added_to, drops_of, facts_of, is_gone, tells_lists}
use Rattle.gateway_book.proofs.Causing.{not_zero}

-- ---- lists

begins_same : (h : List HistoryEntry) → Begins h h
begins_same h = ([], sym (append-nil h))

begins_more : (h g : List HistoryEntry) → Begins h (h ++ g)
begins_more h g = (g, refl)

aligned_front : (n : ℕ) (ys rest : List HistoryEntry) → AreAligned (take n (ys ++ rest)) ys
aligned_front zero ys rest = inl (ys, refl)
aligned_front (suc n) [] rest = inr (take (suc n) rest, refl)
aligned_front (suc n) (y ∷ ys) rest = elim (aligned_front n ys rest) [
  | inl is ↦ inl (is.0, ap (λ (h : List HistoryEntry). y ∷ h) is.1)
  | inr is ↦ inr (is.0, ap (λ (h : List HistoryEntry). y ∷ h) is.1)
]

aligned_take : (n : ℕ) (xs ys : List HistoryEntry) → AreAligned xs ys → AreAligned (take n xs) ys
aligned_take n xs ys aligned = elim aligned [
  | inl is ↦ inl (drop n xs ++ is.0, is.1 ∙ ap (λ (h : List HistoryEntry). h ++ is.0) (sym (take-append-drop n xs)) ∙ append_assoc (take n xs) (drop n xs) is.0)
  | inr is ↦ rw is.1 (aligned_front n ys is.0)
]

-- ---- values

-- From one value to another: what is firm stays, where the book goes on its history does, and the entries added stand
-- behind all others, or behind the firm ones where the torn ones are dropped.
pub record Moves (f : Fortune) (v w : BookValue) (added : List HistoryEntry) : Type 0 where
  pub firm : Begins v.firm w.firm
  pub list : w.is_broken ≡ false → Begins (history_of v) (history_of w)
  pub aligned : AreAligned w.firm (history_of v)
  pub stands : w.firm ++ w.rest ≡ (if drops_of f v then v.firm else v.firm ++ v.rest) ++ added

-- the history of a value by whether it is broken
history_by : (v : BookValue) (b : Bool) → v.is_broken ≡ b → history_of v ≡ (if b then v.firm else v.firm ++ v.rest)
history_by v b is = ap (λ c. if c then v.firm else v.firm ++ v.rest) is

-- the firm part is a front of it
firm_aligned : (v : BookValue) → AreAligned v.firm (history_of v)
firm_aligned v = cond_both v.is_broken v.firm (v.firm ++ v.rest) (λ h. AreAligned v.firm h)
    (λ _. inl (begins_same v.firm)) (λ _. inl (begins_more v.firm v.rest))

drops_by : (f : Fortune) (v : BookValue) (b gone : Bool) → v.is_broken ≡ b → is_gone f.reopening ≡ gone → drops_of f v ≡ b && gone
drops_by f v b gone is found = λ i. is i && found i

module _ (f : Fortune) (v : BookValue) where
  -- the value stays, but that the book may be broken then
  stayed : (w : BookValue) → drops_of f v ≡ false → w.firm ≡ v.firm → w.rest ≡ v.rest → (w.is_broken ≡ false → v.is_broken ≡ false) → Moves f v w []
  stayed w kept firm rest goes = record {
    firm = rw firm (begins_same v.firm);
    list = λ runs. rw (goes runs, runs, firm, rest) (begins_same (v.firm ++ v.rest));
    aligned = rw firm (firm_aligned v);
    stands = rw (firm, rest, kept) (sym (append-nil (v.firm ++ v.rest)));
  }

  -- all is firm
  firm_all : drops_of f v ≡ false → Moves f v (record v { firm = v.firm ++ v.rest; rest = []; is_broken = false }) []
  firm_all kept = record {
    firm = begins_more v.firm v.rest;
    list = λ runs. subst (λ (h : List HistoryEntry). Begins (history_of v) h) (sym (append-nil (v.firm ++ v.rest)))
        (cond_both v.is_broken v.firm (v.firm ++ v.rest) (λ h. Begins h (v.firm ++ v.rest)) (λ _. begins_more v.firm v.rest) (λ _. begins_same (v.firm ++ v.rest)));
    aligned = cond_both v.is_broken v.firm (v.firm ++ v.rest) (λ h. AreAligned (v.firm ++ v.rest) h)
        (λ _. inr (begins_more v.firm v.rest)) (λ _. inl (begins_same (v.firm ++ v.rest)));
    stands = rw kept refl;
  }

  -- the torn entries are dropped
  dropped_torn : v.is_broken ≡ true → drops_of f v ≡ true → Moves f v (record v { rest = []; is_broken = false }) []
  dropped_torn broken drops = record {
    firm = begins_same v.firm;
    list = λ runs. rw broken (begins_more v.firm []);
    aligned = rw broken (inl (begins_same v.firm));
    stands = rw drops refl;
  }

  kept_open : v.is_broken ≡ false → drops_of f v ≡ false
  kept_open goes = drops_by f v false (is_gone f.reopening) goes refl

  -- an opening again
  opened_again : v.is_broken ≡ true → (r : Reopening) → f.reopening ≡ r → Moves f v (reopened v r) []
  opened_again broken r is = search (rules, firm_all, drops_by, dropped_torn, stayed)

  -- a commit that the device is asked for
  asked_again : v.is_broken ≡ false → (b : Bool) → f.fails ≡ b → Moves f v (tried f v) []
  asked_again goes b is = search (rules, stayed, kept_open, firm_all)

  left_so : v.is_broken ≡ false → Moves f v v []
  left_so goes = stayed v (kept_open goes) refl refl (λ runs. goes)

  asked_with : v.is_broken ≡ false → (rest : List HistoryEntry) → Moves f v (tried_with f v rest) []
  asked_with goes [] = left_so goes
  asked_with goes (e ∷ rest) = asked_again goes f.fails refl

  moves_by : (b : Bool) → v.is_broken ≡ b → (w : BookValue) → (v.is_broken ≡ false → Moves f v w []) → Moves f v (if b then reopened v f.reopening else w) []
  moves_by b is w other = search (rules, opened_again)

  if_full : v.is_broken ≡ false → (b : Bool) → Moves f v (if b then tried f v else v) []
  if_full goes true = asked_again goes f.fails refl
  if_full goes false = left_so goes

  moves_readied : Moves f v (readied f v) []
  moves_readied = moves_by v.is_broken refl (if is_batch_full v then tried f v else v) (λ goes. if_full goes (is_batch_full v))

  moves_committed : Moves f v (after_commit f v) []
  moves_committed = moves_by v.is_broken refl (tried_with f v v.rest) (λ goes. asked_with goes v.rest)

  -- then an act is recorded, by a book that goes on
  recorded_then : (m : BookValue) (now : ℕ) (who : Caller) (act : Option HistoryAct) → ((a : HistoryAct) → act ≡ Some a → m.is_broken ≡ false)
      → Moves f v m [] → Moves f v (recorded_if m now who act) (added_to m now who act)
  recorded_then m now who None goes moves = moves
  recorded_then m now who (Some a) goes moves =
      let e = entry_by (history_of m) now who a in
      let runs = goes a refl in
      let behind : m.firm ++ (m.rest ++ e ∷ []) ≡ (m.firm ++ m.rest) ++ e ∷ [] = sym (append_assoc m.firm m.rest (e ∷ [])) in
      let begun = moves.list runs in
      record {
        firm = moves.firm;
        list = λ is. subst (λ (h : List HistoryEntry). Begins (history_of v) h) (sym (history_by (recorded_if m now who (Some a)) false runs ∙ behind)) (
          begun.0 ++ e ∷ [],
          ap (λ (h : List HistoryEntry). h ++ e ∷ []) (sym (history_by m false runs) ∙ begun.1)
              ∙ append_assoc (history_of v) begun.0 (e ∷ []),
        );
        aligned = moves.aligned;
        stands = behind ∙ ap (λ (h : List HistoryEntry). h ++ e ∷ []) (moves.stands ∙ append-nil (if drops_of f v then v.firm else v.firm ++ v.rest));
      }

-- ---- facts

joined_is : (v : BookValue) → history_of v ++ torn_of v ≡ v.firm ++ v.rest
joined_is v = elim (cases_Bool v.is_broken) [ inl e ↦ rw e refl | inr e ↦ rw e (append-nil (v.firm ++ v.rest)) ]

-- the length that never falls, as more entries are firm
still_at : (cuts a b kept : ℕ) → 0 < cuts → length_at cuts a kept ≡ length_at cuts b kept
still_at cuts a b kept some = rw (not_zero cuts some) refl

grown_at : (cuts a b kept : ℕ) → a ≤ b → length_at cuts a kept ≤ length_at cuts b kept
grown_at cuts a b kept le = elim (cases_Bool (cuts == 0)) [ inl e ↦ rw e le | inr e ↦ rw e (omega arith) ]

is_told : {A : Type 0} (tells : Ghosts A) → tells_lists tells ≡ true → Told tells
is_told tells told = and_parts tells.tells_octets tells.tells_crash told

module _ {A : Type 0} {tells : Ghosts A} where
  joined_at : (book : Book A tells) → joined (facts_of book) ≡ (value_of book).firm ++ (value_of book).rest
  joined_at book = joined_is (value_of book)

  base_at : (book : Book A tells) (drops : Bool)
      → base drops (facts_of book) ≡ (if drops then (value_of book).firm else (value_of book).firm ++ (value_of book).rest)
  base_at book drops = grind (arith, joined_at)

  module _ (old new : Book A tells) (cause : HasCause old new) where
    -- a count that stood tells that the book goes on
    goes_on : Stood old.cuts new.cuts → is_closed new.trail ≡ false
    goes_on stood = false_from_ne_true _ (λ closed. omega (arith, cause.cut closed, stood.0, stood.1))

    uncut : Stood (tells.faults (area_of old)) (tells.faults (area_of new)) → new.cuts ≡ old.cuts
    uncut stood = cause.uncut (false_from_ne_true _ (λ closed. omega (arith, cause.broken closed, stood.0, stood.1)))

    pub turn_of : (session : Option ℕ) (added : List HistoryEntry) → Stays old new
        → (Told tells → Moves (fortune_of old new) (value_of old) (value_of new) added) → AreBy session added → IsTurn old new session added
    turn_of session added stays moves by = record {
      owes = record {
        size = stays.size;
        name = stays.header;
        faults = cause.later;
        cuts = cause.more;
        cause = uncut;
        firm = λ told. (moves (is_told tells told)).firm;
        list = λ told stood. (moves (is_told tells told)).list (goes_on stood);
        entries = λ stood. cause.entries (goes_on stood);
        still = λ some. cause.length ∙ still_at old.cuts (firm_length new.trail) (firm_length old.trail) old.kept some;
        grows = omega (arith, grown_at old.cuts (firm_length old.trail) (firm_length new.trail) old.kept cause.firm, cause.length);
        aligned = λ told none.
            aligned_take (facts_of new).length (value_of new).firm (history_of (value_of old)) (moves (is_told tells told)).aligned;
      };
      adds = λ told. record {
        stands = joined_at new ∙ (moves (is_told tells told)).stands
            ∙ ap (λ (h : List HistoryEntry). h ++ added) (sym (base_at old (drops_of (fortune_of old new) (value_of old))));
        owned = by;
      };
    }

    moved_to : (w : BookValue) (added : List HistoryEntry) → value_of new ≡ w → Moves (fortune_of old new) (value_of old) w added
        → Moves (fortune_of old new) (value_of old) (value_of new) added
    moved_to w added is moves = subst (λ (x : BookValue). Moves (fortune_of old new) (value_of old) x added) (sym is) moves

none_by : (session : ℕ) → All {X = HistoryEntry} (λ (e : HistoryEntry). e.caller.session ≡ session) []
none_by session = λ k d le. absurd (omega (arith, le))

by_none : (session : Option ℕ) → AreBy session []
by_none session = search (rules, none_by)

by_caller : (m : BookValue) (now : ℕ) (who : Caller) (act : Option HistoryAct) → AreBy (Some who.session) (added_to m now who act)
by_caller m now who act = search (rules, none_by)

failure_has_none : (datagram : PreparedValue) → act_decided (decided (failure_answer datagram)) ≡ None
failure_has_none datagram = grind arith

-- what a book records goes on
records_open : (m : BookValue) (from : Addr) (datagram : PreparedValue) (size : ℕ) (a : HistoryAct)
    → act_decided (decided (given_at m from datagram size)) ≡ Some a → m.is_broken ≡ false
records_open m from datagram size a is = grind (arith, false_from_ne_true, failure_has_none)

marked_is : (m : BookValue) (now : ℕ) (who : Caller) (mark : Mark) (b : Bool) → m.is_broken ≡ b
    → (marked_if_ready m now who mark).value ≡ recorded_if m now who (act_in m mark)
marked_is m now who mark b is = grind arith

marks_open : (m : BookValue) (mark : Mark) (a : HistoryAct) → act_in m mark ≡ Some a → m.is_broken ≡ false
marks_open m mark a is = false_from_ne_true _ (λ broken. let both : ◌≡◌ {A = Option HistoryAct} None (Some a) = rw broken at is in cc both)

module _ {A : Type 0} {tells : Ghosts A} (old new : Book A tells) (stays : Stays old new) (cause : HasCause old new) where
  pub readied_turn : (session : Option ℕ) → (Told tells → value_of new ≡ readied (fortune_of old new) (value_of old)) → IsTurn old new session []
  readied_turn session moved =
      turn_of old new cause session [] stays (λ told. moved_to old new cause _ [] (moved told) (moves_readied (fortune_of old new) (value_of old))) (by_none session)

  pub committed_turn : (session : Option ℕ) → (Told tells → value_of new ≡ after_commit (fortune_of old new) (value_of old)) → IsTurn old new session []
  committed_turn session moved =
      turn_of old new cause session [] stays (λ told. moved_to old new cause _ [] (moved told) (moves_committed (fortune_of old new) (value_of old))) (by_none session)

  pub recorded_turn : (now : ℕ) (who : Caller) (act : Option HistoryAct) → ((a : HistoryAct) → act ≡ Some a → (readied (fortune_of old new) (value_of old)).is_broken ≡ false)
      → (Told tells → value_of new ≡ recorded_if (readied (fortune_of old new) (value_of old)) now who act)
      → IsTurn old new (Some who.session) (added_to (readied (fortune_of old new) (value_of old)) now who act)
  recorded_turn now who act goes moved =
      let m = readied (fortune_of old new) (value_of old) in
      turn_of old new cause (Some who.session) (added_to m now who act) stays
      (λ told. moved_to old new cause _ (added_to m now who act) (moved told) (recorded_then (fortune_of old new) (value_of old) m now who act goes (moves_readied (fortune_of old new) (value_of old))))
      (by_caller m now who act)

  pub marked_turn : (now : ℕ) (who : Caller) (mark : Mark) → (Told tells → value_of new ≡ (marked_if_ready (readied (fortune_of old new) (value_of old)) now who mark).value)
      → IsTurn old new (Some who.session) (added_to (readied (fortune_of old new) (value_of old)) now who (act_in (readied (fortune_of old new) (value_of old)) mark))
  marked_turn now who mark moved =
      let m = readied (fortune_of old new) (value_of old) in
      recorded_turn now who (act_in m mark) (λ a is. marks_open m mark a is) (λ told. moved told ∙ marked_is m now who mark m.is_broken refl)

  pub taken_turn : (from : Addr) (datagram : PreparedValue) (size now : ℕ) (who : Caller) → (Told tells → value_of new ≡ (taken (fortune_of old new) from datagram size now who (value_of old)).value)
      → IsTurn old new (Some who.session) (added_to (readied (fortune_of old new) (value_of old)) now who (act_decided (decided (given_at (readied (fortune_of old new) (value_of old)) from datagram size))))
  taken_turn from datagram size now who moved = search (rules, recorded_turn, records_open)

-- a book that was made ready stands for the list behind which entries are added
pub readied_behind : {A : Type 0} {tells : Ghosts A} (old new : Book A tells) → (readied (fortune_of old new) (value_of old)).is_broken ≡ false
    → history_of (readied (fortune_of old new) (value_of old)) ≡ base (drops_of (fortune_of old new) (value_of old)) (facts_of old)
readied_behind old new runs =
    let f = fortune_of old new in
    let v : BookValue = value_of old in
    history_by (readied f v) false runs ∙ (moves_readied f v).stands
    ∙ append-nil (if drops_of f v then v.firm else v.firm ++ v.rest) ∙ sym (base_at old (drops_of f v))

-- one that is broken then records nothing
pub failed_none : (m : BookValue) (from : Addr) (datagram : PreparedValue) (size : ℕ) → m.is_broken ≡ true
    → act_decided (decided (given_at m from datagram size)) ≡ None
failed_none m from datagram size broken = rw broken (failure_has_none datagram)

-- a reading
pub read_turn : {A : Type 0} {tells : Ghosts A} (old new : Book A tells) (session : Option ℕ) → IsUnchanged old new
    → tells.faults (area_of old) ≤ tells.faults (area_of new) → IsTurn old new session []
read_turn {tells = tells} old new session same later = record {
  owes = record {
    size = same.stays.size;
    name = same.stays.header;
    faults = later;
    cuts = omega (arith, same.cuts);
    cause = λ stood. same.cuts;
    firm = λ told. subst (λ (v : BookValue). Begins (value_of old).firm v.firm) (sym (same.value (is_told tells told))) (begins_same (value_of old).firm);
    list = λ told stood. subst (λ (v : BookValue). Begins (history_of (value_of old)) (history_of v)) (sym (same.value (is_told tells told)))
        (begins_same (history_of (value_of old)));
    entries = λ stood. omega (arith, same.entries);
    still = λ some. same_length;
    grows = omega (arith, same_length);
    aligned = λ told none. aligned_take (facts_of new).length (value_of new).firm (history_of (value_of old))
        (subst (λ (v : BookValue). AreAligned v.firm (history_of (value_of old))) (sym (same.value (is_told tells told))) (firm_aligned (value_of old)));
  };
  adds = λ told. record {
    stands = joined_at new ∙ ap (λ (v : BookValue). v.firm ++ v.rest) (same.value (is_told tells told)) ∙ sym (joined_at old)
        ∙ sym (append-nil (joined (facts_of old))) ∙ ap (λ d. base d (facts_of old) ++ []) (sym (kept_by (is_closed old.trail) refl));
    owned = by_none session;
  };
}
  where
    same_length : (facts_of new).length ≡ (facts_of old).length
    same_length = λ i. length_at (same.cuts i) (same.firm i) (same.kept i)

    kept_by : (b : Bool) → is_closed old.trail ≡ b → drops_of (fortune_of old new) (value_of old) ≡ false
    kept_by b is = grind arith
