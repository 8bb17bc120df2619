-- What a turn that makes the history firm did, and what ends a gateway does: its book, then its writer.
use Rattle.std.proofs.Common.{◌≡◌, ◌≢◌, ℕ, Bool, true, false, if◌then◌else◌, List, [], ◌∷◌, ◌++◌, Result, Ok, Err, is_err, refl, sym, ap, ◌∙◌, ◌↔◌, ◌&&◌, Option, None, Some, append_assoc, subst}
use Rattle.node_session.proofs.Names.{act_in, act_marked, added_to, after_commit, and_from, and_parts, append-nil, base, Book, BookValue, Caller, closed, closed_behind, commit_left, committed, cond_both, drops_of, entry_by, facts_of, faulted, firm_length, Fortune, fortune_of, Ghosts, Grows, HasAsked, HasCause, HasClosed, HasCommitted, HasFirmed, HasTakenAll, history_of, HistoryAct, HistoryEntry, is_closed, is_gone, IsLeft, IsSettled, IsToldAt, IsTurn, IsUnchanged, IsWriterOf, KeepsFiles, Left, length_at, length_of, marked_at, marked_if_ready, NotYet, readied, Refused, reopened, Reopening, Settled, settled_by, settled_of, StaysSo, tells_lists, Told, torn_of, tried, tried_with, true≢false, value_of, WhereTold, with_act, Writer}
use Rattle.gateway_book.specs.Caller.{IsCommitTold}
use Rattle.gateway_book.specs.declared.outcome.Broken.{Broken}
use Rattle.gateway_answer.specs.Marks.{Mark, NotDue, close_mark}
use Rattle.gateway_book.specs.declared.outcome.Marked.{Marked}
use Rattle.gateway_book.specs.declared.outcome.Marked.TheVariants as marked
use Rattle.cdr_shelf.specs.declared.shelf.Shelf as shelf
use Rattle.node_session.proofs.GivenLemmas.{Stays, writer_grows}

-- a value that isn't broken has nothing that waits
abbrev pub Rests : BookValue → Type 0
Rests v = v.is_broken ≡ false → v.rest ≡ []

reopened_rests : (v : BookValue) (r : Reopening) → Rests (reopened v r)
reopened_rests v Refused runs = absurd (true≢false runs)
reopened_rests v _ runs = refl

tried_rests : (f : Fortune) (v : BookValue) → Rests (tried f v)
tried_rests f v = cond_both f.fails (faulted v) (committed v) Rests (λ fails runs. absurd (true≢false runs)) (λ fails runs. refl)

tried_with_rests : (f : Fortune) (v : BookValue) (xs : List HistoryEntry) → v.rest ≡ xs → Rests (tried_with f v xs)
tried_with_rests f v [] is runs = is
tried_with_rests f v (e ∷ xs) is runs = tried_rests f v runs

pub commit_rests : (f : Fortune) (v : BookValue) → Rests (after_commit f v)
commit_rests f v = cond_both v.is_broken (reopened v f.reopening) (tried_with f v v.rest) Rests (λ is. reopened_rests v f.reopening) (λ is. tried_with_rests f v v.rest refl)

-- a value that isn't broken and has nothing that waits stands for its firm part
firm_list : (v : BookValue) → v.is_broken ≡ false → v.rest ≡ [] → history_of v ≡ v.firm
firm_list v runs none = ap (λ c. if c then v.firm else v.firm ++ v.rest) runs
    ∙ ap (λ (h : List HistoryEntry). v.firm ++ h) none ∙ append-nil v.firm

-- a book that nothing was done with is unchanged
pub unchanged : {A : Type 0} {tells : Ghosts A} (book : Book A tells) → IsUnchanged book book
unchanged book = record {
  value = λ told. refl;
  broken = refl;
  cuts = refl;
  kept = refl;
  entries = refl;
  firm = refl;
  free = refl;
  index = refl;
  torn_stands = refl;
  stays = record { size = refl; header = refl; open_time = refl };
}

-- what a book tells of an answer
abbrev pub told_at : {A : Type 0} {tells : Ghosts A} (front faults : ℕ) (book : Book A tells) (answer : Settled)
    → (Told tells → answer ≡ settled_of (value_of book) front faults) → answer ≡ settled_by book.cuts (firm_length book.trail) front faults
    → IsToldAt (tells_lists tells) front faults (facts_of book) (firm_length book.trail) answer
told_at {tells = tells} front faults book answer told counted =
    record {
      calm = λ (none : book.cuts ≡ 0). sym (ap (λ (c : ℕ). length_at c (firm_length book.trail) book.kept) none);
      is = counted;
      counts = λ it_is. told (and_parts tells.tells_octets tells.tells_crash it_is);
    }

module _ {A : Type 0} {tells : Ghosts A} (front faults : ℕ) (old new : Book A tells) (answer : Settled) where
  pub has_asked : IsToldAt (tells_lists tells) front faults (facts_of old) (firm_length old.trail) answer → ((n : ℕ) → answer ≢ NotYet n)
      → HasAsked (tells_lists tells) front faults (facts_of old) (facts_of old) (firm_length old.trail) (firm_length old.trail) answer []
  has_asked is sure = record { tells = is; sure = sure; still = (refl, refl); adds = refl }

  all_firm : (r : Result ℕ Broken) → IsCommitTold new r → is_closed new.trail ≡ is_err r → is_closed new.trail ≡ false
      → firm_length new.trail ≡ length_of new.trail
  all_firm (Ok n) told broken goes = sym told.0 ∙ told.1
  all_firm (Err fault) told broken goes = absurd (true≢false (sym broken ∙ goes))

  pub has_committed : (r : Result ℕ Broken) → (Told tells → IsLeft old new (commit_left (fortune_of old new) (value_of old)) r)
      → IsCommitTold new r → is_closed new.trail ≡ is_err r → HasCause old new
      → (short : ℕ) → IsToldAt (tells_lists tells) front faults (facts_of old) (firm_length old.trail) (NotYet short)
      → (Told tells → answer ≡ settled_of (value_of new) front faults) → answer ≡ settled_by new.cuts (firm_length new.trail) front faults
      → HasCommitted (tells_lists tells) front faults (facts_of old) (facts_of new) (firm_length old.trail) (firm_length new.trail) answer []
  has_committed r left told broken cause short waited said counted = record {
    short = short;
    waited = waited;
    tells = told_at front faults new answer said counted;
    is_broken = is_closed new.trail;
    all = λ goes. (
      all_firm r told broken goes,
      λ tells_them.
          let is = (left (and_parts tells.tells_octets tells.tells_crash tells_them)).value in
          let same = sym (ap (λ (v : BookValue). v.is_broken) is) ∙ goes in
          firm_list (value_of new) goes (ap (λ (v : BookValue). v.rest) is ∙ commit_rests (fortune_of old new) (value_of old) same),
    );
    uncut = cause.uncut;
    cut = cause.cut;
    rose = cause.broken;
    adds = refl;
  }

-- ---- the book, step by step

-- of a value that isn't broken no entry is torn
none_torn : (v : BookValue) → v.is_broken ≡ false → torn_of v ≡ []
none_torn v runs = ap (λ b. if b then v.rest else []) runs

joined_open : (v : BookValue) → v.is_broken ≡ false → history_of v ++ torn_of v ≡ history_of v
joined_open v runs = ap (λ (h : List HistoryEntry). history_of v ++ h) (none_torn v runs) ∙ append-nil (history_of v)

marked_broken : (ready : BookValue) (now : ℕ) (who : Caller) (mark : Mark) → (marked_at ready now who mark).value.is_broken ≡ ready.is_broken
marked_broken ready now who NotDue = refl
marked_broken ready now who _ = refl

abbrev left_if : Bool → BookValue → ℕ → Caller → Mark → Left Marked
left_if b ready now who mark = if b then record { value = ready; answer = marked.Device } else marked_at ready now who mark

ready_broken : (b : Bool) (ready : BookValue) (now : ℕ) (who : Caller) (mark : Mark) → ready.is_broken ≡ b
    → (marked_if_ready ready now who mark).value.is_broken ≡ b
ready_broken true ready now who mark is =
    ap (λ c. (left_if c ready now who mark).value.is_broken) is ∙ is
ready_broken false ready now who mark is =
    ap (λ c. (left_if c ready now who mark).value.is_broken) is ∙ marked_broken ready now who mark ∙ is

added_behind : (h : List HistoryEntry) (ready : BookValue) (now : ℕ) (who : Caller) (act : Option HistoryAct) → history_of ready ≡ h
    → h ++ added_to ready now who act ≡ with_act h now who act
added_behind h ready now who None is = append-nil h
added_behind h ready now who (Some act) is = ap (λ g. h ++ added_to' g) is
  where
    added_to' : List HistoryEntry → List HistoryEntry
    added_to' g = entry_by g now who act ∷ []

module _ {A : Type 0} {tells : Ghosts A} (old new : Book A tells) where
  tells_them : Told tells → tells_lists tells ≡ true
  tells_them told = and_from tells.tells_octets tells.tells_crash told.0 told.1

  whole : is_closed old.trail ≡ false → drops_of (fortune_of old new) (value_of old) ≡ false
  whole goes = ap (λ b. b && is_gone (fortune_of old new).reopening) goes

  pub firmed : (r : Result ℕ Broken) → (Told tells → IsLeft old new (commit_left (fortune_of old new) (value_of old)) r)
      → IsTurn old new None [] → is_closed new.trail ≡ false → HasFirmed old new
  firmed r left turn goes = record {
    drops = drops_of (fortune_of old new) (value_of old);
    whole = whole;
    firm = λ told.
        let none = rest told in
        sym (joined_open (value_of new) goes ∙ firm_list (value_of new) goes none)
        ∙ (turn.adds (tells_them told)).stands ∙ append-nil (base (drops_of (fortune_of old new) (value_of old)) (facts_of old));
    none_waits = rest;
    goes_on = goes;
  }
    where
      rest : Told tells → (value_of new).rest ≡ []
      rest told =
          let is = (left told).value in
          ap (λ (v : BookValue). v.rest) is
          ∙ commit_rests (fortune_of old new) (value_of old) (sym (ap (λ (v : BookValue). v.is_broken) is) ∙ goes)

  pub grows : {session : _} {added : List HistoryEntry} → IsTurn old new session added → Grows old new
  grows turn told = turn.owes.firm (tells_them told)

  abbrev ready : BookValue
  ready = readied (fortune_of old new) (value_of old)

  pub has_closed : (now : ℕ) (who : Caller) (r : Marked) → (Told tells → IsLeft old new (closed (fortune_of old new) now who (value_of old)) r)
      → IsTurn old new (Some who.session) (added_to ready now who (act_in ready (close_mark (history_of ready))))
      → (ready.is_broken ≡ false → history_of ready ≡ base (drops_of (fortune_of old new) (value_of old)) (facts_of old))
      → is_closed old.trail ≡ false → is_closed new.trail ≡ false → HasClosed old new now who
  has_closed now who r left turn behind was goes = record {
    history = λ told.
        let runs : ready.is_broken ≡ false =
        by_state ready.is_broken refl (sym (ap (λ (v : BookValue). v.is_broken) (left told).value) ∙ goes) in
        let at : history_of ready ≡ history_of (value_of old) =
        behind runs ∙ ap (λ d. base d (facts_of old)) (whole was) ∙ joined_open (value_of old) was in
        sym (joined_open (value_of new) goes) ∙ (turn.adds (tells_them told)).stands
        ∙ ap (λ d. base d (facts_of old) ++ added_to ready now who (act_in ready (close_mark (history_of ready)))) (whole was)
        ∙ ap (λ (h : List HistoryEntry). h ++ added_to ready now who (act_in ready (close_mark (history_of ready)))) (joined_open (value_of old) was)
        ∙ added_behind (history_of (value_of old)) ready now who (act_in ready (close_mark (history_of ready))) at
        ∙ ap (λ act. with_act (history_of (value_of old)) now who act)
        (ap (λ b. if b then None else act_marked (close_mark (history_of ready))) runs
        ∙ ap (λ (h : List HistoryEntry). act_marked (close_mark h)) at);
    goes_on = goes;
  }
    where
      by_state : (b : Bool) → ready.is_broken ≡ b
          → (marked_if_ready ready now who (close_mark (history_of ready))).value.is_broken ≡ false → ready.is_broken ≡ false
      by_state true is not = absurd (true≢false (sym (ready_broken true ready now who (close_mark (history_of ready)) is) ∙ not))
      by_state false is not = is

pub grows_then : {A : Type 0} {tells : Ghosts A} (a b c : Book A tells) → Grows a b → Grows b c → Grows a c
grows_then a b c first second told =
    let f = first told in let s = second told in
    (f.0 ++ s.0, s.1 ∙ ap (λ (h : List HistoryEntry). h ++ s.0) f.1 ∙ append_assoc (value_of a).firm f.0 s.0)

-- what was made firm, closed and made firm again is settled
pub settled : {A : Type 0} {tells : Ghosts A} (a b c d : Book A tells) (now : ℕ) (who : Caller)
    → HasFirmed a b → HasClosed b c now who → HasFirmed c d → IsSettled a d now who
settled a b c d now who first close last = record {
  drops = first.drops;
  whole = first.whole;
  firm = λ told.
      let at : history_of (value_of b) ≡ base first.drops (facts_of a) =
      firm_list (value_of b) first.goes_on (first.none_waits told) ∙ first.firm told in
      last.firm told ∙ ap (λ drops. base drops (facts_of c)) (last.whole close.goes_on)
      ∙ joined_open (value_of c) close.goes_on ∙ close.history told
      ∙ ap (λ (h : List HistoryEntry). closed_behind h now who) at;
  none_waits = last.none_waits;
  goes_on = last.goes_on;
}

pub not_device : (r : Marked) (b : Bool) → (r ≡ marked.Device) ↔ (b ≡ true) → r ≢ marked.Device → b ≡ false
not_device r true device not = absurd (not (device.1 refl))
not_device r false device not = refl

-- ---- the book, then the writer

module _ {A : Type 0} {tells : Ghosts A} where
  pub stays_then : (a b c : Book A tells) → StaysSo a b → StaysSo b c → StaysSo a c
  stays_then a b c first second = record {
    size = second.size ∙ first.size;
    header = second.header ∙ first.header;
    open_time = second.open_time ∙ first.open_time;
  }

  pub same_firm : (b c : Book A tells) → IsUnchanged b c → Told tells → (value_of c).firm ≡ (value_of b).firm
  same_firm b c same told = ap (λ (v : BookValue). v.firm) (same.value told)

  pub grows_same : (a b c : Book A tells) → Grows a b → IsUnchanged b c → Grows a c
  grows_same a b c grows same told = let more = grows told in (more.0, same_firm b c same told ∙ more.1)

  pub settled_stays : (a b c : Book A tells) (now : ℕ) (who : Caller) → IsSettled a b now who → IsUnchanged b c → IsSettled a c now who
  settled_stays a b c now who settled same = record {
    drops = settled.drops;
    whole = settled.whole;
    firm = λ told. same_firm b c same told ∙ settled.firm told;
    none_waits = λ told. ap (λ (v : BookValue). v.rest) (same.value told) ∙ settled.none_waits told;
    goes_on = same.broken ∙ settled.goes_on;
  }

  module _ {F : Type 0} {files : shelf.Ghosts F} where
    pub writer_on : Stays → (a b : Book A tells) (w : Writer F files) → Grows a b
        → IsWriterOf (tells_lists tells) (value_of a).firm w → IsWriterOf (tells_lists tells) (value_of b).firm w
    writer_on stays a b w grows writer = writer_grows stays w (tells_lists tells) (value_of a).firm (value_of b).firm
        (λ told. grows (and_parts tells.tells_octets tells.tells_crash told)) writer

    pub writer_same : Stays → (b c : Book A tells) (w : Writer F files) → IsUnchanged b c
        → IsWriterOf (tells_lists tells) (value_of b).firm w → IsWriterOf (tells_lists tells) (value_of c).firm w
    writer_same stays b c w same writer = writer_grows stays w (tells_lists tells) (value_of b).firm (value_of c).firm
        (λ told. ([], same_firm b c same (and_parts tells.tells_octets tells.tells_crash told) ∙ sym (append-nil (value_of b).firm))) writer

    pub files_same : (b c : Book A tells) (v w : Writer F files) → IsUnchanged b c
        → WhereTold (tells_lists tells) (KeepsFiles files (value_of b).firm v w) → WhereTold (tells_lists tells) (KeepsFiles files (value_of c).firm v w)
    files_same b c v w same keeps told =
        subst (λ (h : List HistoryEntry). KeepsFiles files h v w) (sym (same_firm b c same (and_parts tells.tells_octets tells.tells_crash told))) (keeps told)

    pub all_same : (b c : Book A tells) (w : Writer F files) → IsUnchanged b c → Told tells → HasTakenAll (value_of b).firm w → HasTakenAll (value_of c).firm w
    all_same b c w same told all = subst (λ (h : List HistoryEntry). HasTakenAll h w) (sym (same_firm b c same told)) all
