-- What a turn that takes a datagram did, by the book's clauses.
use Rattle.std.proofs.Common.{◌≡◌, ◌⊎◌, inl, inr, ℕ, ◌&&◌, Bool, true, false, if◌then◌else◌, List, [], ◌++◌, Option, None, Some, refl, sym, ap, subst, ◌∙◌, append_assoc}
use Rattle.node_session.proofs.Names.{act_decided, added_to, Addr, and_parts, answer_to, append-nil, base, Book, BookValue, Caller, Decided, decided, decided_at, drops_of, entries_of, Facts, facts_of, failure_answer, fortune_of, Ghosts, given_at, HasCause, HasTaken, history_of, HistoryAct, HistoryEntry, is_closed, is_gone, IsCountedAt, IsFailed, IsLeft, IsOneOf, IsTakenAt, Outcome, outcome_at, prepared_of, readied, recorded_if, Rose, Says, Silent, size_of, taken, tells_lists, Told, true≢false, value_of, WhereTold}
use Rattle.gateway_book.specs.Caller.{IsAnswered, IsCounted, IsFailure, IsTold}
use Rattle.gateway_book.specs.declared.outcome.Outcome.TheVariants.{Answer, Drop}
use Rattle.node_session.specs.Turns.{Tells}

-- what a caller is told of what was decided
told_so : (after : BookValue) (decision : Decided) → Tells decision (outcome_at after decision)
told_so after (Silent why) = refl
told_so after (Says octets act) = (_, refl, refl, refl)

-- what a book that was made ready adds is what the answer records behind the list that it stands for
added_is : (m : BookValue) (now : ℕ) (who : Caller) (act : Option HistoryAct) → added_to m now who act ≡ entries_of (history_of m) now who act
added_is m now who None = refl
added_is m now who (Some act) = refl

-- an entry more leaves the book as broken as it was, and stands behind its history
recorded_broken : (m : BookValue) (now : ℕ) (who : Caller) (act : Option HistoryAct) → (recorded_if m now who act).is_broken ≡ m.is_broken
recorded_broken m now who None = refl
recorded_broken m now who (Some act) = refl

history_by : (v : BookValue) (b : Bool) → v.is_broken ≡ b → history_of v ≡ (if b then v.firm else v.firm ++ v.rest)
history_by v b is = ap (λ c. if c then v.firm else v.firm ++ v.rest) is

recorded_history : (m : BookValue) (now : ℕ) (who : Caller) (act : Option HistoryAct) → m.is_broken ≡ false
    → history_of (recorded_if m now who act) ≡ history_of m ++ added_to m now who act
recorded_history m now who None runs = sym (append-nil (history_of m))
recorded_history m now who (Some act) runs =
    history_by (recorded_if m now who (Some act)) false runs
    ∙ sym (append_assoc m.firm m.rest (added_to m now who (Some act)))
    ∙ ap (λ (h : List HistoryEntry). h ++ added_to m now who (Some act)) (sym (history_by m false runs))

-- the history behind which a turn adds is the list that it found, where nothing is torn
base_whole : (v : BookValue) (f : Facts) (drops : Bool) → f.list ≡ history_of v → f.firm ≡ v.firm → (v.is_broken ≡ false → drops ≡ false)
    → f.torn ≡ [] → base drops f ≡ f.list
base_whole v f false list firm runs none = ap (λ (xs : List HistoryEntry). f.list ++ xs) none ∙ append-nil f.list
base_whole v f true list firm runs none = by_test v.is_broken refl
  where
    by_test : (b : Bool) → v.is_broken ≡ b → f.firm ≡ f.list
    by_test false is = absurd (true≢false (runs is))
    by_test true is = firm ∙ sym (history_by v true is) ∙ sym list

module _ {A : Type 0} {tells : Ghosts A} (old new : Book A tells) (from : Addr) (octets : List ℕ) (now : ℕ) (who : Caller) where
  abbrev ready : BookValue
  ready = readied (fortune_of old new) (value_of old)

  abbrev decision : Decided
  decision = decided (given_at ready from (prepared_of octets) (size_of old))

  abbrev Left : Outcome → Type 0
  Left result = IsLeft old new (taken (fortune_of old new) from (prepared_of octets) (size_of old) now who (value_of old)) result

  abbrev drops : Bool
  drops = drops_of (fortune_of old new) (value_of old)

  -- the entries that were added
  abbrev pub added_now : List HistoryEntry
  added_now = added_to ready now who (act_decided decision)

  module _ (cause : HasCause old new)
      (behind : ready.is_broken ≡ false → history_of ready ≡ base drops (facts_of old))
      (failed : ready.is_broken ≡ true → act_decided decision ≡ None) where
    -- a call that answered: by whether the device failed
    answered_by : (b : Bool) → is_closed new.trail ≡ b → (result : Outcome) → Left result
        → let added = added_to ready now who (act_decided decision) in
        IsTakenAt from octets now who (facts_of old) (facts_of new) added result (base drops (facts_of old))
        ⊎ IsFailed from octets now who (facts_of old) (facts_of new) added result
    answered_by true closed result left =
        let broken : ready.is_broken ≡ true =
        sym (recorded_broken ready now who (act_decided decision)) ∙ sym (ap (λ (v : BookValue). v.is_broken) left.value) ∙ closed in
        let is : decision ≡ decided (failure_answer (prepared_of octets)) =
        ap (λ b. decided (if b then failure_answer (prepared_of octets) else answer_to (history_of ready) from (prepared_of octets) (size_of old))) broken in
        inr (record {
          rose = cause.broken closed;
          tells = subst (λ (d : Decided). Tells d result) is (subst (λ (o : Outcome). Tells decision o) (sym left.answer) (told_so (recorded_if ready now who (act_decided decision)) decision));
          adds = ap (λ act. added_to ready now who act) (failed broken);
        })
    answered_by false goes result left =
        let runs : ready.is_broken ≡ false =
        sym (recorded_broken ready now who (act_decided decision)) ∙ sym (ap (λ (v : BookValue). v.is_broken) left.value) ∙ goes in
        let h : history_of ready ≡ base drops (facts_of old) = behind runs in
        let is : decision ≡ decided_at (base drops (facts_of old)) (size_of old) from octets =
        ap (λ b. decided (if b then failure_answer (prepared_of octets) else answer_to (history_of ready) from (prepared_of octets) (size_of old))) runs
        ∙ ap (λ g. decided (answer_to g from (prepared_of octets) (size_of old))) h in
        inl (record {
          whole = base_whole (value_of old) (facts_of old) drops refl refl
              (λ still. ap (λ b. b && is_gone (fortune_of old new).reopening) still);
          tells = subst (λ (d : Decided). Tells d result) is (subst (λ (o : Outcome). Tells decision o) (sym left.answer) (told_so (recorded_if ready now who (act_decided decision)) decision));
          adds = added_is ready now who (act_decided decision)
              ∙ ap (λ g. entries_of g now who (act_decided decision)) h
              ∙ ap (λ d. entries_of (base drops (facts_of old)) now who (act_decided d)) is;
          list = ap history_of left.value ∙ recorded_history ready now who (act_decided decision) runs
              ∙ ap (λ g. g ++ added_to ready now who (act_decided decision)) h;
        })

    answered : (result : Outcome) → (Told tells → Left result)
        → WhereTold (tells_lists tells) (IsOneOf from octets now who (facts_of old) (facts_of new) added_now result drops)
    answered result is_taken told =
        answered_by (is_closed new.trail) refl result (is_taken (and_parts tells.tells_octets tells.tells_crash told))

    decides : (b : Bool) → is_closed new.trail ≡ b → (result : Outcome) → IsTold new from (prepared_of octets) result
        → IsAnswered from (prepared_of octets) result
        ⊎ (IsFailure (prepared_of octets) result × Rose (facts_of old).faults (facts_of new).faults)
    decides true closed result told = inr (told.failed closed, cause.broken closed)
    decides false goes result told = inl (told.answered goes)

    counted : (result : Outcome) → IsCounted new result → IsCountedAt (facts_of new) result
    counted (Answer receipt) is = is
    counted (Drop why) is = is

    pub has_taken : (result : Outcome) → (Told tells → Left result) → IsTold new from (prepared_of octets) result
        → HasTaken from octets now who (facts_of old) (facts_of new) added_now result (tells_lists tells) drops
    has_taken result is_taken told = record {
      answers = answered result is_taken;
      decides = decides (is_closed new.trail) refl result told;
      fault = λ fails. cause.broken (told.fault fails);
      counts = counted result told.counts;
    }
