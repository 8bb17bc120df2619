-- What a gateway records for a timely request rests on it, and its answer tells the state.
use Rattle.std.proofs.Common.{◌≡◌, ℕ, ◌%◌, ◌==◌, ◌&&◌, ◌||◌, Bool, true, false, cond, List, [], ◌∷◌, ◌++◌, Some, None, Contains, refl, subst, arith}
use Rattle.once_core.proofs.Names.{ACCEPTED, act_given, ALREADY_FULFILLED, and_parts, answer_cause, Asks, Caller, Cancelled, cause_of, changes, DUPLICATE_ALREADY_FULFILLED, entry_by, eqb-true, false≢true, Filed, Fresh, Given, given, given_state, Held, HistoryAct, HistoryEntry, is_fresh, is_held, is_telling, is_timely, IsAsked, IsKnown, IsState, KeyState, Letter, names, nat_tests, nearest, NO_RESOURCES, NodeId, none-some, NUMBERS_INCORRECT, once, Orders, present_state, recorded_as, recording, Released, Request, responding, RestsBy, same_Some, Sealed, Sends, start_of, StartsRise, state_given, tabled, Tells, Tests, top_of, verdict_cause, verdict_of, with_act}
use Rattle.gw_base.specs.declared.history.HistoryAct.TheVariants as act
use Rattle.node_core.specs.declared.copy.Order.TheVariants as order
use Rattle.transfer_cmd.specs.declared.decision.Ask.TheVariants as ask
use Rattle.once_core.specs.Happenings.{about, node_at}
use Rattle.once_core.proofs.ForwardLemmas.{known_given_now, known_now, state_given_now, state_now}
use Rattle.once_core.proofs.CaseLemmas.{if_both}

-- what an answer records rests on the request, and what it says tells the state behind it
pub record IsSound (letters : List Letter) (h : List HistoryEntry) (letter : Letter) (request : Request) (answer : Given) : Type 0 where
  pub rests : (a : HistoryAct) → act_given answer ≡ Some a → RestsBy letters letter.gateway h a
  pub tells : (now : ℕ) (who : Caller) → Tells (with_act h now who (act_given answer)) letter request (cause_of answer)
  pub known : is_telling (cause_of answer) ≡ true → (now : ℕ) (who : Caller) → IsKnown (with_act h now who (act_given answer)) letter.node letter.start (about request letter.number)

module _ (letters : List Letter) (h : List HistoryEntry) (letter : Letter) (may : HistoryAct → Bool) (rise : StartsRise h) (kept : Contains letters letter)
    (present : letter.start ≡ start_of letter.node h) where
  abbrev node : NodeId
  node = node_at letter.node

  abbrev number : ℕ
  number = letter.number % 65536

  abbrev state : ℕ → KeyState
  state n = present_state letter.node n h

  -- an answer that records nothing: where it tells anything, the number that is asked about isn't fresh
  silent : (request : Request) (cause : ℕ) (s : KeyState) → state (about request letter.number) ≡ s → (is_telling cause ≡ true → is_fresh s ≡ false)
      → Tells h letter request cause → IsSound letters h letter request (responding number cause None)
  silent request cause s is used told = record {
    rests = λ a e. absurd (none-some a e);
    tells = λ now who. told;
    known = λ telling now who. rw present
        (known_now h letter.node (about request letter.number) s rise is (used telling));
  }

  -- one that records an act, or may not
  recorded : (request : Request) (a : HistoryAct) → RestsBy letters letter.gateway h a → names letter.node (about request letter.number) a ≡ true
      → ((now : ℕ) (who : Caller) → Tells (h ++ entry_by h now who a ∷ []) letter request ACCEPTED) → Tells h letter request NO_RESOURCES
      → IsSound letters h letter request (recording may number ACCEPTED a)
  recorded request a rests named told without = if_both (IsSound letters h letter request) (may a)
      (record {
        rests = λ c e. subst (RestsBy letters letter.gateway h) (same_Some a c e) rests;
        tells = told;
        known = λ telling now who. rw present
            (known_given_now h (entry_by h now who a) letter.node (about request letter.number) rise named);
      })
      (silent request NO_RESOURCES (state (about request letter.number)) refl (λ telling. absurd (false≢true telling)) without)

  -- the state now, and after an entry that names a number
  now_is : (n : ℕ) (s : KeyState) → state n ≡ s → IsState h letter.node letter.start n s
  now_is n s is = rw present (state_now h letter.node n s rise is)

  then_is : (now : ℕ) (who : Caller) (a : HistoryAct) (n : ℕ) → names letter.node n a ≡ true
      → IsState (h ++ entry_by h now who a ∷ []) letter.node letter.start n (given_state a)
  then_is now who a n named = rw present (state_given_now h (entry_by h now who a) letter.node n rise named)

  named : ((letter.node == letter.node) && (letter.number == letter.number)) ≡ true
  named = grind (arith, nat_tests)

  names_one : (n : ℕ) → ((letter.node == letter.node) && ((n == n) || false)) ≡ true
  names_one n = grind (arith, nat_tests)

  -- the request is among the messages
  asked : (request : Request) → letter.says ≡ Asks request → IsAsked letters letter.node (start_of letter.node h) letter.gateway letter.number request
  asked request says = record { port = letter.port; kept = subst (Contains letters) (λ i. record letter { start = present i; says = says i }) kept }

  send_table : (packet : List ℕ) (s : KeyState) → state letter.number ≡ s → letter.says ≡ Asks (Sends true packet) → IsSound letters h letter (Sends true packet)
      (tabled may number (answer_cause ask.Send s) (recorded_as ask.Send node letter.number packet (state_given ask.Send s)))
  send_table packet Fresh is says = recorded (Sends true packet) (act.File node letter.number packet) (is, asked (Sends true packet) says) named
      (λ now who filing. then_is now who (act.File node letter.number packet) letter.number named) (λ filing. absurd (false≢true filing))
  send_table packet s is says = silent (Sends true packet) (answer_cause ask.Send s) s is (λ t. refl)
      (λ filing. search (now_is letter.number s is, false≢true))

  possible_table : (packet : List ℕ) (s : KeyState) → state letter.number ≡ s → letter.says ≡ Asks (Sends false packet) → IsSound letters h letter (Sends false packet)
      (tabled may number (answer_cause ask.Possible s) (recorded_as ask.Possible node letter.number packet (state_given ask.Possible s)))
  possible_table packet Fresh is says =
      recorded (Sends false packet) (act.Hold node letter.number packet) (is, asked (Sends false packet) says) named (λ now who. tt) tt
  possible_table packet s is says = silent (Sends false packet) (answer_cause ask.Possible s) s is (λ t. refl) tt

  test_table : (s : KeyState) → state letter.number ≡ s → letter.says ≡ Asks Tests → IsSound letters h letter Tests
      (tabled may number (answer_cause ask.Empty s) (recorded_as ask.Empty node letter.number [] (state_given ask.Empty s)))
  test_table Fresh is says = recorded Tests (act.Seal node letter.number) (is, asked Tests says) named
      (λ now who. (λ c. absurd (omega arith), λ c. then_is now who (act.Seal node letter.number) letter.number named))
      (λ c. absurd (omega arith), λ c. absurd (omega arith))
  test_table Filed is says = silent Tests ALREADY_FULFILLED Filed is (λ t. refl)
      (λ c. now_is letter.number Filed is, λ c. absurd (omega arith))
  test_table Sealed is says = silent Tests ACCEPTED Sealed is (λ t. refl)
      (λ c. absurd (omega arith), λ c. now_is letter.number Sealed is)
  test_table s is says = silent Tests DUPLICATE_ALREADY_FULFILLED s is (λ t. refl)
      (λ c. absurd (omega arith), λ c. absurd (omega arith))

  -- the answer to a release or a cancel of one number
  abbrev by_order : Bool → ℕ → KeyState → Given
  by_order release n s =
      let verdict = verdict_of release (s ∷ []) in
      tabled may number (verdict_cause verdict) (changes verdict release node (once (λ x y. x == y) (cond (is_held s) (n ∷ []) [])))

  release_table : (n : ℕ) (s : KeyState) → state n ≡ s → letter.says ≡ Asks (Orders order.Release n) → IsSound letters h letter (Orders order.Release n) (by_order true n s)
  release_table n Held is says = recorded (Orders order.Release n) (act.Release node (n ∷ []))
      (record { names = record { number = n; alone = refl; held = is }; own = letter.number; asked = asked (Orders order.Release n) says }) (names_one n)
      (λ now who fulfilled. then_is now who (act.Release node (n ∷ [])) n (names_one n)) (λ fulfilled. absurd (false≢true fulfilled))
  release_table n Released is says = silent (Orders order.Release n) DUPLICATE_ALREADY_FULFILLED Released is (λ t. refl) (λ fulfilled. now_is n Released is)
  release_table n s is says = silent (Orders order.Release n) NUMBERS_INCORRECT s is (λ telling. absurd (false≢true telling)) (λ fulfilled. absurd (false≢true fulfilled))

  cancel_table : (n : ℕ) (s : KeyState) → state n ≡ s → IsSound letters h letter (Orders order.Cancel n) (by_order false n s)
  cancel_table n Held is =
      recorded (Orders order.Cancel n) (act.Cancel node (n ∷ [])) (record { number = n; alone = refl; held = is }) (names_one n) (λ now who. tt) tt
  cancel_table n Cancelled is = silent (Orders order.Cancel n) DUPLICATE_ALREADY_FULFILLED Cancelled is (λ t. refl) tt
  cancel_table n s is = silent (Orders order.Cancel n) NUMBERS_INCORRECT s is (λ telling. absurd (false≢true telling)) tt

  by_request : (asks : Request) → letter.says ≡ Asks asks → nearest (top_of letter.node h) (about asks letter.number % 65536) ≡ about asks letter.number
      → IsSound letters h letter asks (given h may letter asks)
  by_request (Sends true packet) says meant = rw meant (send_table packet (state letter.number) refl says)
  by_request (Sends false packet) says meant = rw meant (possible_table packet (state letter.number) refl says)
  by_request Tests says meant = rw meant (test_table (state letter.number) refl says)
  by_request (Orders order.Release n) says meant = rw meant (release_table n (state n) refl says)
  by_request (Orders order.Cancel n) says meant = rw meant (cancel_table n (state n) refl)

-- the answer to a timely request
pub answer_is_sound : (letters : List Letter) (h : List HistoryEntry) (letter : Letter) (request : Request) (may : HistoryAct → Bool) → StartsRise h
    → Contains letters letter → letter.says ≡ Asks request → is_timely h letter request ≡ true → IsSound letters h letter request (given h may letter request)
answer_is_sound letters h letter request may rise kept says timely =
    let number = about request letter.number in
    let parts = and_parts (letter.start == start_of letter.node h)
    (nearest (top_of letter.node h) (number % 65536) == number) timely in
    by_request letters h letter may rise kept (eqb-true _ _ parts.0) request says (eqb-true _ _ parts.1)
