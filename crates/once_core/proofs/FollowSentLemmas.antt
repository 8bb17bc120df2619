-- Each request in a node's log is of one of the packets of its start. What a node knows of the packets of a start, also
-- once it is over, rests on what it heard in it.
use Rattle.std.proofs.Common.{◌≡◌, ⊎_elim, ℕ, Bool, true, if◌then◌else◌, List, [], ◌∷◌, ◌++◌, map, Option, Some, All, Contains, refl, sym, ap, subst, ◌∙◌, None, ◌==◌, false, get_or, arith, eqb-true, ne_eqb}
use Rattle.once_core.proofs.Names.{All-contains, All-nil, AllByRecursion, AnyHasCopyAt, appointing, asked_by, Asks, call_entries, Command, Contains-append_cases, Contains-append_left, Deed, deeds_of, due, First, flat_map, Followed, followed_before, HasCopyOf, heard_in, is_within_start, IsSent, Knows, Letter, log_of, LogEntry, logged, MaySend, moved_at_tick, node_of, NodeCall, NodeSetup, Orders, packets_in, packets_of, PacketState, reached, runs, Second, Sending, Sends, starts_in, Tests, Tick, tick_entries, told_by}
use Rattle.node_core.specs.declared.sending.Sending.TheVariants as send
use Rattle.node_core.specs.Log as log
use Rattle.once_core.specs.Deeds.{letter_of}
use Rattle.once_core.specs.Happenings as did
use Rattle.once_core.proofs.FollowLemmas.{Grows, began_same, halted_same, in_present, may_send_behind, may_send_on, packets_grow, starts_within, states_at, command_now, before_within, other_same}
use Rattle.once_core.proofs.ListLemmas.{in_none, in_one, of_flat_map, of_map, none_pass}
use Rattle.once_core.proofs.CaseLemmas.{by_option, by_bool}
use Rattle.once_core.proofs.CallLemmas.{Adds, adds, begins_anew, halts, hears, nothing, submits, ticks}
use Rattle.once_core.proofs.DeedLemmas.{deeds_by, deeds_more, rests_along, heard_append}
use Rattle.once_core.proofs.NumberLemmas.{earlier}

-- ---- what a tick sends

module _ (node start : ℕ) (values : ℕ → List ℕ) (packets : List PacketState) where
  -- a request of this start, which may be sent
  abbrev MaySendNow : Letter → Type 0
  MaySendNow letter = (letter.start ≡ start) × MaySend packets values letter letter.says

  abbrev copy_of : (packet gateway number : ℕ) → HasCopyOf packets packet gateway number → AnyHasCopyAt packets gateway number
  copy_of packet gateway number of = record {
    packet = of.state;
    kept = of.kept;
    copy = of.holds.copy;
    among = of.holds.among;
    gateway_is = of.holds.gateway_is;
    number_is = of.holds.number_is;
  }

  one_sent : (sending : Sending) → IsSent packets sending → (letter : Letter) → Contains (asked_by node start values sending) letter → MaySendNow letter
  one_sent (send.Probe gateway number) is letter there = in_none letter there
  one_sent (send.Data packet gateway number is_plain is_new) is letter there =
      subst MaySendNow (in_one (letter_of node start gateway First number (Asks (Sends is_plain (values packet)))) letter there)
      (refl, (refl, record { at = copy_of packet gateway number is.0; plain = is.1; packet = ap values is.0.number_is }))
  one_sent (send.Test packet gateway number) is letter there =
      subst MaySendNow (in_one (letter_of node start gateway Second number (Asks Tests)) letter there) (refl, (refl, copy_of packet gateway number is))
  one_sent (send.Command packet gateway named number order is_new) is letter there =
      let order_is : is.1.command.order ≡ order = is.1.order_is in
      let number_is : is.1.command.number ≡ number = is.1.number_is in
      let answered : Bool = is.1.command.is_answered in
      let same : is.1.command ≡ command_now order number answered = λ i. command_now (order_is i) (number_is i) answered in
      subst MaySendNow (in_one (letter_of node start gateway Second number (Asks (Orders order named))) letter there)
      (refl, (refl, answered, record { at = copy_of packet gateway named is.0; sent = is.1.sent ∙ ap (λ (c : Command). Some c) same }))

in_sent : (letters : List Letter) (letter : Letter) → Contains (map (λ (l : Letter). did.Sent l) letters) (did.Sent letter) → Contains letters letter
in_sent letters letter there =
    let of = of_map (λ (l : Letter). did.Sent l) letters (did.Sent letter) there in
    let deed : did.Sent of.0 ≡ did.Sent letter = of.2 in
    let same : of.0 ≡ letter = cc in
    subst (Contains letters) same of.1

none_sent : (letters : List Letter) (letter : Letter) → Contains (map (λ (l : Letter). did.Heard l) letters) (did.Sent letter) → ⊥
none_sent letters letter there =
    let of = of_map (λ (l : Letter). did.Heard l) letters (did.Sent letter) there in
    let deed : did.Heard of.0 ≡ did.Sent letter = of.2 in
    absurd (cc)

-- ---- one more entry

-- what a tick sends is of copies
abbrev pub IsFine : LogEntry → List LogEntry → Type 0
IsFine (log.Ticked sendings) before = All (IsSent (packets_of (log.Ticked sendings ∷ before))) sendings
IsFine _ before = Unit {0}

abbrev pub AreFine : List LogEntry → List LogEntry → Type 0
AreFine [] before = Unit {0}
AreFine (entry ∷ entries) before = IsFine entry before × AreFine entries (entry ∷ before)

module _ (grow : Grows) (node : ℕ) (values : ℕ → List ℕ) where
  abbrev pub AllSent : List LogEntry → Type 0
  AllSent before =
      (letter : Letter) → Contains (deeds_of node values before) (did.Sent letter) → MaySend (packets_in letter.start before) values letter letter.says

  -- what an entry adds
  more_sent : (entry : LogEntry) (before : List LogEntry) → IsFine entry before → (letter : Letter)
      → Contains (deeds_by node values (starts_in before) entry) (did.Sent letter)
      → MaySend (packets_in letter.start (entry ∷ before)) values letter letter.says
  more_sent (log.Ticked sendings) before fine letter new =
      let packets : List PacketState = packets_of (log.Ticked sendings ∷ before) in
      let of = of_flat_map (asked_by node (starts_in before) values) sendings letter
      (in_sent (flat_map (asked_by node (starts_in before) values) sendings) letter new) in
      let one = one_sent node (starts_in before) values packets of.0 (All-contains (IsSent packets) sendings of.0 fine of.1) letter of.2 in
      subst (λ (ps : List PacketState). MaySend ps values letter letter.says)
      (sym (in_present letter.start (log.Ticked sendings ∷ before) (starts_within (log.Ticked sendings) before refl ∙ sym one.0)))
      (may_send_behind (states_at letter.start (followed_before before)) packets values letter letter.says one.1)
  more_sent (log.Heard port gateway saying) before fine letter new = absurd
      (none_sent (told_by node (starts_in before) port gateway saying) letter new)
  more_sent _ before fine letter new = in_none (did.Sent letter) new

  fine_sent : (entry : LogEntry) (before : List LogEntry) → IsFine entry before → AllSent before → AllSent (entry ∷ before)
  fine_sent log.Began before fine all letter there =
      subst (λ (ps : List PacketState). MaySend ps values letter letter.says) (sym (began_same letter.start before)) (all letter there)
  fine_sent log.Halted before fine all letter there =
      subst (λ (ps : List PacketState). MaySend ps values letter letter.says) (sym (halted_same letter.start before)) (all letter there)
  fine_sent entry before fine all letter there = ⊎_elim
      (λ old. may_send_on (packets_in letter.start before)
      (packets_in letter.start (entry ∷ before)) values letter letter.says
      (packets_grow grow letter.start entry before refl) (all letter old))
      (more_sent entry before fine letter)
      (Contains-append_cases (deeds_of node values before) (deeds_by node values (starts_in before) entry)
      (did.Sent letter)
      (subst (λ (deeds : List Deed). Contains deeds (did.Sent letter)) (deeds_more node values entry before) there))

  all_fine_sent : (entries before : List LogEntry) → AreFine entries before → AllSent before → AllSent (logged entries before)
  all_fine_sent [] before fine all = all
  all_fine_sent (entry ∷ entries) before fine all = all_fine_sent entries (entry ∷ before) fine.1 (fine_sent entry before fine.0 all)

-- ---- all calls

fine_call : (setup : NodeSetup) → ((calls : List NodeCall) → (reached setup calls).is_running ≡ true → All (IsSent (reached setup (Tick ∷ calls)).packets) (due (reached setup calls)))
    → (calls : List NodeCall) (call : NodeCall) → AreFine (call_entries (node_of setup (log_of setup calls)) call) (log_of setup calls)
fine_call setup sent calls call = by (adds setup (log_of setup calls) call)
  where
    by : {entries : List LogEntry} → Adds setup (log_of setup calls) entries → AreFine entries (log_of setup calls)
    by nothing = tt
    by begins_anew = (tt, tt)
    by halts = (tt, tt)
    by (submits up form) = (tt, tt)
    by (ticks up to) =
        let now = node_of setup (log_of setup calls) in
        let fine : All (IsSent (packets_of (log.Ticked (due now) ∷ log_of setup calls))) (due now) =
        by_option (λ (o : Option ℕ). All (IsSent (packets_of (logged (appointing o ++ log.Ticked (due now) ∷ []) (log_of setup calls)))) (due now)
        → All (IsSent (packets_of (log.Ticked (due now) ∷ log_of setup calls))) (due now)) (moved_at_tick now) (λ none all. all) (λ gateway moves all. all)
        (subst (λ (b : Bool). All (IsSent (packets_of (logged (if b then tick_entries now else []) (log_of setup calls)))) (due now)) up (sent calls up)) in
        by_option (λ (o : Option ℕ). AreFine (appointing o ++ log.Ticked (due now) ∷ []) (log_of setup calls)) to (λ none. (fine, tt)) (λ gateway moves. (tt, (fine, tt)))
    by (hears up port gateway saying None) = (tt, tt)
    by (hears up port gateway saying (Some to)) = (tt, (tt, tt))

pub all_sent : Grows → (node : ℕ) (values : ℕ → List ℕ) (setup : NodeSetup) → ((calls : List NodeCall) → (reached setup calls).is_running ≡ true →
    All (IsSent (reached setup (Tick ∷ calls)).packets) (due (reached setup calls))) → (calls : List NodeCall) → (letter : Letter) →
    Contains (deeds_of node values (log_of setup calls)) (did.Sent letter) → MaySend (packets_in letter.start (log_of setup calls)) values letter letter.says
all_sent grow node values setup sent [] letter there = in_none (did.Sent letter) there
all_sent grow node values setup sent (call ∷ calls) letter there =
    all_fine_sent grow node values (call_entries (node_of setup (log_of setup calls)) call) (log_of setup calls) (fine_call setup sent calls call)
    (all_sent grow node values setup sent calls) letter there

-- ---- what was heard stays heard

heard_on : (start : ℕ) (deeds more : List Deed) (entry : LogEntry) → Contains (heard_in start deeds) entry → Contains (heard_in start (deeds ++ more)) entry
heard_on start deeds more entry is =
    subst (λ (es : List LogEntry). Contains es entry) (sym (heard_append start deeds more))
    (Contains-append_left (heard_in start deeds) (heard_in start more) entry is)

knows_on : (deeds more : List Deed) (start : ℕ) (packets : List PacketState) → Knows deeds start packets → Knows (deeds ++ more) start packets
knows_on deeds more start packets is = record {
  roles = is.roles;
  plain = is.plain;
  choice = is.choice;
  rests = λ k d lt j c inside.
      rests_along (heard_in start deeds) (heard_in start (deeds ++ more)) (λ port gateway cause number numbers heard named. (numbers, heard_on start deeds more _ heard, named))
      (get_or (get_or packets k d).copies j c) (is.rests k d lt j c inside);
}

-- ---- the packets of the starts before

-- while a node runs those before are of earlier starts
none_at : (start : ℕ) (before : List LogEntry) → runs before ≡ true → starts_in before ≡ start → states_at start (followed_before before) ≡ []
none_at start before running at = ap (λ (fs : List Followed). map (λ (f : Followed). f.state) fs) (none_pass (λ (f : Followed). f.start == start) (followed_before before)
    (λ f kept. ne_eqb f.start start (λ same. absurd (omega (arith, earlier before f running kept, at, same)))))

-- ---- one more call

abbrev AreWithin : List LogEntry → Type 0
AreWithin entries = AllByRecursion (λ (entry : LogEntry). is_within_start entry ≡ true) entries

module _ (node : ℕ) (values : ℕ → List ℕ) (start : ℕ) where
  abbrev Known : List LogEntry → Type 0
  Known before = Knows (deeds_of node values before) start (packets_in start before)

  -- what was known of another start stays known
  known_other : (entry : LogEntry) (before : List LogEntry) → is_within_start entry ≡ true → (starts_in before == start) ≡ false → Known before → Known (entry ∷ before)
  known_other entry before is isnt known =
      let before_it = deeds_of node values before in
      subst (λ (deeds : List Deed). Knows deeds start (packets_in start (entry ∷ before)))
      (sym (deeds_more node values entry before))
      (subst (Knows (before_it ++ deeds_by node values (starts_in before) entry) start)
      (sym (other_same start entry before is isnt))
      (knows_on before_it (deeds_by node values (starts_in before) entry) start (packets_in start before) known))

  known_others : (entries before : List LogEntry) → AreWithin entries → (starts_in before == start) ≡ false → Known before → Known (logged entries before)
  known_others [] before within isnt known = known
  known_others (entry ∷ entries) before within isnt known =
      known_others entries (entry ∷ before) within.1 (ap (λ (n : ℕ). n == start) (starts_within entry before within.0) ∙ isnt)
      (known_other entry before within.0 isnt known)

  starts_all : (entries before : List LogEntry) → AreWithin entries → starts_in (logged entries before) ≡ starts_in before
  starts_all [] before within = refl
  starts_all (entry ∷ entries) before within = starts_all entries (entry ∷ before) within.1 ∙ starts_within entry before within.0

  before_all : (entries before : List LogEntry) → AreWithin entries → followed_before (logged entries before) ≡ followed_before before
  before_all [] before within = refl
  before_all (entry ∷ entries) before within = before_all entries (entry ∷ before) within.1 ∙ before_within entry before within.0

  -- those of the present start are the node's packets
  are_present : (entries before : List LogEntry) → runs before ≡ true → AreWithin entries → starts_in before ≡ start →
      packets_in start (logged entries before) ≡ packets_of (logged entries before)
  are_present entries before running within at =
      let none : states_at start (followed_before (logged entries before)) ≡ [] = ap (states_at start) (before_all entries before within) ∙ none_at start before running at in
      in_present start (logged entries before) (starts_all entries before within ∙ at)
      ∙ ap (λ (ps : List PacketState). ps ++ packets_of (logged entries before)) none

  -- entries of the present start
  known_within : (before entries : List LogEntry) → runs before ≡ true → AreWithin entries → Known before →
      Knows (deeds_of node values (logged entries before)) (starts_in (logged entries before)) (packets_of (logged entries before)) → Known (logged entries before)
  known_within before entries running within known present = by_bool (λ (b : Bool). Known (logged entries before)) (starts_in before == start)
      (λ e.
      let at = eqb-true (starts_in before) start e in
      subst (Knows (deeds_of node values (logged entries before)) start) (sym (are_present entries before running within at))
      (subst (λ (n : ℕ). Knows (deeds_of node values (logged entries before)) n (packets_of (logged entries before))) (starts_all entries before within ∙ at) present))
      (λ e. known_others entries before within e known)

  known_after : {setup : NodeSetup} (before entries : List LogEntry) → Adds setup before entries → Known before →
      Knows (deeds_of node values (logged entries before)) (starts_in (logged entries before)) (packets_of (logged entries before)) → Known (logged entries before)
  known_after before _ nothing known present = known
  known_after before _ begins_anew known present = subst (Knows (deeds_of node values before) start) (sym (began_same start before)) known
  known_after before _ halts known present = subst (Knows (deeds_of node values before) start) (sym (halted_same start before)) known
  known_after before _ (submits up form) known present = known_within before (log.Submitted form ∷ []) up (refl, tt) known present
  known_after before entries (ticks up None) known present = known_within before entries up (refl, tt) known present
  known_after before entries (ticks up (Some to)) known present = known_within before entries up (refl, (refl, tt)) known present
  known_after before entries (hears up port gateway saying None) known present = known_within before entries up (refl, tt) known present
  known_after before entries (hears up port gateway saying (Some to)) known present = known_within before entries up (refl, (refl, tt)) known present

pub all_known : (setup : NodeSetup) (node : ℕ) (values : ℕ → List ℕ) →
    ((calls : List NodeCall) → Knows (deeds_of node values (log_of setup calls)) (starts_in (log_of setup calls)) (reached setup calls).packets) →
    (calls : List NodeCall) (start : ℕ) → Knows (deeds_of node values (log_of setup calls)) start (packets_in start (log_of setup calls))
all_known setup node values present [] start = record {
  roles = λ gateway number. omega arith;
  plain = All-nil _;
  choice = All-nil _;
  rests = All-nil _;
}
all_known setup node values present (call ∷ calls) start =
    known_after node values start (log_of setup calls) (call_entries (node_of setup (log_of setup calls)) call) (adds setup (log_of setup calls) call)
    (all_known setup node values present calls start) (present (call ∷ calls))
