-- What a message makes of a gateway that it comes to, by what the gateway is.
use Rattle.std.proofs.Common.{◌≡◌, Bool, true, false, if◌then◌else◌, Option, Some, None, ◌∙◌, ap, ℕ, ◌||◌, refl, [], arith, sym, List, append-nil}
use Rattle.replay_gateway.proofs.Names.{answered, Asked, asked_by_message, asked_to_commit, asked_to_ready, AsksNothing, AsksReopening, BookValue, Breaks, came_of, committing, decided, decided_ending, delivered, delivered_broken, delivered_running, Delivery, Ending, ending_by, failed, failure_answer, faulted, followed, Fortune, fortune_by, Gateway, giving_up, GoesAsArmed, GoesOn, Gone, HasMore, HasMoved, history_of, if_broken, is_batch_full, is_expired, IsDelivered, IsTaken, Machine, machine_with, MachineStands, Message, met_by, Moved, moved_by, prepared_of, readied, reopened, rules_in, same_Some, Sent, Sequel, sequel_on, settling, Setup, still, Stops, taking, unless_expired, Went, Whole, with_book}
use Rattle.replay_gateway.specs.declared.taking.Ending.TheVariants as ending
use Rattle.replay_gateway.proofs.AnsweredLemmas.{history_ready}
use Rattle.replay_gateway.specs.declared.machine.Machine as real
use Rattle.replay_gateway.proofs.GoesLemmas.{after, broken, unbroken}

-- What is told of a message at a gateway that has opened its journal again, by what the gateway is then.

module _ (g : Gateway) (message : Message) where
  abbrev late : Bool
  late = is_expired (history_of g.book) message

  pub met_down : g.is_down ≡ true → met_by g message ≡ Some ending.Quiet
  met_down is = cc

  pub met_broken : g.is_down ≡ false → g.book.is_broken ≡ true → met_by g message ≡ Some ending.Quiet
  met_broken runs is = cc

  pub met_late : g.is_down ≡ false → g.book.is_broken ≡ false → late ≡ true → met_by g message ≡ Some ending.Expired
  met_late runs whole is = cc

  pub met_taken : g.is_down ≡ false → g.book.is_broken ≡ false → late ≡ false → met_by g message ≡ None
  met_taken runs whole is = cc

-- What a message makes of a broken gateway, which opens its journal again first.

module _ (setup : Setup) (now : ℕ) (message : Message) (g : Gateway) (runs : g.is_down ≡ false)
    (broken : g.book.is_broken ≡ true) where
  -- it asks for an opening again
  pub asked_by_broken : asked_by_message g message ≡ AsksReopening
  asked_by_broken = cc

  pub commits_broken : asked_to_commit g.book ≡ AsksReopening
  commits_broken = cc

  -- and then takes the message
  abbrev pub then_taken : Gateway → Moved
  then_taken h = if_broken still (unless_expired message (answered (rules_in setup) now message)) h

  pub moved_broken : (f : Fortune) → delivered (rules_in setup) now f message g
      ≡ followed (committing f g) then_taken
  moved_broken f =
      ap
      (λ b. if b then still g
      else if_broken (delivered_broken (rules_in setup) now f message)
      (delivered_running (rules_in setup) now f message) g) runs
      ∙ ap
      (λ b. if b then delivered_broken (rules_in setup) now f message g
      else delivered_running (rules_in setup) now f message g) broken
      ∙ ap (λ b. followed (if b || is_batch_full g.book then committing f g else still g) then_taken) broken

  -- what the opening again leaves
  pub reopens : (f : Fortune) → committing f g ≡ with_book (reopened g.book f.reopening) g
  reopens f = cc

-- What a message makes of a gateway that it comes to, by whether the gateway is down, or the message is expired.

-- a delivers that is the same there
same_move : (s : Sequel) (first second : Fortune → Gateway → Moved) (m : Machine) (g : Gateway) →
    ((f : Fortune) → first f g ≡ second f g) → moved_by s first m g ≡ moved_by s second m g
same_move s first second m g same = grind arith

module _ (setup : Setup) (place : ℕ) (g : Gateway) (m : Machine) (now : ℕ) (message : Message) where
  abbrev delivers : Fortune → Gateway → Moved
  delivers f h = delivered (rules_in setup) now f message h

  abbrev asked : Asked
  asked = asked_by_message g message

  untouched : {r : _} (sent : Sent) → MachineStands setup place g m r → asked ≡ AsksNothing →
      ((f : Fortune) → delivers f g ≡ still g) → sent.messages.items ≡ [] → sent.came ≡ Went →
      GoesAsArmed setup place asked (λ f. delivered (rules_in setup) now f message) g m sent r
  untouched sent stands nothing same none went =
      rw nothing (record {
        moved = rw (same (fortune_by m.at_last (GoesOn m.armed))) (record { stands = stands; sends = none });
        came = went;
      })

  -- It is down.
  pub comes_down : {r : _} (delivery : Delivery) → MachineStands setup place g m r → g.is_down ≡ true →
      delivery.sent.messages.items ≡ [] → delivery.sent.came ≡ Went → delivery.ending ≡ ending.Down →
      IsDelivered setup place g m now message delivery r
  comes_down delivery stands down none went ends = record {
    goes = untouched _ stands (cc) (λ f. cc) none went;
    told = cc;
  }

  -- It runs, and isn't broken.
  module _ (runs : g.is_down ≡ false) (whole : g.book.is_broken ≡ false) where
    asked_by : asked ≡ (if is_expired (history_of g.book) message then AsksNothing else asked_to_ready g.book)
    asked_by = cc

    moved_running : (f : Fortune) → delivers f g ≡ (if is_expired (history_of g.book) message then still g
        else taking (rules_in setup) now message f g)
    moved_running f = cc

    pub comes_late : {r : _} (delivery : Delivery) → MachineStands setup place g m r →
        is_expired (history_of g.book) message ≡ true → delivery.sent.messages.items ≡ [] → delivery.sent.came ≡ Went →
        delivery.ending ≡ ending.Expired → IsDelivered setup place g m now message delivery r
    comes_late delivery stands late none went ends =
        let nothing : asked ≡ AsksNothing = cc asked_by in
        let f = fortune_by m.at_last (GoesOn m.armed) in
        let same : history_of (readied f g.book) ≡ history_of g.book = history_ready f _ whole refl in
        record {
          goes = untouched _ stands nothing (λ f. cc (moved_running f)) none went;
          told = cc;
        }

    pub comes_in_time : {r delivery : _} → is_expired (history_of g.book) message ≡ false →
        IsTaken setup place g m now message delivery r → IsDelivered setup place g m now message delivery r
    comes_in_time lives taken =
        let asked_is : asked ≡ asked_to_ready g.book = cc asked_by in
        let s = sequel_on m (asked_to_ready g.book) in
        let same : moved_by s (taking (rules_in setup) now message) m g
        ≡ moved_by s (λ f. delivered (rules_in setup) now f message) m g =
        same_move s _ _ m g (λ f. cc (moved_running f)) in
        record {
          goes = rw asked_is (record { moved = rw same at taken.goes.moved; came = taken.goes.came });
          told = cc (taken.told lives);
        }

-- What a message makes of a broken gateway, by what comes of the opening of its journal.

-- The book that an opening again leaves.

whole_by : (v : BookValue) (at_last : Bool) →
    ((reopened v (if at_last then Whole else Gone)).is_broken ≡ false)
    × ((reopened v (if at_last then Whole else Gone)).rest ≡ [])
whole_by v true = (refl, refl)
whole_by v false = (refl, refl)

not_full : (v : BookValue) → v.rest ≡ [] → is_batch_full v ≡ false
not_full v is = cc

asks_nothing : (v : BookValue) → v.is_broken ≡ false → v.rest ≡ [] → asked_to_ready v ≡ AsksNothing
asks_nothing v whole none = cc (not_full v none)

is_ready : (f : Fortune) (v : BookValue) → v.is_broken ≡ false → v.rest ≡ [] → readied f v ≡ v
is_ready f v whole none = cc (not_full v none)

-- What is met, and what isn't.

abbrev met_as : Bool → Bool → Bool → Option Ending
met_as down broken late =
    if down then Some ending.Quiet
    else if broken then Some ending.Quiet
    else if late then Some ending.Expired
    else None

none_by : (down broken late : Bool) → met_as down broken late ≡ None → (down ≡ false) × (broken ≡ false) × (late ≡ false)
none_by down broken late is = grind arith

some_by : (late : Bool) (e : Ending) → met_as false false late ≡ Some e → (late ≡ true) × (e ≡ ending.Expired)
some_by late e is = grind arith

module _ (setup : Setup) (place : ℕ) (g : Gateway) (m : Machine) (now : ℕ) (message : Message)
    (runs : g.is_down ≡ false) (breaks : g.book.is_broken ≡ true) where
  abbrev move : Fortune → Gateway → Moved
  move f h = delivered (rules_in setup) now f message h

  abbrev first : Sequel → Moved
  first s = moved_by s committing m g

  abbrev later : Gateway → Moved
  later h = answered (rules_in setup) now message h

  -- what is told and done where this came
  pub record Comes (s : Sequel) (messages : List Message) (e : Ending) (r : real.Machine) : Type 0 where
    pub moved : HasMoved setup place (moved_by s move m g) (machine_with m s) messages r
    pub told : e ≡ ending_by (rules_in setup) g m.at_last message s

  -- It goes on.
  module _ (f : Fortune) (whole : (reopened g.book f.reopening).is_broken ≡ false)
      (none : (reopened g.book f.reopening).rest ≡ []) where
    abbrev w : BookValue
    w = reopened g.book f.reopening

    abbrev h : Gateway
    h = (committing f g).gateway

    opened_is : committing f g ≡ settling (record g { book = w })
    opened_is = reopens setup now message g runs breaks f ∙ unbroken w g whole

    book_is : h.book ≡ w
    book_is = ap (λ (mv : Moved). mv.gateway.book) opened_is

    h_runs : h.is_down ≡ false
    h_runs = ap (λ (mv : Moved). mv.gateway.is_down) opened_is ∙ runs

    h_whole : h.book.is_broken ≡ false
    h_whole = cc book_is

    h_none : h.book.rest ≡ []
    h_none = cc book_is

    readied_is : readied f g.book ≡ w
    readied_is = cc

    history_is : history_of (readied f g.book) ≡ history_of h.book
    history_is = cc (readied_is, book_is)

    -- the message is expired, or it is taken
    moved_as : (late : Bool) → is_expired (history_of h.book) message ≡ late →
        move f g ≡ after (committing f g) (if late then still h else later h)
    moved_as late is =
        moved_broken setup now message g runs breaks f
        ∙ ap (λ b. after (committing f g) (if b then still h
        else (if is_expired (history_of h.book) message then still h else later h))) h_whole
        ∙ ap (λ b. after (committing f g) (if b then still h else later h)) is

    -- as it is by a gateway that is ready
    taking_is : (q : Fortune) → taking (rules_in setup) now message q h ≡ after (still h) (later h)
    taking_is q =
        ap (λ b. followed (if b || is_batch_full h.book then committing q h else still h)
        (if_broken (failed message) (answered (rules_in setup) now message))) h_whole
        ∙ ap (λ b. followed (if b then committing q h else still h)
        (if_broken (failed message) (answered (rules_in setup) now message))) (not_full h.book h_none)
        ∙ ap (λ b. after (still h) (if b then failed message h else later h)) h_whole

  -- By what came.

  untaken : (s : Sequel) (e : Ending) {messages : _} (mid : real.Machine) → met_by (first s).gateway message ≡ Some e →
      HasMoved setup place (first s) (machine_with m s) messages mid → Comes s messages e mid
  untaken (GoesOn armed) e mid meets has =
      let f = fortune_by m.at_last (GoesOn armed) in
      let left = whole_by g.book m.at_last in
      let there = h f left.0 left.1 in
      let is = some_by _ e
      (sym
      (ap (λ b. met_as b there.book.is_broken (is_expired (history_of there.book) message)) (h_runs f left.0 left.1)
      ∙ ap (λ b. met_as false b (is_expired (history_of there.book) message)) (h_whole f left.0 left.1)) ∙ meets) in
      record {
        moved = rw (moved_as f left.0 left.1 true is.0) (record {
          stands = has.stands;
          sends = has.sends ∙ sym (append-nil (committing f g).sends);
        });
        told = cc (is.1, history_is f left.0 left.1, is.0);
      }
  untaken (Breaks last) e {messages} mid meets has =
      let f : Fortune = fortune_by m.at_last (Breaks last) in
      let torn : BookValue = faulted g.book in
      let is : committing f g ≡ giving_up (record g { book = torn }) =
      reopens setup now message g runs breaks f ∙ broken torn g refl in
      let there : Gateway = (committing f g).gateway in
      let h_breaks : there.book.is_broken ≡ true = ap (λ (mv : Moved). mv.gateway.book.is_broken) is in
      let h_runs : there.is_down ≡ false = ap (λ (mv : Moved). mv.gateway.is_down) is ∙ runs in
      let same : ending.Quiet ≡ e = same_Some _ e (sym (met_broken there message h_runs h_breaks) ∙ meets) in
      let moves : move f g ≡ after (committing f g) (still there) =
      moved_broken setup now message g runs breaks f
      ∙ ap (λ (b : Bool). after (committing f g) (if b then still there
      else (if is_expired (history_of there.book) message then still there else later there))) h_breaks in
      record {
        moved = rw moves (record { stands = has.stands; sends = has.sends ∙ sym (append-nil (committing f g).sends) });
        told = sym same
            ∙ sym (ap (λ (b : Bool). if b then ending.Quiet else decided_ending (decided (failure_answer
            (prepared_of message.octets)))) breaks);
      }
  untaken (Stops stands) e mid meets has = record {
    moved = has;
    told = cc (same_Some ending.Quiet e meets);
  }

  taken_then : (s : Sequel) {messages delivery : _} (new : real.Machine) →
      met_by (first s).gateway message ≡ None → messages ≡ (first s).sends →
      HasMore setup place (first s).gateway (machine_with m s) now message messages delivery new →
      Comes s delivery.sent.messages.items delivery.ending new × (delivery.sent.came ≡ came_of s)
  taken_then (GoesOn armed) new meets sends more =
      let f = fortune_by m.at_last (GoesOn armed) in
      let left = whole_by g.book m.at_last in
      let there = h f left.0 left.1 in
      let q = fortune_by false (GoesOn armed) in
      let lives = (none_by _ _ _ meets).2 in
      let nothing = asks_nothing there.book (h_whole f left.0 left.1) (h_none f left.0 left.1) in
      let goes = rw nothing at more.taken.goes in
      let done = rw (taking_is f left.0 left.1 q) at goes.moved in (
        record {
          moved = rw (moved_as f left.0 left.1 false lives)
              (record { stands = done.stands; sends = cc (more.messages, done.sends) });
          told = cc (
            more.ending,
            more.taken.told lives,
            h_runs f left.0 left.1,
            is_ready q there.book (h_whole f left.0 left.1) (h_none f left.0 left.1),
            history_is f left.0 left.1,
          );
        },
        more.came ∙ goes.came,
      )
  taken_then (Breaks last) new meets sends more =
      let f : Fortune = fortune_by m.at_last (Breaks last) in
      let is : committing f g ≡ giving_up (record g { book = faulted g.book }) =
      reopens setup now message g runs breaks f ∙ broken (faulted g.book) g refl in
      let there : Gateway = (committing f g).gateway in
      let h_breaks : there.book.is_broken ≡ true = ap (λ (mv : Moved). mv.gateway.book.is_broken) is in
      let whole = (none_by there.is_down there.book.is_broken (is_expired (history_of there.book) message) meets).1 in
      absurd (cc)
  taken_then (Stops stands) new meets sends more = cc

  -- Together.

  abbrev s : Sequel
  s = sequel_on m AsksReopening

  -- what its journal's opening made of it
  pub opening_moved : {sent mid : _} → GoesAsArmed setup place (asked_to_commit g.book) committing g m sent mid →
      GoesAsArmed setup place AsksReopening committing g m sent mid
  opening_moved goes = rw (commits_broken setup now message g runs breaks) at goes

  delivered_as : (delivery : Delivery) {r : _} → Comes s delivery.sent.messages.items delivery.ending r →
      delivery.sent.came ≡ came_of s → IsDelivered setup place g m now message delivery r
  delivered_as delivery comes came =
      let asks = asked_by_broken setup now message g runs breaks in
      record {
        goes = rw asks (record { moved = comes.moved; came = came });
        told = cc (comes.told);
      }

  -- it isn't taken
  pub met_there : {sent : _} (e : Ending) {mid : _} →
      GoesAsArmed setup place (asked_to_commit g.book) committing g m sent mid →
      ((k : Gateway) (n : Machine) → MachineStands setup place k n mid → Some e ≡ met_by k message) →
      IsDelivered setup place g m now message (record { sent = sent; ending = e }) mid
  met_there e {mid} goes meets =
      let there = opening_moved goes in
      delivered_as _ (untaken s e mid (sym (meets (first s).gateway (machine_with m s) there.moved.stands)) there.moved)
      there.came

  -- it is
  pub runs_there : {sent mid : _} → GoesAsArmed setup place (asked_to_commit g.book) committing g m sent mid →
      ((k : Gateway) (n : Machine) → MachineStands setup place k n mid → None ≡ met_by k message) →
      ((first s).gateway.is_down ≡ false) × ((first s).gateway.book.is_broken ≡ false)
  runs_there goes meets =
      let k : Gateway = (first s).gateway in
      let all = none_by _ _ _ (sym (meets k (machine_with m s) (opening_moved goes).moved.stands)) in
      (all.0, all.1)

  pub taken_there : {sent mid new delivery : _} →
      GoesAsArmed setup place (asked_to_commit g.book) committing g m sent mid →
      ((k : Gateway) (n : Machine) → MachineStands setup place k n mid → None ≡ met_by k message) →
      HasMore setup place (first s).gateway (machine_with m s) now message sent.messages.items delivery new →
      IsDelivered setup place g m now message delivery new
  taken_there {new} goes meets more =
      let there = opening_moved goes in
      let done = taken_then s new (sym (meets (first s).gateway (machine_with m s) there.moved.stands))
      there.moved.sends more in
      delivered_as _ done.0 done.1
