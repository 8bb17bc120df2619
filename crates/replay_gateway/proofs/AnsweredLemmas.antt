-- What a gateway makes of a message, by what its book answers.
use Rattle.std.proofs.Common.{◌≡◌, ◌∙◌, refl, sym, ap, ℕ, Bool, true, false, if◌then◌else◌, All, subst, nat_le, not, List, [], ◌∷◌, ◌++◌, length, map, filter, Option, None, arith, Some}
use Rattle.replay_gateway.proofs.Names.{acting, AfterCall, answer_at, answered, answering, append-nil, Armed, Asked, asked_to_ready, AsksNothing, BookValue, Breaks, came_of, cause_in, Decided, decided, decided_ending, Delivery, dropped_as, Ending, ending_at, ending_by, Failed, failed, failed_by, failure_answer, firm_in, followed, Fortune, fortune_by, Gateway, given_at, giving_up, GoesAsArmed, GoesOn, HasAnswered, HasMoved, history_of, HistoryAct, if_broken, is_expired, is_reached, is_stop, IsAnswered, IsCalled, IsTaken, Left, left_by, Machine, machine_after, machine_with, Message, Moved, moved_after, moved_by, no_caller, node_address, Nothing, Outcome, outcome_at, prepared_of, readied, recorded_if, rules_in, Says, Sent, Sequel, sequel_on, settling, Setup, Silent, Stops, taken_of, taking, Waiting, waits_then, Went, with_book}
use Rattle.gtpp_message.specs.declared.reading.Why.{Why}
use Rattle.replay_gateway.proofs.GoesLemmas.{after, broken, readying_is, unbroken, Tells, goes_as_armed, rearmed, site_tells, recorded_firm}
use Rattle.gateway_book.specs.declared.outcome.Outcome.TheVariants as outcome
use Rattle.gateway_book.specs.declared.outcome.Receipt.{Receipt}
use Rattle.replay_gateway.specs.declared.machine.Came.{Came}
use Rattle.replay_gateway.specs.declared.machine.Machine as real
use Rattle.replay_gateway.specs.declared.taking.Ending.TheVariants as ending
use Rattle.replay_gateway.proofs.CallLemmas.{failure_acts, none_reached}

-- What a gateway makes of a message, by what its book answers.

-- what a ready book answers to the datagram that a message is
abbrev pub decision_at : Setup → Message → BookValue → Decided
decision_at setup m ready = decided (given_at ready (node_address m.node m.port) (prepared_of m.octets) setup.size)

broken_decides : (setup : Setup) (m : Message) (v : BookValue) → v.is_broken ≡ true →
    decision_at setup m v ≡ decided (failure_answer (prepared_of m.octets))
broken_decides setup m v is = cc

ready_decides : (setup : Setup) (m : Message) (v : BookValue) → v.is_broken ≡ false →
    decision_at setup m v ≡ answer_at (rules_in setup) (history_of v) m
ready_decides setup m v is = cc

module _ (setup : Setup) (now : ℕ) (m : Message) where
  abbrev pub answers : Gateway → Moved
  answers = if_broken (failed m) (answered (rules_in setup) now m)

  -- a broken one
  pub broken_answers : (ready : BookValue) (g : Gateway) → ready.is_broken ≡ true →
      followed (with_book ready g) answers
      ≡ after (giving_up (record g { book = ready }))
      (failed_by m (giving_up (record g { book = ready })).gateway (decision_at setup m ready))
  broken_answers ready g is =
      let given_up = giving_up (record g { book = ready }) in
      ap (λ first. followed first answers) (broken ready g is)
      ∙ ap
      (λ b. after given_up (if b then failed m given_up.gateway else answered (rules_in setup) now m given_up.gateway))
      is ∙ ap (λ d. after given_up (failed_by m given_up.gateway d)) (sym (broken_decides setup m ready is))

  -- one that isn't
  pub ready_answers : (ready : BookValue) (g : Gateway) → ready.is_broken ≡ false →
      followed (with_book ready g) answers
      ≡ after (settling (record g { book = ready }))
      (acting now (settling (record g { book = ready })).gateway m (decision_at setup m ready))
  ready_answers ready g is =
      let settled = settling (record g { book = ready }) in
      ap (λ first. followed first answers) (unbroken ready g is)
      ∙ ap
      (λ b. after settled (if b then failed m settled.gateway else answered (rules_in setup) now m settled.gateway)) is
      ∙ ap (λ d. after settled (acting now settled.gateway m d)) (sym (ready_decides setup m ready is))

  -- Nothing is answered: the book moved, and nothing else.
  dropped_by : (ready : BookValue) (g : Gateway) {why : _} (b : Bool) → ready.is_broken ≡ b →
      decision_at setup m ready ≡ Silent why → followed (with_book ready g) answers ≡ with_book ready g
  dropped_by ready g true is silent =
      let given_up = giving_up (record g { book = ready }) in
      cc (broken_answers ready g is, append-nil given_up.sends, broken ready g is)
  dropped_by ready g false is silent =
      let settled = settling (record g { book = ready }) in
      cc (ready_answers ready g is, append-nil settled.sends, unbroken ready g is)

  pub dropped_is : (f : Fortune) (g : Gateway) (why : Why) → All (λ w. is_reached g.book w ≡ false) g.waiting →
      decision_at setup m (readied f g.book) ≡ Silent why →
      taking (rules_in setup) now m f g ≡ with_book (readied f g.book) g
  dropped_is f g why none silent =
      ap (λ first. followed first answers) (readying_is setup f g none)
      ∙ dropped_by (readied f g.book) g (readied f g.book).is_broken refl silent

-- A gateway that answered a message, once its answer was added to what it sends or to what waits.

-- What an answer says.

pub record Said (decision : Decided) (book : BookValue) (receipt : Receipt) : Type 0 where
  pub octets : List ℕ
  pub act : Option HistoryAct
  pub is : decision ≡ Says octets act
  pub reply : receipt.reply ≡ octets
  pub front : receipt.front ≡ length (history_of book)

pub said : (book : BookValue) (decision : Decided) (receipt : Receipt) →
    outcome_at book decision ≡ outcome.Answer receipt → Said decision book receipt
said book (Silent why) receipt is = cc
said book (Says octets act) receipt is =
    let same : record { reply = octets; cause = cause_in octets; front = length (history_of book); faults = book.cuts }
    ≡ receipt = cc in
    record { octets = octets; act = act; is = refl; reply = cc; front = cc }

pub silent : (book : BookValue) (decision : Decided) (why : Why) → outcome_at book decision ≡ outcome.Drop why →
    decision ≡ Silent why
silent book decision why is = grind arith

-- What is recorded doesn't change whether the book is broken.

recorded_broken : (v : BookValue) (now : ℕ) (act : Option HistoryAct) → (recorded_if v now no_caller act).is_broken ≡ v.is_broken
recorded_broken v now None = refl
recorded_broken v now (Some act) = refl

module _ (setup : Setup) (place : ℕ) where
  -- what else the gateway has doesn't matter to its site
  -- of a book that isn't broken nobody asks how it broke
  machine_stays : (asked : Asked) (m : Machine) (moved : Moved) (sends : List Message) (r : real.Machine) →
      (asked ≡ AsksNothing → moved.gateway.book.is_broken ≡ false) →
      HasMoved setup place moved (machine_with m (sequel_on m asked)) sends r →
      HasMoved setup place moved (machine_after asked m) sends r
  machine_stays AsksNothing m moved sends r whole has =
      record { stands = rearmed setup place m (whole refl) has.stands; sends = has.sends }
  machine_stays _ m moved sends r whole has = has

-- By what came of the call.
module _ (setup : Setup) (place : ℕ) (g : Gateway) (m : Machine) (now : ℕ) (message : Message) (ready : BookValue) where
  module _ (octets : List ℕ) (act : Option HistoryAct) (reply : decision_at setup message ready ≡ Says octets act)
      (runs : g.is_down ≡ false) where
    abbrev v : BookValue
    v = recorded_if ready now no_caller act

    abbrev answer : Message
    answer = answering message octets

    abbrev settled : Moved
    settled = settling (record g { book = ready })

    abbrev ws : List Waiting
    ws = settled.gateway.waiting ++ record { front = length (history_of v); message = answer } ∷ []

    -- what it comes to where the book goes on
    abbrev on : Moved
    on = record {
      gateway = record settled.gateway { book = v; waiting = filter (λ w. not (is_reached v w)) ws };
      sends = settled.sends ++ map (λ w. w.message) (filter (is_reached v) ws);
    }

    on_is : ready.is_broken ≡ false → followed (with_book ready g) (answers setup now message) ≡ on
    on_is whole =
        ready_answers setup now message ready g whole
        ∙ ap (λ d. after settled (acting now settled.gateway message d)) reply

    module _ (first messages : List Message) (mid new : real.Machine) where
      went_on : (armed : Armed) →
          HasMoved setup place (settling (record g { book = v })) (record m { armed = armed; at_last = false }) first mid →
          IsAnswered Went message octets (length (history_of v)) first mid messages new →
          HasMoved setup place on (record m { armed = armed; at_last = false }) messages new
      went_on armed has done =
          let count : length v.firm ≡ length ready.firm = cc (recorded_firm ready now no_caller act) in
          let firm_is : firm_in mid.site ≡ length v.firm = grind (arith, has.stands.site) in
          let left : mid.waiting.items ≡ settled.gateway.waiting =
          has.stands.waiting ∙ ap (λ (n : ℕ). filter (λ (w : Waiting). not (nat_le w.front n)) g.waiting) count in
          let ws_are : waits_then message octets (length (history_of v)) mid ≡ ws = cc in
          record {
            stands = rw done.2 (record {
              site = grind (arith, has.stands.site);
              waiting = done.1
                  ∙ ap (λ (n : ℕ). filter (λ (w : Waiting). not (nat_le w.front n))
                  (waits_then message octets (length (history_of v)) mid)) firm_is
                  ∙ ap (λ (us : List Waiting). filter (λ w. not (is_reached v w)) us) ws_are;
              unreached = none_reached v ws;
              redirects = has.stands.redirects;
              named = has.stands.named;
              writes = has.stands.writes;
            });
            sends = done.0
                ∙ ap (λ n. first ++ map (λ (w : Waiting). w.message) (filter (λ (w : Waiting). nat_le w.front n)
                (waits_then message octets (length (history_of v)) mid))) firm_is
                ∙ ap (λ us. first ++ map (λ (w : Waiting). w.message) (filter (is_reached v) us)) ws_are
                ∙ ap (λ ms. ms ++ map (λ (w : Waiting). w.message) (filter (is_reached v) ws))
                (has.sends ∙ ap (λ n. map (λ (w : Waiting). w.message)
                (filter (λ (w : Waiting). nat_le w.front n) g.waiting)) count);
          }

      broke : (last : Bool) → ready.is_broken ≡ true →
          HasMoved setup place (giving_up (record g { book = v })) (record m { armed = Nothing; at_last = last }) first mid →
          IsAnswered Failed message octets (length (history_of v)) first mid messages new →
          HasMoved setup place (followed (with_book ready g) (answers setup now message))
          (record m { armed = Nothing; at_last = last }) messages new
      broke last is has done =
          let nothing : act ≡ None =
          cc (failure_acts (prepared_of message.octets), broken_decides setup message ready is, reply) in
          let same : v ≡ ready = cc in
          let given_up = giving_up (record g { book = ready }) in
          let there = rw same at has in
          let told : Moved = record { gateway = given_up.gateway; sends = given_up.sends ++ answer ∷ [] } in
          let told_is : followed (with_book ready g) (answers setup now message) ≡ told =
          cc (broken_answers setup now message ready g is) in
          rw told_is (record { stands = rw done.1 there.stands; sends = cc (done.0, there.sends) })

      -- what came decides it
      by_sequel : (s : Sequel) → Tells s v →
          (is_stop s ≡ false → taking (rules_in setup) now message (fortune_by m.at_last s) g
          ≡ followed (with_book ready g) (answers setup now message)) →
          HasMoved setup place (moved_after s v g) (machine_with m s) first mid →
          IsAnswered (came_of s) message octets (length (history_of v)) first mid messages new →
          HasMoved setup place (moved_by s (taking (rules_in setup) now message) m g) (machine_with m s) messages new
      by_sequel (GoesOn armed) tells moves has done =
          rw (moves refl ∙ on_is (sym (recorded_broken ready now act) ∙ tells)) (went_on armed has done)
      by_sequel (Breaks last) tells moves has done =
          rw (moves refl) (broke last (sym (recorded_broken ready now act) ∙ tells) has done)
      by_sequel (Stops stands) tells moves has done = record {
        stands = rw done.1 has.stands;
        sends = done.0 ∙ has.sends;
      }

    -- of a gateway that was asked nothing the book isn't broken then
    whole_then : (s : Sequel) → s ≡ GoesOn m.armed → Tells s v →
        (is_stop s ≡ false → taking (rules_in setup) now message (fortune_by m.at_last s) g
        ≡ followed (with_book ready g) (answers setup now message)) →
        (moved_by s (taking (rules_in setup) now message) m g).gateway.book.is_broken ≡ false
    whole_then (GoesOn armed) is tells moves =
        ap (λ (moved : Moved). moved.gateway.book.is_broken)
        (moves refl ∙ on_is (sym (recorded_broken ready now act) ∙ tells)) ∙ tells
    whole_then _ is tells moves = cc

-- A gateway that took a message and answered it went as its area is armed.
pub answered_goes : (setup : Setup) (place : ℕ) (g : Gateway) (m : Machine) (now : ℕ) (message : Message) →
    All (λ w. is_reached g.book w ≡ false) g.waiting → g.is_down ≡ false →
    (let s = sequel_on m (asked_to_ready g.book) in
    let ready = readied (fortune_by m.at_last s) g.book in
    (octets : List ℕ) (act : Option HistoryAct) → decision_at setup message ready ≡ Says octets act →
    (called mid new : real.Machine) (sent : Sent) (delivery : Delivery) →
    IsCalled setup place g m (recorded_if ready now no_caller act) s called →
    AfterCall setup place g m (recorded_if ready now no_caller act) s sent mid →
    HasAnswered message octets (length (history_of (recorded_if ready now no_caller act))) sent mid delivery new →
    GoesAsArmed setup place (asked_to_ready g.book) (taking (rules_in setup) now message) g m delivery.sent new)
answered_goes setup place g m now message none runs octets act reply called mid new sent delivery is_called after_it
    answered =
    let asked : Asked = asked_to_ready g.book in
    let s : Sequel = sequel_on m asked in
    let ready : BookValue = readied (fortune_by m.at_last s) g.book in
    let v : BookValue = recorded_if ready now no_caller act in
    let tells = site_tells setup place v s called.site is_called.site in
    let moves : taking (rules_in setup) now message (fortune_by m.at_last s) g
    ≡ followed (with_book ready g) (answers setup now message) =
    ap (λ first. followed first (answers setup now message)) (readying_is setup (fortune_by m.at_last s) g none) in
    let done : IsAnswered (came_of s) message octets (length (history_of v)) sent.messages.items mid
    delivery.sent.messages.items new = rw after_it.came at answered.done in
    record {
      moved = machine_stays setup place asked m (moved_by s (taking (rules_in setup) now message) m g)
          delivery.sent.messages.items new
          (λ asks. whole_then setup place g m now message ready octets act reply runs s (ap (sequel_on m) asks)
          tells (λ goes. moves))
          (by_sequel setup place g m now message ready octets act reply runs sent.messages.items
          delivery.sent.messages.items mid new s tells (λ goes. moves) after_it.moved done);
      came = answered.came ∙ after_it.came;
    }

-- What is told of the message.

abbrev pub told_of : Sequel → Decided → Ending
told_of (Stops stands) d = ending.Quiet
told_of _ d = decided_ending d

pub history_ready : (f : Fortune) (v : BookValue) → v.is_broken ≡ false → f.fails ≡ false →
    history_of (readied f v) ≡ history_of v
history_ready f v whole is = grind (arith, append-nil)

module _ (setup : Setup) (place : ℕ) (g : Gateway) (m : Machine) (now : ℕ) (message : Message)
    (runs : g.is_down ≡ false) (whole : g.book.is_broken ≡ false)
    (lives : is_expired (history_of g.book) message ≡ false) where
  told_by : (s : Sequel) → Tells s (readied (fortune_by m.at_last s) g.book) →
      ending_by (rules_in setup) g m.at_last message s
      ≡ told_of s (decision_at setup message (readied (fortune_by m.at_last s) g.book))
  told_by (GoesOn armed) tells =
      let ready = readied (fortune_by m.at_last (GoesOn armed)) g.book in
      let same : history_of ready ≡ history_of g.book = history_ready _ _ whole refl in
      cc (ready_decides setup message ready tells)
  told_by (Breaks last) tells =
      cc (broken_decides setup message (readied (fortune_by m.at_last (Breaks last)) g.book) tells)
  told_by (Stops stands) tells = refl

  pub told_is : (s : Sequel) → Tells s (readied (fortune_by m.at_last s) g.book) →
      ending_at (rules_in setup) g m.at_last message s
      ≡ told_of s (decision_at setup message (readied (fortune_by m.at_last s) g.book))
  told_is s tells = cc (told_by s tells)

pub dropped_told : (s : Sequel) (why : Why) → dropped_as (came_of s) why ≡ told_of s (Silent why)
dropped_told (GoesOn armed) why = refl
dropped_told _ why = refl

pub answered_told : (s : Sequel) (octets : List ℕ) (act : Option HistoryAct) →
    ending.Quiet ≡ told_of s (Says octets act)
answered_told (GoesOn armed) octets act = refl
answered_told _ octets act = refl

tells_ready : (s : Sequel) (ready : BookValue) (now : ℕ) (act : Option HistoryAct) →
    Tells s (recorded_if ready now no_caller act) → Tells s ready
tells_ready s ready now act tells = grind (arith, recorded_broken)

-- A gateway that isn't broken took a message.
module _ (setup : Setup) (place : ℕ) (g : Gateway) (m : Machine) (now : ℕ) (message : Message)
    (none : All (λ w. is_reached g.book w ≡ false) g.waiting) (runs : g.is_down ≡ false)
    (whole : g.book.is_broken ≡ false) where
  abbrev sequel : Sequel
  sequel = sequel_on m (asked_to_ready g.book)

  abbrev is_ready : BookValue
  is_ready = readied (fortune_by m.at_last sequel) g.book

  abbrev decision : Decided
  decision = decision_at setup message is_ready

  abbrev left : Left Outcome
  left = taken_of setup m g message now sequel

  -- its answer was dropped
  pub taken_dropped : {why called mid : _} (sent : Sent) (delivery : Delivery) →
      left.answer ≡ outcome.Drop why → IsCalled setup place g m left.value sequel called →
      AfterCall setup place g m left.value sequel sent mid → delivery.sent ≡ sent →
      delivery.ending ≡ dropped_as sent.came why → IsTaken setup place g m now message delivery mid
  taken_dropped {why} {called} {mid} sent delivery answer is_called after_it same ends =
      let silent_is : decision ≡ Silent why = silent left.value decision why answer in
      let value_is : left.value ≡ is_ready = ap (λ d. (left_by is_ready now no_caller d).value) silent_is in
      let tells : Tells sequel is_ready =
      rw value_is at (site_tells setup place left.value sequel called.site is_called.site) in
      record {
        goes = subst
            (λ q. GoesAsArmed setup place (asked_to_ready g.book) (taking (rules_in setup) now message) g m q mid)
            (sym same)
            (goes_as_armed setup place g m (asked_to_ready g.book) (taking (rules_in setup) now message) left.value
            {old = called} sent {new = mid} is_called
            (λ goes. dropped_is setup now message (fortune_by m.at_last sequel) g why none silent_is
            ∙ ap (λ v. with_book v g) (sym value_is)) after_it);
        told = λ lives. ends ∙ ap (λ (c : Came). dropped_as c why) after_it.came ∙ dropped_told sequel why
            ∙ ap (λ (d : Decided). told_of sequel d) (sym silent_is)
            ∙ sym (told_is setup place g m now message runs whole lives sequel tells);
      }

  -- it was added
  pub taken_answered : {receipt called mid new : _} (sent : Sent) {delivery : _} →
      left.answer ≡ outcome.Answer receipt → IsCalled setup place g m left.value sequel called →
      AfterCall setup place g m left.value sequel sent mid →
      HasAnswered message receipt.reply receipt.front sent mid delivery new →
      IsTaken setup place g m now message delivery new
  taken_answered {receipt} {called} {mid} {new} sent {delivery} answer is_called after_it answered =
      let says = said left.value decision receipt answer in
      let v : BookValue = recorded_if is_ready now no_caller says.act in
      let value_is : left.value ≡ v = ap (λ (d : Decided). (left_by is_ready now no_caller d).value) says.is in
      let called_there = subst (λ b. IsCalled setup place g m b sequel called) value_is is_called in
      let after_there = subst (λ b. AfterCall setup place g m b sequel sent mid) value_is after_it in
      let answered_there = subst (λ b. HasAnswered message says.octets (length (history_of b)) sent mid delivery new)
      value_is (subst (λ n. HasAnswered message says.octets n sent mid delivery new) says.front
      (subst (λ o. HasAnswered message o receipt.front sent mid delivery new) says.reply answered)) in
      let tells : Tells sequel is_ready =
      tells_ready sequel is_ready now says.act (site_tells setup place v sequel called.site called_there.site) in
      record {
        goes = answered_goes setup place g m now message none runs says.octets says.act says.is called mid new sent
            delivery called_there after_there answered_there;
        told = λ lives. answered.quiet ∙ answered_told sequel says.octets says.act
            ∙ ap (λ (d : Decided). told_of sequel d) (sym says.is)
            ∙ sym (told_is setup place g m now message runs whole lives sequel tells);
      }
