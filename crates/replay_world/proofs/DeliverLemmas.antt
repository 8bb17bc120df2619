-- Messages that are delivered, to a gateway or to a node, and one after the other.
use Rattle.std.proofs.Common.{◌≡◌, refl, ℕ, ◌-◌, ◌==◌, ◌≤◌, ◌<◌, Bool, not, if◌then◌else◌, List, [], ◌∷◌, length, Some, None, slice_get, arith, ◌∙◌, sym, ap, subst, ◌+◌, ◌&&◌, true, false, ◌++◌, set, append-nil, suc, ◌%◌, cond, map, drop, get_or, drop-cons, eq-eqb, ne_eqb}
use Rattle.replay_world.proofs.Names.{after_step, after_steps, All-filter, AllByRecursion, asked_by_message, asked_of, asked_to_ready, AsksNothing, at_gateway, calm, came_notices, delivered, delivers, delivery_notices, DoesAll, DoesOrEnds, ending_at, ending_notices, Event, Fortune, Gateway, gateway_moved, goes_on_after, GoesAsArmed, HasSent, history_of, is_expired, is_none_of, is_stop, IsDelivered, IsDistinct, IsReceiver, IsTo, Lcg, Loses, lot_steps, Machine, Message, mixed_steps, Moved, nat_tests, no_running_gateway, NoMessage, notice_lines, notices_last, option_map_or, passed, pcg32, pcg32_of_seed, place_asked, Plays, receiver_of, refusal_of, refusing, Replay, ReplayValue, rules_in, seeded, sequel_on, site_of, slice_get-get_or, slice_get_past, slice_get_within, Stands, Step, turn, turn_at, turn_by, unless_refused, WereSent, without, World, world_after}
use Rattle.once_core.specs.declared.event.Event.TheVariants as event
use Rattle.replay_world.proofs.GatewayEventLemmas.{none_of, refused_not, does_event, moves_at, IsAt, site_is}
use Rattle.replay_gateway.specs.declared.taking.Ending.{Ending}
use Rattle.replay_world.proofs.NodeEventLemmas.{does_nothing, drop_all}
use Rattle.replay_world.proofs.TakenSteps.{is_there}
use Rattle.std.specs.Set.{remove_key}
use Rattle.replay_world.proofs.StepsLemmas.{does_one, steps_more}
use Rattle.rand_core.specs.Pcg32Seed.{pcg32_seed}

-- A message that is delivered: it waits no more, and goes to a gateway or to a node.

-- It waits no more.
pub passed_stands : (v : ReplayValue) (number : ℕ) {old : _} (new : Replay) → Stands v old →
    new ≡ record old { waiting = new.waiting } → new.waiting.keys ≡ without number old.waiting.keys →
    Stands (passed number v) new
passed_stands v number new stands rest keys =
    let waits : new.waiting.keys ≡ without number v.waiting = cc stands.waits in
    let sent = All-filter (λ n. not (n == number)) (λ n. n ≤ length v.world.messages) v.waiting stands.sent in
    let from_one = All-filter (λ n. not (n == number)) (λ n. 1 ≤ n) v.waiting stands.from_one in
    rw rest assumption

module _ (v : ReplayValue) (number : ℕ) (old : Replay) (stands : Stands (passed number v) old)
    (allowed : refusal_of v.world (event.Deliver number) ≡ None) where
  numbers : (1 ≤ number) × (number ≤ length v.world.messages)
  numbers = none_of _ _ (refused_not _ _ allowed)

  messages_are : old.messages.items ≡ v.world.messages
  messages_are = stands.messages

  -- it was sent
  pub no_message : {A : Type 0} → slice_get old.messages.items (number - 1) ≡ None → A
  no_message {A = A} none = by v.world.messages refl
    where
      by : (ms : List Message) → v.world.messages ≡ ms → A
      by [] is = absurd (omega (arith, (rw is at numbers.1), numbers.0))
      by (m ∷ ms) is =
          let within : number - 1 < length old.messages.items = rw messages_are (omega (arith, numbers.0, numbers.1)) in
          cc (slice_get-get_or old.messages.items (number - 1) m within)

  -- to the gateway, or the node, that it says
  pub is_to : {m : _} → slice_get old.messages.items (number - 1) ≡ Some m → (b : Bool) → m.to_gateway ≡ b →
      IsTo v number b (if b then m.gateway else m.node)
  is_to {m} is b side = record { message = m; sent = cc messages_are; numbered = numbers.0; side = side; at = cc }

-- A message that comes to a gateway.

module _ (v : ReplayValue) (number place : ℕ) (to : IsTo v number true place) where
  abbrev m : Message
  m = to.message

  abbrev e : Event
  e = event.Deliver number

  -- the number of its gateway, from 1
  abbrev at : ℕ
  at = place + 1

  back : place ≡ at - 1
  back = omega arith

  gateway_is : m.gateway ≡ place
  gateway_is = cc (to.side, to.at)

  asks : place_asked v.world e ≡ Some (at - 1)
  asks = cc (to.sent, to.side, gateway_is, back)

  asked_is : (g : Gateway) → asked_of v.world g e ≡ asked_by_message g m
  asked_is g = cc to.sent

  allowed : refusal_of v.world e ≡ None
  allowed =
      let from_one = to.numbered in
      let there = is_there (length v.world.messages) number from_one
      (omega (arith, (slice_get_within v.world.messages (number - 1) m to.sent))) in
      cc

  moves : (f : Fortune) → turn_by (rules_in v.setup) v.world (record { event = e; fortune = f; is_lost = false; held = None }) e
      ≡ at_gateway v.world (at - 1) (delivered (rules_in v.setup) v.world.now f m)
  moves f = cc (to.sent, to.side, gateway_is, back)

  last_is : notices_last v e ≡ option_map_or (delivery_notices v number m) (site_of v e) []
  last_is = cc (to.sent, to.side)

  -- Of a gateway that is there.
  module _ (g : Gateway) (machine : Machine) (has_gateway : slice_get v.world.gateways (at - 1) ≡ Some g)
      (has_machine : slice_get v.machines (at - 1) ≡ Some machine) where
    running : g.is_down ≡ false → no_running_gateway v.world at ≡ None
    running runs =
        let there = is_there (length v.world.gateways) at (omega arith)
        (omega (arith, (slice_get_within v.world.gateways (at - 1) g has_gateway))) in
        cc

    stops_running : (b : Bool) → g.is_down ≡ b →
        is_stop (sequel_on machine (if b then AsksNothing
        else (if not g.book.is_broken && is_expired (history_of g.book) m then AsksNothing else asked_to_ready g.book)))
        ≡ true → no_running_gateway v.world at ≡ None
    stops_running true down stops = absurd (cc)
    stops_running false down stops = running down

    here : IsAt v e at g machine (λ f. delivered (rules_in v.setup) v.world.now f m)
    here = record {
      asks = asks;
      from_one = omega arith;
      has_gateway = has_gateway;
      has_machine = has_machine;
      allowed = allowed;
      runs = λ stops. stops_running _ refl (sym (ap (λ a. is_stop (sequel_on machine a)) (asked_is g)) ∙ stops);
      moves = moves;
    }

    last_here : notices_last v e
        ≡ ending_notices number
        (ending_at (rules_in v.setup) g machine.at_last m (sequel_on machine (asked_by_message g m)))
    last_here = cc (last_is, site_is v e at g machine _ here, asked_is g)

    pub arrived : (before : List ℕ) {after told delivery r old : _} (mid : Replay) {new on : _} →
        Stands (passed number v) old → IsDelivered v.setup place g machine v.world.now m delivery r →
        mid ≡ record old { gateways = mid.gateways } → mid.gateways.items ≡ set old.gateways.items place r →
        HasSent delivery.sent.messages.items (before ++ notice_lines (came_notices place delivery.sent.came)) after mid
        new →
        on ≡ goes_on_after delivery.sent.came → told ≡ after ++ notice_lines (ending_notices number delivery.ending) →
        DoesOrEnds v (Plays e) before told new on
    arrived before {after} {delivery} {r} {old} mid {new} stands done rest gateways sends on_is told_is =
        let move : Fortune → Gateway → Moved = λ f. delivered (rules_in v.setup) v.world.now f m in
        let goes = rw (← (asked_is g)) at
        (subst (λ k. GoesAsArmed v.setup k (asked_by_message g m) move g machine delivery.sent r) back done.goes) in
        does_event v e at g _ _ _ refl _ _ _ r old mid new stands
        (moves_at v e at _ g _ _ here refl _ _ _ r old mid new stands (sym back) goes rest gateways sends) on_is
        (told_is ∙ ap (λ ns. after ++ notice_lines ns)
        (ap (λ (told : Ending). ending_notices number told) done.told ∙ sym last_here))

  -- Of one that isn't there nothing comes.

  no_site : length v.world.gateways ≤ place → site_of v e ≡ None
  no_site beyond = cc (asks, back, slice_get_past v.world.gateways place beyond)

  world_stays : length v.world.gateways ≤ place → world_after v (Plays e) ≡ v.world
  world_stays beyond =
      ap (λ o. turn (rules_in v.setup) v.world (option_map_or (turn_at v e) o (calm e))) (no_site beyond)
      ∙ ap (λ o. unless_refused o v.world (turn_by (rules_in v.setup) v.world (calm e) e)) allowed
      ∙ moves (calm e).fortune
      ∙ ap (λ k. at_gateway v.world k (delivered (rules_in v.setup) v.world.now (calm e).fortune m)) (sym back)
      ∙ ap (λ o. option_map_or
      (λ g. gateway_moved v.world place (delivered (rules_in v.setup) v.world.now (calm e).fortune m g)) o v.world)
      (slice_get_past v.world.gateways place beyond)

  pub arrived_nowhere : (before : List ℕ) {old : _} → Stands (passed number v) old →
      length v.world.gateways ≤ place → DoesOrEnds v (Plays e) before before old true
  arrived_nowhere before stands beyond = record {
    does = does_nothing v e (no_site beyond) (cc (no_site beyond)) (world_stays beyond) _ stands
        (nothing before
        ∙ ap (λ ns. before ++ notice_lines ns)
        (sym (last_is ∙ ap (λ o. option_map_or (delivery_notices v number m) o []) (no_site beyond))));
    goes = cc (no_site beyond);
  }
    where
      nothing : (text : List ℕ) → text ≡ text ++ []
      nothing text = sym (append-nil text)

-- the message that comes is the one with its number
pub message_here : (v : ReplayValue) {number place : _} (to : IsTo v number true place) {old m : _} →
    Stands (passed number v) old → slice_get old.messages.items (number - 1) ≡ Some m → m ≡ to.message
message_here v to stands is = cc

-- Messages that are delivered one after the other.

-- A number that waits no more.

other_way : (a b : ℕ) → (a == b) ≡ false → (b == a) ≡ false
other_way a b is = ne_eqb b a (λ same. cc (eq-eqb a b (sym same)))

abbrev kept : ℕ → ℕ → List ℕ → Bool → List ℕ
kept number k ks b = cond (not b) (k ∷ without number ks) (without number ks)

untouched : (ks : List ℕ) (number : ℕ) → AllByRecursion (λ k. (number == k) ≡ false) ks → without number ks ≡ ks
untouched [] number others = refl
untouched (k ∷ ks) number others = cc (other_way _ k others.0, untouched ks number others.1)

removed_by : (ks : List ℕ) (number k : ℕ) (b : Bool) → (number == k) ≡ b → AllByRecursion (λ j. (k == j) ≡ false) ks →
    remove_key (λ j. number == j) ks ≡ without number ks →
    cond b ks (k ∷ remove_key (λ j. number == j) ks) ≡ kept number k ks (k == number)
removed_by ks number k b is others later = grind (arith, nat_tests, other_way, untouched)

pub removed : (ks : List ℕ) (number : ℕ) → IsDistinct (λ a b. a == b) ks →
    remove_key (λ k. number == k) ks ≡ without number ks
unfolding IsDistinct
removed [] number distinct = refl
removed (k ∷ ks) number distinct = removed_by ks _ k _ refl distinct.0 (removed ks number distinct.1)

-- it is lost
pub does_lose : (v : ReplayValue) (number : ℕ) (text : List ℕ) {r : _} → Stands (passed number v) r →
    DoesAll v (Loses number ∷ []) text text r true
does_lose v number text {r} stands =
    let waits : (after_step v (Loses number)).waiting ≡ without number v.waiting =
    cc (drop_all v.world.messages, append-nil (without number v.waiting)) in
    does_one {v = v} {step = Loses number} {before = text} {after = text} {r = r} {on = true}
    (record { does = record { stands = rw waits stands; prints = sym (append-nil text) }; goes = refl })

-- Where a message goes.

pub is_receiver : (v : ReplayValue) {number : _} (m : Message) →
    IsTo v number m.to_gateway (if m.to_gateway then m.gateway else m.node) → IsReceiver v number (Some (receiver_of m))
is_receiver v m is = grind arith

-- A message that was sent may come, whatever steps were made before.

pub may_come : (w : World) (number : ℕ) → 1 ≤ number → number ≤ length w.messages →
    refusal_of w (event.Deliver number) ≡ None
may_come w number some few = cc (is_there (length w.messages) number some few)

pub may_come_then : {v : _} (steps : List Step) {sent : _} (k : ℕ) {x : _} → WereSent v sent → k < length sent →
    x ≡ get_or sent k x → refusal_of (after_steps v steps).world (event.Deliver x) ≡ None
may_come_then {v} steps k {x} were less is =
    let few = rw (← is) at (were.most k x less) in
    may_come (after_steps v steps).world x (rw (← is) at (were.from_one k x less)) (omega (arith, (steps_more v steps)))

known : (count number : ℕ) → refusing (is_none_of count number) NoMessage ≡ None → (1 ≤ number) × (number ≤ count)
known count number none = none_of _ _ (refused_not _ _ none)

pub may_come_again : (v : ReplayValue) (steps : List Step) (x : ℕ) → refusal_of v.world (event.Deliver x) ≡ None →
    refusal_of (after_steps v steps).world (event.Deliver x) ≡ None
may_come_again v steps x none =
    let there = known _ x none in
    may_come (after_steps v steps).world x there.0 (omega (arith, (steps_more v steps)))

-- what waits was sent
pub waiting_sent : {v r ns : _} → Stands v r → ns ≡ r.waiting.keys → WereSent v ns
waiting_sent stands is =
    let same = sym (is ∙ stands.waits) in
    record { from_one = rw same at stands.from_one; most = rw same at stands.sent }

-- What is left of a list of them.

left_is : (xs : List ℕ) (k : ℕ) {x : _} → k < length xs → x ≡ get_or xs k x → drop k xs ≡ x ∷ drop (k + 1) xs
left_is xs k {x} less is =
    let next : suc k ≡ k + 1 = omega arith in
    cc (drop-cons xs k x less)

pub flow_left : (xs : List ℕ) (k : ℕ) {x : _} → k < length xs → x ≡ get_or xs k x →
    map delivers (drop k xs) ≡ (delivers x ∷ []) ++ map delivers (drop (k + 1) xs)
flow_left xs k less is = cc (left_is xs k less is)

pub mix_left : (g : Lcg) {h word : _} (xs : List ℕ) (k : ℕ) {x : _} → k < length xs → x ≡ get_or xs k x →
    (word, h) ≡ pcg32 g → mixed_steps g (drop k xs) ≡ lot_steps (word % 8) x ++ mixed_steps h (drop (k + 1) xs)
mix_left g xs k less is drawn = cc (left_is xs k less is)

-- Lots.

pub lot_lost : {lot : ℕ} (number : ℕ) → lot ≡ 0 → lot_steps lot number ≡ Loses number ∷ []
lot_lost number is = cc

pub lot_twice : {lot : ℕ} (number : ℕ) → lot ≡ 1 → lot_steps lot number ≡ delivers number ∷ delivers number ∷ []
lot_twice number is = cc

pub lot_waits : {lot : ℕ} (number : ℕ) → lot ≡ 2 → lot_steps lot number ≡ []
lot_waits number is = cc

pub lot_comes : {lot : ℕ} (number : ℕ) → (lot ≡ 0 → ⊥) → (lot ≡ 1 → ⊥) → (lot ≡ 2 → ⊥) →
    lot_steps lot number ≡ delivers number ∷ []
lot_comes {lot} number lost twice waits = cc (ne_eqb lot 0 lost, ne_eqb lot 1 twice, ne_eqb lot 2 waits)

-- The generator of a mix.

pub is_seeded : (seed : ℕ) {g : _} → g ≡ pcg32_of_seed (pcg32_seed 16 seed) → g ≡ seeded seed
unfolding seeded
is_seeded seed is = is
