-- What a turn leaves of a world: how many gateways and nodes there are, which of them run, and the moment.
use Rattle.std.proofs.Common.{take, ◌≡◌, ℕ, zero, suc, ◌≤◌, ◌-◌, ◌||◌, not, Bool, true, false, if◌then◌else◌, List, [], ◌∷◌, ◌++◌, length, Option, Some, None, slice_get, slice_set, refl, sym, ap, ◌∙◌, arith, length-append, length-set}
use Rattle.replay_world.proofs.Names.{acting, Addr, answer_at, answered, at_gateway, at_node, book_committing, call_entries, Called, closing, committing, cond_both, delivered, delivered_broken, delivered_running, delivered_to_node, delivering, draft_of, entries_from, Event, failed, failed_by, followed, Fortune, Gateway, gateway_address, hearing, history_of, if_broken, is_down_in, is_expired, is_expired_at_node, length-take, log_in, LogEntry, logged, lost_if, making_tick, marked, Message, Moved, nat_tests, node_called, node_value, NodeValue, option_map_or, PacketForm, place_of, Port, readying, recorded_where, refusal_of, Rules, runs, still, submitting, submitting_form, Taken, taken, taken_entries, ticking, Turn, turn, turn_by, unless_expired, unless_refused, World, WorldKind}
use Rattle.gateway_answer.specs.Answer.{Decided, Silent, Says, decided, failure_answer}
use Rattle.gateway_answer.specs.Preparing.{prepared_of}
use Rattle.gw_base.specs.declared.history.HistoryAct.{HistoryAct}
use Rattle.node_core.specs.Hearing as heard
use Rattle.node_core.specs.Reached as call
use Rattle.once_core.specs.declared.event.Event.TheVariants as event

-- ---- gateways that move, and stay up or down

abbrev pub Stays : (Gateway → Moved) → Type 0
Stays move = (g : Gateway) → (move g).gateway.is_down ≡ g.is_down

-- by a test
if_stays : (b : Bool) (first next : Moved) (down : Bool) → first.gateway.is_down ≡ down → next.gateway.is_down ≡ down →
    (if b then first else next).gateway.is_down ≡ down
if_stays true first next down is other = is
if_stays false first next down is other = other

pub committing_stays : (f : Fortune) → Stays (committing f)
committing_stays f g = if_stays (book_committing f g.book).is_broken _ _ _ refl refl

followed_stays : (first next : Gateway → Moved) → Stays first → Stays next → Stays (λ g. followed (first g) next)
followed_stays first next a b g = b (first g).gateway ∙ a g

readying_stays : (rules : Rules) (f : Fortune) → Stays (readying rules f)
readying_stays rules f g = if_stays (g.book.is_broken || rules.is_full g.book) _ _ _ (committing_stays f g) refl

broken_stays : (breaks goes_on : Gateway → Moved) → Stays breaks → Stays goes_on → Stays (if_broken breaks goes_on)
broken_stays breaks goes_on a b g = if_stays g.book.is_broken _ _ _ (a g) (b g)

answered_stays : (rules : Rules) (now : ℕ) (m : Message) → Stays (answered rules now m)
answered_stays rules now m g = by (answer_at rules (history_of g.book) m)
  where
    by : (d : Decided) → (acting now g m d).gateway.is_down ≡ g.is_down
    by (Silent why) = refl
    by (Says octets act) = refl

failed_stays : (m : Message) → Stays (failed m)
failed_stays m g = by (decided (failure_answer (prepared_of m.octets)))
  where
    by : (d : Decided) → (failed_by m g d).gateway.is_down ≡ g.is_down
    by (Silent why) = refl
    by (Says octets act) = refl

expired_stays : (m : Message) (deliver : Gateway → Moved) → Stays deliver → Stays (unless_expired m deliver)
expired_stays m deliver stays g = if_stays (is_expired (history_of g.book) m) _ _ _ refl (stays g)

delivered_stays : (rules : Rules) (now : ℕ) (f : Fortune) (m : Message) → Stays (delivered rules now f m)
delivered_stays rules now f m g =
    if_stays g.is_down _ _ _ refl
    (broken_stays (delivered_broken rules now f m) (delivered_running rules now f m) broken running g)
  where
    running : Stays (delivered_running rules now f m)
    running =
        expired_stays m (λ g. followed (readying rules f g) (if_broken (failed m) (answered rules now m)))
        (followed_stays (readying rules f) (if_broken (failed m) (answered rules now m)) (readying_stays rules f)
        (broken_stays (failed m) (answered rules now m) (failed_stays m) (answered_stays rules now m)))

    broken : Stays (delivered_broken rules now f m)
    broken =
        followed_stays (readying rules f) (if_broken still (unless_expired m (answered rules now m))) (readying_stays rules f)
        (broken_stays still (unless_expired m (answered rules now m)) (λ g. refl)
        (expired_stays m (answered rules now m) (answered_stays rules now m)))

pub recorded_stays : (is_due : Bool) (now : ℕ) (act : HistoryAct) → Stays (recorded_where is_due now act)
recorded_stays true now act g = refl
recorded_stays false now act g = refl

closing_stays : (rules : Rules) (now : ℕ) → Stays (closing rules now)
closing_stays rules now g = if_stays (rules.may_close (history_of g.book)) _ _ _ (recorded_stays _ now _ g) refl

pub marked_stays : (rules : Rules) (f : Fortune) (mark : Gateway → Moved) → Stays mark → Stays (marked rules f mark)
marked_stays rules f mark stays =
    followed_stays (readying rules f) (if_broken still mark) (readying_stays rules f)
    (broken_stays still mark (λ g. refl) stays)

-- ---- nodes that are called, and still run or don't

submit_runs : (v : NodeValue) (form : PacketForm) (log : List LogEntry) → runs (logged (call_entries v (call.Submit form)) log) ≡ runs log
submit_runs v form log = grind (arith, nat_tests)

tick_runs : (v : NodeValue) (log : List LogEntry) → runs (logged (call_entries v call.Tick) log) ≡ runs log
tick_runs v log = grind arith

hear_runs : (v : NodeValue) (port : Port) (from : Addr) (octets : List ℕ) (log : List LogEntry)
    → runs (logged (call_entries v (call.Hear port from octets)) log) ≡ runs log
hear_runs v port from octets log = by v.is_running
  where
    by_taken : (gateway : ℕ) (what : Taken) → runs (logged (taken_entries v port gateway what) log) ≡ runs log
    by_taken gateway (heard.Dropped why) = refl
    by_taken gateway (heard.Says saying reply) = grind arith

    by_place : (o : Option ℕ) → runs (logged (entries_from v port o octets) log) ≡ runs log
    by_place None = refl
    by_place (Some gateway) = by_taken gateway (taken v gateway octets)

    by : (b : Bool) → runs (logged (if b then entries_from v port (place_of v.gateways from.ip) octets else []) log) ≡ runs log
    by true = by_place (place_of v.gateways from.ip)
    by false = refl

abbrev Goes : (List LogEntry → Called) → Type 0
Goes call = (log : List LogEntry) → runs (call log).log ≡ runs log

submitting_goes : (gateways node : ℕ) (octets : List ℕ) → Goes (submitting gateways node octets)
submitting_goes gateways node octets log = by (draft_of octets)
  where
    by : (o : Option PacketForm) → runs (submitting_form gateways node o log).log ≡ runs log
    by None = refl
    by (Some form) = submit_runs (node_value gateways node log) _ log

ticking_goes : (gateways node : ℕ) → Goes (ticking gateways node)
ticking_goes gateways node log = tick_runs (node_value gateways node log) log

delivered_goes : (gateways node : ℕ) (m : Message) → Goes (delivered_to_node gateways node m)
delivered_goes gateways node m log = by (not (runs log) || is_expired_at_node log (node_value gateways node log) m)
  where
    by : (b : Bool) → runs (if b then record { log = log; sends = [] } else hearing gateways node m log).log ≡ runs log
    by true = refl
    by false = hear_runs (node_value gateways node log) m.port (gateway_address m.gateway) m.octets log

-- ---- lists of which one element is replaced

-- what is asked of each element stays where one is replaced by another that answers the same
pub set_same : {A B : Type 0} (f : A → B) (d : B) (xs : List A) (p q : ℕ) (x y : A) → slice_get xs p ≡ Some x → f y ≡ f x
    → option_map_or f (slice_get (slice_set xs p y) q) d ≡ option_map_or f (slice_get xs q) d
set_same f d [] p q x y e h = cc
set_same f d (z ∷ xs) zero zero x y e h = let same : z ≡ x = cc in h ∙ ap f (sym same)
set_same f d (z ∷ xs) zero (suc q) x y e h = refl
set_same f d (z ∷ xs) (suc p) zero x y e h = refl
set_same f d (z ∷ xs) (suc p) (suc q) x y e h = set_same f d xs p q x y e h

longer : {A : Type 0} (xs ys : List A) → length xs ≤ length (xs ++ ys)
longer xs ys = rw (length-append xs ys) (omega arith)

-- ---- worlds of which much is the same

pub record Same (w after : World) : Type 0 where
  pub gateways : length after.gateways ≡ length w.gateways
  pub nodes : length after.nodes ≡ length w.nodes
  pub moment : after.now ≡ w.now
  pub down : (gateway : ℕ) → is_down_in after gateway ≡ is_down_in w gateway
  pub running : (node : ℕ) → runs (log_in after node) ≡ runs (log_in w node)
  pub messages : length w.messages ≤ length after.messages

same_world : (w : World) → Same w w
same_world w = let some : length w.messages ≤ length w.messages = omega arith in assumption

gateway_same : (w : World) (p : ℕ) (move : Gateway → Moved) → Stays move → Same w (at_gateway w p move)
gateway_same w p move stays = grind (arith, length-set, longer, same_world, set_same)

log_runs : (o : Option (List LogEntry)) → runs (option_map_or (λ log. log) o []) ≡ option_map_or runs o false
log_runs None = refl
log_runs (Some log) = refl

node_same : (w : World) (p : ℕ) (call : List LogEntry → Called) → Goes call → Same w (at_node w p call)
node_same w p call goes = by (slice_get w.nodes p) refl
  where
    by : (o : Option (List LogEntry)) → slice_get w.nodes p ≡ o → Same w (option_map_or (λ log. node_called w p (call log)) o w)
    by None e = same_world w
    by (Some log) e = record {
      gateways = refl;
      nodes = length-set w.nodes p (call log).log;
      moment = refl;
      down = λ gateway. refl;
      running = λ q. log_runs (slice_get (slice_set w.nodes p (call log).log) (q - 1))
          ∙ set_same runs false _ p (q - 1) log _ e (goes log) ∙ sym (log_runs (slice_get w.nodes (q - 1)));
      messages = longer w.messages (call log).sends;
    }

-- ---- turns

-- an event in which no gateway stops or opens, no node halts or starts, and the moment stays
abbrev pub is_quiet : Event → Bool
is_quiet (event.Submit node packet) = true
is_quiet (event.Tick node) = true
is_quiet (event.Deliver message) = true
is_quiet (event.Commit gateway) = true
is_quiet (event.Mark gateway) = true
is_quiet (event.Close gateway) = true
is_quiet _ = false

delivering_same : (rules : Rules) (f : Fortune) (w : World) (m : Message) → Same w (delivering rules f w m)
delivering_same rules f w m =
    cond_both m.to_gateway _ _ (Same w) (λ is. gateway_same w _ _ (delivered_stays rules w.now f m))
    (λ is. node_same w _ _ (delivered_goes (length w.gateways) m.node m))

event_same : (rules : Rules) (w : World) (t : Turn) (e : Event) → is_quiet e ≡ true → Same w (turn_by rules w t e)
event_same rules w t (event.Submit node packet) q =
    node_same w _ _ (submitting_goes (length w.gateways) (node - 1) packet)
event_same rules w t (event.Tick node) q = node_same w _ _ (ticking_goes (length w.gateways) (node - 1))
event_same rules w t (event.Deliver message) q = by (slice_get w.messages (message - 1))
  where
    by : (o : Option Message) → Same w (option_map_or (delivering rules t.fortune w) o w)
    by None = same_world w
    by (Some m) = delivering_same rules t.fortune w m
event_same rules w t (event.Commit gateway) q = gateway_same w _ _ (committing_stays t.fortune)
event_same rules w t (event.Mark gateway) q =
    gateway_same w _ _ (marked_stays rules t.fortune (making_tick rules w.now) (λ g. recorded_stays _ _ _ g))
event_same rules w t (event.Close gateway) q =
    gateway_same w (gateway - 1) (marked rules t.fortune (closing rules w.now))
    (marked_stays rules t.fortune (closing rules w.now) (closing_stays rules w.now))
event_same rules w t _ q = cc

pub turn_same : (rules : Rules) (w : World) (t : Turn) → is_quiet t.event ≡ true → Same w (turn rules w t)
turn_same rules w t q = by (refusal_of w t.event)
  where
    by_loss : (b : Bool) → Same w (turn_by rules w t t.event) → Same w (lost_if b w (turn_by rules w t t.event))
    by_loss true same =
        let sent = (turn_by rules w t t.event).messages in
        let few : length w.messages ≤ length (take (length w.messages) sent) =
        omega (arith, length-take (length w.messages) sent, same.messages) in
        assumption
    by_loss false same = same

    by : (o : Option WorldKind) → Same w (unless_refused o w (lost_if t.is_lost w (turn_by rules w t t.event)))
    by None = by_loss t.is_lost (event_same rules w t t.event q)
    by (Some kind) = same_world w
