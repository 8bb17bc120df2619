-- What a node sends in a tick isn't expired: a gateway to which it sends a request knows its start as the present one,
-- and no gateway knows of a later one.
use Rattle.std.proofs.Common.{◌≡◌, ⊎_elim, ℕ, ◌-◌, ◌<◌, ◌≤◌, ◌%◌, ◌&&◌, not, nat_lt, Bool, true, false, if◌then◌else◌, List, [], ◌∷◌, ◌++◌, length, Option, Some, None, All, Contains, slice_get, refl, sym, ap, subst, ◌∙◌, arith, eqb-true, zero, suc, nat_le, ◌||◌, take, append-nil, length-take}
use Rattle.once_core.proofs.Names.{about, address_at, addresses_from, All-contains, all_drawn, appointing, at_gateway, at_node, befallen, BookValue, calm, Contains-append_cases, deeds_of, default_rules, delivered, delivered_to_node, delivering, due, due_for_all, Event, false≢true, first_node_ip, forms_of, Fortune, Gateway, gateway_at, gateway_moved, Gone, HasCopyOf, HasOpenCopy, history_of, HistoryEntry, is_alive, is_done, is_expired, is_of, IsBetween, IsReached, IsSent, log_at, log_of, LogEntry, logged, lost_if, Message, message_of, Moved, moved_at_tick, nat_tests, nearest, node_called, node_ip, node_setup, node_value, NodeCall, NodeSetup, NodeValue, option_map_or, outgoing, packet_after_all, packets_of, PacketState, PathsOfNode, peers_of, Post, post_of, present_start, probes, reached, readying, refusal_of, Refused, refusing, reopened, Reopening, Rules, runs, Scene, scene_after, Sending, slice_get_within, start_of, starts_in, StartsRise, still, taken_for, taken_in, Ticked, ticking, top_of, tried, Turn, turn, turn_by, unless_refused, while_open, Whole, with_book, World, WorldKind}
use Rattle.node_core.specs.Log.{paths_of}
use Rattle.node_core.specs.Reached as call
use Rattle.node_core.specs.declared.sending.Sending.TheVariants as send
use Rattle.once_core.specs.Messages.{is_request}
use Rattle.once_core.specs.declared.event.Event.TheVariants as event
use Rattle.once_core.proofs.DueLemmas.{IsOfOpen, all_of_open, is_probe, one_packet, probes_are, stays_open, AllAlive, copies_alive}
use Rattle.once_core.proofs.LogLemmas.{gateway_is, size, starts_same}
use Rattle.once_core.proofs.MeantLemmas.{Numbers, meant}
use Rattle.once_core.proofs.NodePlays.{NodeRightly, appointed_starts, appointed, tick_is, behind_tick}
use Rattle.once_core.proofs.NumberLemmas.{all_keep, ever, values_are}
use Rattle.once_core.proofs.SendingPlays.{OneCopyEach, copy_in_range}
use Rattle.once_core.proofs.WorldPlays.{Laws, turn_made, Made, get_set}
use Rattle.once_core.proofs.ListLemmas.{in_map, of_map, get_contains}
use Rattle.once_core.proofs.NodeTurnLemmas.{addresses_length}
use Rattle.once_core.proofs.LifeWorlds.{values_in, reached_lives, reached_made}
use Rattle.once_core.proofs.PartLemmas.{log_or, log_there, firm_there, it_runs, book_is, history_is}
use Rattle.once_core.proofs.CaseLemmas.{by_option, by_bool, if_known, map_known}
use Rattle.once_core.specs.declared.event.WorldKind.TheVariants.{NoMessage}
use Rattle.once_core.proofs.GrowingLemmas.{on, on_with}
use Rattle.once_core.proofs.StartLemmas.{front_low, start_rises}

-- what the law of requests says
abbrev pub RequestsSent : Type 0
RequestsSent = (setup : NodeSetup) (calls : List NodeCall) → 1 ≤ length setup.gateways → (reached setup calls).is_running ≡ true
    → All (IsSent (reached setup (call.Tick ∷ calls)).packets) (due (reached setup calls))

-- ---- what isn't expired

fresh_message : (h : List HistoryEntry) (m : Message) → present_start h m ≡ m.start → taken_for h m ≡ about m → is_expired h m ≡ false
fresh_message h m present read = grind (arith, nat_tests)

-- ---- a request of a tick is about an open copy

module _ (setup : NodeSetup) (calls : List NodeCall) where
  abbrev node_now : NodeValue
  node_now = reached setup calls

  abbrev log_now : List LogEntry
  log_now = log_of setup calls

  abbrev behind : List LogEntry
  behind = behind_tick setup log_now

  of_open : (s : Sending) → is_probe s ≡ false → Contains (due node_now) s → IsOfOpen (packets_of log_now) s
  of_open s isnt there =
      let node : NodeValue = befallen (appointing (moved_at_tick node_now)) node_now in
      let drawn = all_drawn (probes node.paths node.gateways) node.gateways in
      subst (λ (ps : List PacketState). IsOfOpen ps s)
      (by_option (λ (o : Option ℕ). (befallen (appointing o) node_now).packets ≡ node_now.packets) (moved_at_tick node_now) (λ none. refl) (λ gateway is. refl)) (⊎_elim
      (λ probe. absurd (false≢true (sym isnt ∙ probes_are 0 node.paths node.gateways s probe)))
      (all_of_open node.favourite_place (is_alive node.paths node.favourite_place) node.packets drawn s)
      (Contains-append_cases (probes node.paths node.gateways) (due_for_all node.favourite_place (is_alive node.paths node.favourite_place) drawn node.packets) s there))

  module _ (running : runs log_now ≡ true) where
    after_is : log_of setup (call.Tick ∷ calls) ≡ behind
    after_is = tick_is setup log_now running

    runs_after : runs (log_of setup (call.Tick ∷ calls)) ≡ true
    runs_after = ap runs after_is ∙ appointed runs (λ gateway log. refl) (moved_at_tick node_now) log_now ∙ running

    starts_after : starts_in (log_of setup (call.Tick ∷ calls)) ≡ starts_in log_now
    starts_after =
        let same = starts_same (Ticked (due node_now)) (logged (appointing (moved_at_tick node_now)) log_now) refl in
        grind (arith, after_is, appointed_starts (moved_at_tick node_now) log_now, same)

    -- a tick leaves the gateways alive that were
    open_alive : (gateway number : ℕ) → HasOpenCopy (packets_of behind) gateway number
        → is_alive (paths_of setup.counter log_now) gateway ≡ true
    open_alive gateway number is =
        let all = subst (λ (l : List LogEntry). AllAlive (paths_of setup.counter l) (packets_of l)) after_is
        (copies_alive setup (call.Tick ∷ calls)) in
        subst (λ (paths : PathsOfNode). is_alive paths gateway ≡ true)
        (appointed (paths_of setup.counter) (λ gateway log. refl) (moved_at_tick node_now) log_now)
        (subst (λ (q : ℕ). is_alive (paths_of setup.counter behind) q ≡ true) is.gateway_is
        (all is.packet is.kept is.copy is.sent))

    module _ (sent : RequestsSent) (one_each : OneCopyEach) (some : 1 ≤ length setup.gateways) where
      was_sent : (s : Sending) → Contains (due node_now) s → IsSent (packets_of behind) s
      was_sent s there = All-contains (IsSent (packets_of behind)) (due node_now) s
          (subst (λ (l : List LogEntry). All (IsSent (packets_of l)) (due node_now)) after_is (sent setup calls some running)) there

      -- the copy that a sending is about is of the sending's packet, which is open behind the tick
      open_copy : (s : Sending) (packet gateway number : ℕ) → is_probe s ≡ false → Contains (due node_now) s → ((n : ℕ) → is_of n s ≡ true → packet ≡ n)
          → HasCopyOf (packets_of behind) packet gateway number → HasOpenCopy (packets_of behind) gateway number
      open_copy s packet gateway number isnt there own of =
          let was = of_open s isnt there in
          let f = packet_after_all (due node_now) in
          let state : PacketState = while_open f was.state in
          let goes : state ≡ f was.state = ap (λ (b : Bool). if b then was.state else f was.state) was.open_yet in
          let kept : Contains (packets_of behind) state = in_map (while_open f) (packets_of (logged (appointing (moved_at_tick node_now)) log_now)) was.state
          (subst (λ (ps : List PacketState). Contains ps was.state) (sym (appointed packets_of (λ gateway log. refl) (moved_at_tick node_now) log_now)) was.kept) in
          let is : is_of state.number s ≡ true =
          ap (λ (p : PacketState). is_of p.number s) goes ∙ ap (λ (n : ℕ). is_of n s) (all_keep (due node_now) was.state) ∙ was.of in
          let e = ever behind in
          let same = one_packet (length e.before) (packets_of behind) (forms_of behind) of.state state e.numbered of.kept kept (of.number_is ∙ own state.number is) in
          let open_yet = ap (λ (p : PacketState). is_done p.copies) (same ∙ goes) ∙ stays_open (due node_now) was.state was.open_yet in
          search (of.kept, open_yet, of.holds.among, of.holds.gateway_is, of.holds.number_is)

      open_in_range : (gateway number : ℕ) → HasOpenCopy (packets_of behind) gateway number → gateway < length (peers_of setup.gateways behind)
      open_in_range gateway number is =
          let inside = copy_in_range one_each setup (call.Tick ∷ calls) behind some after_is is.packet is.copy is.kept is.sent in
          omega (arith, inside, is.gateway_is)

-- ---- what is asked of a gateway

-- a message that is no request is expired by its start alone
low_fresh : (h : List HistoryEntry) (m : Message) → is_request m ≡ false → present_start h m ≤ m.start → is_expired h m ≡ false
low_fresh h m none low = grind (arith, nat_tests)

-- what stands behind some elements
behind_all : {A : Type 0} (xs ys : List A) (k : ℕ) (x : A) → length xs ≤ k → slice_get (xs ++ ys) k ≡ Some x → Contains ys x
behind_all [] ys k x le e = get_contains ys k x e
behind_all (y ∷ xs) ys zero x le e = absurd (omega (arith, le))
behind_all (y ∷ xs) ys (suc k) x le e = behind_all xs ys k x (omega (arith, le)) e

-- the history by which a gateway is asked whether a message is expired
abbrev history_asked : Rules → Fortune → Gateway → List HistoryEntry
history_asked rules f g = if g.book.is_broken then history_of (readying rules f g).gateway.book else history_of g.book

-- one that isn't is taken in
fresh_taken : (rules : Rules) (now : ℕ) (f : Fortune) (m : Message) (g : Gateway) → is_expired (history_asked rules f g) m ≡ false → delivered rules now f m g ≡ taken_in rules now f m g
fresh_taken rules now f m g fresh = grind arith

-- that history lies between its firm part and all that it holds
asked_between : (rules : Rules) (f : Fortune) (g : Gateway) → IsBetween g.book.firm g.book.rest (history_asked rules f g)
asked_between rules f g = if_known (IsBetween g.book.firm g.book.rest) g.book.is_broken
    (λ broken. subst (λ (moved : Moved). IsBetween g.book.firm g.book.rest (history_of moved.gateway.book))
    (sym (ap (λ (b : Bool). if b || rules.is_full g.book then with_book (if b then reopened g.book f.reopening else tried f g.book) g else still g) broken))
    (subst (λ (v : BookValue). IsBetween g.book.firm g.book.rest (history_of v)) (sym (book_is (reopened g.book f.reopening) g)) (found f.reopening)))
    (λ sound. subst (IsBetween g.book.firm g.book.rest) (sym (history_is g.book sound)) whole)
  where
    whole : IsBetween g.book.firm g.book.rest (g.book.firm ++ g.book.rest)
    whole = record { front = on_with g.book.firm g.book.rest; back = on (g.book.firm ++ g.book.rest) }

    firm : IsBetween g.book.firm g.book.rest g.book.firm
    firm = record { front = on g.book.firm; back = on_with g.book.firm g.book.rest }

    found : (r : Reopening) → IsBetween g.book.firm g.book.rest (history_of (reopened g.book r))
    found Whole = subst (IsBetween g.book.firm g.book.rest) (sym (append-nil (g.book.firm ++ g.book.rest))) whole
    found Gone = subst (IsBetween g.book.firm g.book.rest) (sym (append-nil g.book.firm)) firm
    found Refused = firm

-- ---- in a world

module _ (laws : Laws) (numbers : Numbers) (sent : RequestsSent) (w : World) (reached_so : IsReached w) (node : ℕ) where
  abbrev place : ℕ
  place = node - 1

  abbrev ip : ℕ
  ip = node_ip place

  abbrev setup : NodeSetup
  setup = node_setup (length w.gateways) place

  abbrev sends : List LogEntry → List Message
  sends log = (ticking (length w.gateways) place log).sends

  made : Made (values_in w) w
  made = reached_made laws w reached_so

  some_gateways : 1 ≤ length setup.gateways
  some_gateways = omega (arith, made.sound.some, addresses_length 0 (length w.gateways))

  module _ (allowed : refusal_of w (event.Tick node) ≡ None) (log : List LogEntry) (there : slice_get w.nodes place ≡ Some log) where
    abbrev rightly : NodeRightly (length w.gateways) place log
    rightly = made.sound.nodes place log there

    abbrev after_tick : List LogEntry
    after_tick = behind setup rightly.calls

    abbrev sent_by : Sending → Message
    sent_by s = message_of place log (outgoing (node_value (length w.gateways) place log) s)

    log_is : log_at w place ≡ log
    log_is = log_there w place log there

    running : runs (log_of setup rightly.calls) ≡ true
    running = ap runs (sym rightly.is) ∙ ap runs (sym log_is) ∙ it_runs w node allowed

    -- what a request of the tick is about
    record IsAsking (m : Message) : Type 0 where
      number : ℕ
      about_is : about m ≡ number
      is : HasOpenCopy (packets_of after_tick) m.gateway number
      of_node : m.node ≡ place
      of_start : m.start ≡ starts_in log

    asking : (s : Sending) (packet gateway number : ℕ) → is_probe s ≡ false → Contains (due (reached setup rightly.calls)) s
        → ((n : ℕ) → is_of n s ≡ true → packet ≡ n) → HasCopyOf (packets_of after_tick) packet gateway number
        → (sent_by s).gateway ≡ gateway_at (address_at (peers_of (addresses_from 0 (length w.gateways)) log) gateway)
        → about (sent_by s) ≡ number → IsAsking (sent_by s)
    asking s packet gateway number isnt kept own of goes_to about_is =
        let is = open_copy setup rightly.calls running sent laws.one_each some_gateways s packet gateway number isnt kept own of in
        let range = open_in_range setup rightly.calls running sent laws.one_each some_gateways gateway number is in
        let to : (sent_by s).gateway ≡ gateway =
        goes_to ∙ gateway_is (length w.gateways) log gateway (omega (arith, range, size (length w.gateways) after_tick)) in
        search (about_is, subst (λ (q : ℕ). HasOpenCopy (packets_of after_tick) q number) (sym to) is)

    each_asks : (s : Sending) → Contains (due (reached setup rightly.calls)) s → IsSent (packets_of after_tick) s
        → is_request (sent_by s) ≡ true → IsAsking (sent_by s)
    each_asks (send.Probe gateway number) kept was request = absurd (false≢true request)
    each_asks (send.Data packet gateway number is_plain is_new) kept was request =
        asking (send.Data packet gateway number is_plain is_new) packet gateway number refl kept (eqb-true packet) was.0 refl refl
    each_asks (send.Test packet gateway number) kept was request =
        asking (send.Test packet gateway number) packet gateway number refl kept (eqb-true packet) was refl refl
    each_asks (send.Command packet gateway named number o is_new) kept was request =
        asking (send.Command packet gateway named number o is_new) packet gateway named refl kept (eqb-true packet) was.0 refl refl

    asks : (m : Message) → Contains (sends log) m → is_request m ≡ true → IsAsking m
    asks m is request =
        let s = of_map sent_by (due (node_value (length w.gateways) place log)) m is in
        let kept = subst (λ (l : List LogEntry). Contains (due (node_value (length w.gateways) place l)) s.0) rightly.is s.1 in
        subst IsAsking s.2 (each_asks s.0 kept
        (was_sent setup rightly.calls running sent laws.one_each some_gateways s.0 kept) (ap is_request s.2 ∙ request))

    -- the world behind the tick
    made_after : Made (values_in w) (node_called w place (ticking (length w.gateways) place log))
    made_after =
        subst (Made (values_in w))
        (ap (λ (o : Option WorldKind). unless_refused o w (turn_by default_rules w (calm (event.Tick node)) (event.Tick node))) allowed
        ∙ ap (λ (o : Option (List LogEntry)). option_map_or (λ l. node_called w place (ticking (length w.gateways) place l)) o w) there)
        (turn_made laws default_rules (values_in w) w made (λ place. values_are (log_at w place)) (calm (event.Tick node)))

    deeds_after : (scene_after made_after.happenings).deeds ip
        ≡ deeds_of ip (values_in w place) (log_of setup (call.Tick ∷ rightly.calls))
    deeds_after =
        let set = get_set w.nodes place (ticking (length w.gateways) place log).log log there in
        grind (arith, made_after.is, made_after.shows.deeds place, rightly.is, set)

    module _ (m : Message) (g : Gateway) (h : List HistoryEntry) (is : Contains (sends log) m) (here : slice_get w.gateways m.gateway ≡ Some g)
        (between : IsBetween g.book.firm g.book.rest h) where
      read : (number : ℕ) → start_of ip h ≡ starts_in log → HasOpenCopy (packets_of after_tick) m.gateway number
          → nearest (top_of ip h) (number % 65536) ≡ number
      read number present is =
          meant numbers setup (call.Tick ∷ rightly.calls) some_gateways (runs_after setup rightly.calls running) m.gateway
          (omega (arith, slice_get_within w.gateways m.gateway g here, addresses_length 0 (length w.gateways)))
          made_after.happenings ip number (values_in w place) h deeds_after
          (subst (λ (p : Post). IsBetween p.firm p.rest h) (sym (ap (λ (s : Scene). s.posts m.gateway) made_after.is
          ∙ made_after.shows.posts m.gateway
          ∙ ap (λ (o : Option Gateway). option_map_or post_of o (record { firm = []; rest = []; waiting = [] })) here)) between)
          (present ∙ ap starts_in rightly.is ∙ sym (starts_after setup rightly.calls running))
          (subst (λ (l : List LogEntry). HasOpenCopy (packets_of l) m.gateway number)
          (sym (after_is setup rightly.calls running)) is)

      -- no gateway knows of a later start of the node, firmly or with entries that follow
      low_start : start_of ip h ≤ starts_in log
      low_start =
          let truly = (reached_lives laws w reached_so).gateways m.gateway g here in
          let own : ip - first_node_ip ≡ place = omega arith in
          grind (arith, start_rises ip h between.back.more (subst StartsRise between.back.is truly.rises), truly.low ip, own, log_is, between.back.is)

      -- and one that is alive knows this one as the present one
      alive_present : is_alive (paths_of 1 log) m.gateway ≡ true → start_of ip h ≡ starts_in log
      alive_present alive =
          let lives = reached_lives laws w reached_so in
          let rises = subst StartsRise between.back.is (lives.gateways m.gateway g here).rises in
          let low = front_low ip g.book.firm between.back.more h rises between.front in
          grind (arith, lives.alive place m.gateway, log_is, firm_there w m.gateway g here, low, low_start)

      -- so neither a request is expired there, nor another message
      request_fresh : is_request m ≡ true → is_expired h m ≡ false
      request_fresh request =
          let asked = asks m is request in
          let start = alive_present (subst (λ (l : List LogEntry). is_alive (paths_of 1 l) m.gateway ≡ true) (sym rightly.is)
          (open_alive setup rightly.calls running m.gateway asked.number asked.is)) in
          grind (arith, nat_tests, start, asked.of_node, asked.of_start, asked.about_is, read asked.number start asked.is)

      each_fresh : is_expired h m ≡ false
      each_fresh = by_bool (λ (b : Bool). is_expired h m ≡ false) (is_request m) request_fresh (λ none.
          let s = of_map sent_by (due (node_value (length w.gateways) place log)) m is in
          low_fresh h m none (subst (λ (k : Message). present_start h k ≤ k.start) s.2 low_start))

  pub sent_fresh : (m : Message) (g : Gateway) (h : List HistoryEntry) → refusal_of w (event.Tick node) ≡ None
      → Contains (sends (log_at w place)) m → slice_get w.gateways m.gateway ≡ Some g → IsBetween g.book.firm g.book.rest h
      → is_expired h m ≡ false
  sent_fresh m g h allowed is here between = by_option (λ (o : Option (List LogEntry)). is_expired h m ≡ false) (slice_get w.nodes place)
      (λ none. absurd (false≢true (sym (ap (λ (o : Option (List LogEntry)). runs (log_or o)) none) ∙ it_runs w node allowed)))
      (λ log there. each_fresh allowed log there m g h
      (subst (λ (l : List LogEntry). Contains (sends l) m) (log_is allowed log there) is) here between)

  -- ---- and what comes next

  -- what stands behind the messages that were there before the tick is a message of the node to a gateway, and isn't expired
  module _ (ticking_rules : Rules) (t : Turn) (k : ℕ) (m : Message) (within : length w.messages ≤ k) where
    record IsFresh (v : World) : Type 0 where
      to : m.to_gateway ≡ true
      fresh : (r : Rules) (f : Fortune) (g : Gateway) → slice_get v.gateways m.gateway ≡ Some g → is_expired (history_asked r f g) m ≡ false

    abbrev BringsFresh : World → Type 0
    BringsFresh v = slice_get v.messages k ≡ Some m → IsFresh v

    ticked : refusal_of w (event.Tick node) ≡ None → BringsFresh (at_node w place (ticking (length w.gateways) place))
    ticked allowed = map_known BringsFresh (slice_get w.nodes place)
        (λ none is. absurd (omega (arith, within, slice_get_within w.messages k m is)))
        (λ log there is.
        let among = behind_all w.messages (sends log) k m within is in
        let s = of_map (sent_by allowed log there) (due (node_value (length w.gateways) place log)) m among in
        record {
          to = ap (λ (n : Message). n.to_gateway) (sym s.2);
          fresh = λ r f g here. sent_fresh m g (history_asked r f g) allowed
              (subst (λ (l : List LogEntry). Contains (sends l) m) (sym (log_is allowed log there)) among) here (asked_between r f g);
        })

    next_fresh : t.event ≡ event.Tick node → BringsFresh (turn ticking_rules w t)
    next_fresh ticks = by_option (λ (o : Option WorldKind). BringsFresh (unless_refused o w (lost_if t.is_lost w (turn_by ticking_rules w t t.event)))) (refusal_of w t.event)
        (λ allowed. by_bool (λ (b : Bool). BringsFresh (lost_if b w (turn_by ticking_rules w t t.event))) t.is_lost
        (λ lost is.
        let all : List Message = (turn_by ticking_rules w t t.event).messages in
        absurd (omega (arith, within, slice_get_within (take (length w.messages) all) k m is, length-take (length w.messages) all)))
        (λ kept. subst (λ (v : Event). BringsFresh (turn_by ticking_rules w t v)) (sym ticks) (ticked (ap (refusal_of w) (sym ticks) ∙ allowed))))
        (λ kind refused is. absurd (omega (arith, within, slice_get_within w.messages k m is)))

  -- so the next event has the gateway take it in
  module _ (ticking_rules next_rules : Rules) (t next : Turn) (number : ℕ) (m : Message) where
    abbrev after : World
    after = turn ticking_rules w t

    pub next_taken : t.event ≡ event.Tick node → next.event ≡ event.Deliver number → length w.messages < number → slice_get after.messages (number - 1) ≡ Some m
        → turn next_rules after next ≡ lost_if next.is_lost after (at_gateway after m.gateway (taken_in next_rules after.now next.fortune m))
    next_taken ticks delivers within is =
        ap (λ (v : Event). unless_refused (refusal_of after v) after (lost_if next.is_lost after (turn_by next_rules after next v))) delivers
        ∙ ap (λ (b : Bool). unless_refused (refusing (not b) NoMessage) after (lost_if next.is_lost after (turn_by next_rules after next (event.Deliver number)))) there
        ∙ ap (lost_if next.is_lost after) taken
      where
        fresh : IsFresh ticking_rules t (number - 1) m (omega (arith, within)) after
        fresh = next_fresh ticking_rules t (number - 1) m (omega (arith, within)) ticks is

        there : (nat_lt 0 number && nat_le number (length after.messages)) ≡ true
        there = grind (arith, nat_tests, slice_get_within after.messages (number - 1) m is)

        by : (o : Option Gateway) → slice_get after.gateways m.gateway ≡ o
            → option_map_or (λ g. gateway_moved after m.gateway (delivered next_rules after.now next.fortune m g)) o after
            ≡ option_map_or (λ g. gateway_moved after m.gateway (taken_in next_rules after.now next.fortune m g)) o after
        by None e = refl
        by (Some g) e = ap (gateway_moved after m.gateway) (fresh_taken next_rules after.now next.fortune m g (fresh.fresh next_rules next.fortune g e))

        taken : turn_by next_rules after next (event.Deliver number) ≡ at_gateway after m.gateway (taken_in next_rules after.now next.fortune m)
        taken =
            ap (λ (o : Option Message). option_map_or (delivering next_rules next.fortune after) o after) is
            ∙ ap (λ (b : Bool). if b then at_gateway after m.gateway (delivered next_rules after.now next.fortune m)
            else at_node after m.node (delivered_to_node (length after.gateways) m.node m)) fresh.to
            ∙ by (slice_get after.gateways m.gateway) refl
