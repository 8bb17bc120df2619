-- A gateway is alive to a node only where the node's start is firm: what a node's calls leave of that.
use Rattle.std.proofs.Common.{◌≡◌, ⊎_elim, ℕ, ◌≤◌, ◌==◌, ◌&&◌, ◌||◌, not, Bool, true, false, List, [], ◌∷◌, ◌++◌, map, Option, Some, None, Contains, refl, sym, ap, subst, ◌∙◌, arith}
use Rattle.once_core.proofs.Names.{ACCEPTED, AliveTold, answering, answers_of, Appointed, appointing, Began, Called, called, delivered_to_node, draft_of, due, EchoAsked, EchoRequest, EchoResponse, EchoTold, entries_from, false≢true, for_role, gateway_address, Halted, Heard, heeding, heeds_from, is_alive, is_expired_at_node, is_response, is_taken_for_another, last_number, LogEntry, logged, message_of, MessageValue, moved_at_tick, moved_by, nat_tests, nearest, NODE_ALIVE_RESPONSE, node_anew, node_value, NodeAliveResponse, NodeValue, not-false, option_map_or, or_parts, Other, outgoing, PacketForm, Path, place_of, RedirectionRequest, RedirectionResponse, Redirects, Responds, RolesRead, runs, Saying, Says, Sending, starts_in, Submitted, submitting, submitting_form, Taken, taken_entries, taken_of, Ticked, ticking, TransferRequest, TransferResponse, written}
use Rattle.gtpp_message.specs.Reading.{Message}
use Rattle.gtpp_message.specs.declared.role.Role.TheVariants as role
use Rattle.node_core.specs.Log.{paths_of}
use Rattle.node_core.specs.Reached as call
use Rattle.once_core.specs.declared.message.Message as world
use Rattle.once_core.proofs.DueLemmas.{none_alive, told_cases}
use Rattle.once_core.proofs.LifeMoves.{tells_alive}
use Rattle.once_core.proofs.ListLemmas.{in_none, in_one, of_map}
use Rattle.once_core.proofs.LogLemmas.{place_is, starts_again, starts_same}
use Rattle.once_core.proofs.MeaningLemmas.{FromGateway, GatewaySaid, IsWritten, ReadsBack, role_read_of, type_of}
use Rattle.once_core.proofs.NodePlays.{NodeRightly, appointed_starts, either, appointed}
use Rattle.once_core.proofs.CaseLemmas.{if_both, by_option, if_known}

-- Where a gateway is alive to the node of this log, the node's starts are at most those that the gateway knows firmly.
abbrev pub LifeIn : (ℕ → ℕ) → List LogEntry → Type 0
LifeIn known log = (gateway : ℕ) → is_alive (paths_of 1 log) gateway ≡ true → starts_in log ≤ known gateway

-- a call leaves it so; what it sends is of the node, and of a start that it made
pub record LifeCalled (known : ℕ → ℕ) (place : ℕ) (log : List LogEntry) (done : Called) : Type 0 where
  pub grows : starts_in log ≤ starts_in done.log
  pub alive : LifeIn known done.log
  pub sends : (m : world.Message) → Contains done.sends m → (m.to_gateway ≡ true) × (m.node ≡ place) × (m.start ≤ starts_in done.log)

module _ (known : ℕ → ℕ) (place : ℕ) (log : List LogEntry) (life : LifeIn known log) where
  -- nothing is sent
  quiet_life : (after : List LogEntry) → starts_in log ≤ starts_in after → LifeIn known after → LifeCalled known place log (record { log = after; sends = [] })
  quiet_life after grows alive = record { grows = grows; alive = alive; sends = λ m is. absurd (in_none m is) }

  same_life : LifeCalled known place log (record { log = log; sends = [] })
  same_life = quiet_life log (omega arith) life

  -- a node that begins or ends knows of no gateway that is alive
  anew_life : (after : List LogEntry) (counter : ℕ) → paths_of 1 after ≡ node_anew counter → LifeIn known after
  anew_life after counter is gateway alive = absurd (false≢true (sym (ap (λ paths. is_alive paths gateway) is ∙ none_alive counter gateway) ∙ alive))

  -- an entry that neither begins the node nor is heard
  entry_life : (entry : LogEntry) → starts_in (entry ∷ log) ≡ starts_in log → paths_of 1 (entry ∷ log) ≡ paths_of 1 log → LifeIn known (entry ∷ log)
  entry_life entry starts paths gateway alive = omega (arith, starts, life gateway (ap (λ p. is_alive p gateway) (sym paths) ∙ alive))

  -- ---- what the driver asks

  abbrev Leaves : List LogEntry → Type 0
  Leaves entries = LifeCalled known place log (record { log = logged entries log; sends = [] })

  pub halt_life : (gateways : ℕ) → LifeCalled known place log (called gateways place call.Halt log)
  halt_life gateways =
      let halted : Leaves (Halted ∷ []) = quiet_life (Halted ∷ log) (omega (arith, starts_same Halted log refl)) (anew_life (Halted ∷ log) _ refl) in
      if_both Leaves (runs log) halted halted

  pub start_life : (gateways : ℕ) → LifeCalled known place log (called gateways place call.Start log)
  start_life gateways = if_both Leaves (runs log) same_life (quiet_life (Began ∷ log) (omega (arith, starts_again log)) (anew_life (Began ∷ log) _ refl))

  pub submit_life : (gateways : ℕ) → NodeRightly gateways place log → (octets : List ℕ) → LifeCalled known place log (submitting gateways place octets log)
  submit_life gateways rightly octets = by_option
      (λ (o : Option PacketForm). LifeCalled known place log (submitting_form gateways place o log)) (draft_of octets)
      (λ none. same_life)
      (λ form there.
      let same = starts_same (Submitted form) log refl in
      either gateways place log rightly (λ l. LifeCalled known place log (record { log = l; sends = [] })) form same_life
      (quiet_life (Submitted form ∷ log) (omega (arith, same)) (entry_life (Submitted form) same refl)))

  module _ (gateways : ℕ) where
    abbrev node : NodeValue
    node = node_value gateways place log

    abbrev sent : List world.Message
    sent = map (λ s. message_of place log (outgoing (node_value gateways place log) s)) (due (node_value gateways place log))

    sent_life : (after : List LogEntry) → starts_in after ≡ starts_in log → paths_of 1 after ≡ paths_of 1 log → LifeCalled known place log (record { log = after; sends = sent })
    sent_life after starts paths = record {
      grows = omega (arith, starts);
      alive = λ gateway alive. omega (arith, starts, life gateway (ap (λ p. is_alive p gateway) (sym paths) ∙ alive));
      sends = λ m is. subst (λ (k : world.Message). (k.to_gateway ≡ true) × (k.node ≡ place) × (k.start ≤ starts_in after))
          (of_map (λ (s : Sending). message_of place log (outgoing node s)) (due node) m is).2 (refl, refl, omega (arith, starts));
    }

    moved_life : (o : Option ℕ) (sendings : List Sending) → LifeCalled known place log (record { log = logged (appointing o ++ Ticked sendings ∷ []) log; sends = sent })
    moved_life None sendings = sent_life (Ticked sendings ∷ log) (starts_same (Ticked sendings) log refl) refl
    moved_life (Some gateway) sendings = sent_life (Ticked sendings ∷ Appointed gateway ∷ log)
        (starts_same (Ticked sendings) (Appointed gateway ∷ log) refl ∙ starts_same (Appointed gateway) log refl) refl

    pub tick_life : LifeCalled known place log (ticking gateways place log)
    tick_life = if_both (λ (entries : List LogEntry). LifeCalled known place log (record { log = logged entries log; sends = sent })) (runs log)
        (moved_life (moved_at_tick node) (due node)) (sent_life log refl refl)

-- ---- what a node hears

module _ (known : ℕ → ℕ) (gateways : ℕ) (m : world.Message) (log : List LogEntry) (life : LifeIn known log) (back : ReadsBack) (roles : RolesRead) (from : m.to_gateway ≡ false)
    (said : GatewaySaid m) (told : tells_alive m ≡ true → m.start ≤ known m.gateway) where
  abbrev value : NodeValue
  value = node_value gateways m.node log

  nothing_life : LifeCalled known m.node log (record { log = log; sends = [] })
  nothing_life = same_life known m.node log life

  module _ (start : m.start ≡ starts_in log) where
    answers_life : (reply : Option (List ℕ)) (after : List LogEntry) → starts_in log ≤ starts_in after → (k : world.Message)
        → Contains (option_map_or (λ octets. answering m octets ∷ []) reply []) k → (k.to_gateway ≡ true) × (k.node ≡ m.node) × (k.start ≤ starts_in after)
    answers_life None after grows k is = absurd (in_none k is)
    answers_life (Some octets) after grows k is =
        subst (λ (j : world.Message). (j.to_gateway ≡ true) × (j.node ≡ m.node) × (j.start ≤ starts_in after)) (in_one (answering m octets) k is)
        (ap not from, refl, omega (arith, start, grows))

    abbrev behind : Saying → List LogEntry
    behind saying = logged (appointing (moved_by value m.port m.gateway saying)) (Heard m.port m.gateway saying ∷ log)

    -- what is heard leaves the starts as they are; the gateways that are alive then were alive, or told so
    heard_life : (saying : Saying) (reply : Option (List ℕ))
        → ((gateway : ℕ) → is_alive (paths_of 1 (Heard m.port m.gateway saying ∷ log)) gateway ≡ true → starts_in log ≤ known gateway)
        → (sends : List world.Message) → sends ≡ option_map_or (λ octets. answering m octets ∷ []) reply []
        → LifeCalled known m.node log (record { log = behind saying; sends = sends })
    heard_life saying reply alive sends e = record {
      grows = omega (arith, starts);
      alive = λ gateway is. omega (
        arith,
        alive gateway (ap (λ p. is_alive p gateway) (sym (appointed (paths_of 1) (λ gateway log. refl) (moved_by value m.port m.gateway saying) (Heard m.port m.gateway saying ∷ log))) ∙ is),
        starts,
      );
      sends = λ k is. answers_life reply (behind saying) (omega (arith, starts)) k (subst (λ (ks : List world.Message). Contains ks k) e is);
    }
      where
        starts : starts_in (behind saying) ≡ starts_in log
        starts = appointed_starts (moved_by value m.port m.gateway saying) (Heard m.port m.gateway saying ∷ log) ∙ starts_same (Heard m.port m.gateway saying) log refl

    abbrev taking : Taken → Called
    taking t = record { log = logged (taken_entries value m.port m.gateway t) log; sends = answers_of m (heeding value m.port m.gateway t) }

    quiet_heard : (saying : Saying) (reply : Option (List ℕ)) → paths_of 1 (Heard m.port m.gateway saying ∷ log) ≡ paths_of 1 log → LifeCalled known m.node log (taking (Says saying reply))
    quiet_heard saying reply same = heard_life saying reply (λ gateway is. life gateway (ap (λ p. is_alive p gateway) (sym same) ∙ is)) (answers_of m (heeding value m.port m.gateway (Says saying reply))) refl

    abbrev read : MessageValue → Called
    read message = taking (taken_of value.paths.counter (last_number value.gateways m.gateway) (for_role role.Node (Message said.path message)))

    message_life : (message : MessageValue) → IsWritten m.octets said.path message → FromGateway m said.path message → LifeCalled known m.node log (read message)
    message_life (TransferResponse cause responded) w fits = quiet_heard (Responds cause (map (nearest (Some (last_number value.gateways m.gateway))) responded)) None refl
    message_life (RedirectionRequest cause to) w fits = quiet_heard (Redirects to) (Some (written said.path (RedirectionResponse ACCEPTED))) refl
    message_life (RedirectionResponse cause) w fits = quiet_heard Other None refl
    message_life EchoRequest w fits = quiet_heard (Path (EchoAsked said.path)) (Some (written said.path (EchoResponse value.paths.counter))) refl
    message_life (EchoResponse counter) w fits = quiet_heard (Path (EchoTold said.path counter)) None refl
    message_life NodeAliveResponse w fits = heard_life (Path (AliveTold said.path)) None
        (λ gateway is. ⊎_elim
        (λ same. subst (λ (q : ℕ). starts_in log ≤ known q) (sym same) (omega (
          arith,
          start,
          told
              (ap (λ (o : Option ℕ). option_map_or (λ k. k == NODE_ALIVE_RESPONSE) o false) (type_of m.octets said.path NodeAliveResponse w.is)),
        )))
        (life gateway)
        (told_cases (paths_of 1 log) m.gateway said.path gateway is))
        [] refl
    message_life (TransferRequest body) w fits = absurd fits
    message_life _ w fits = nothing_life

  pub hear_life : LifeCalled known m.node log (delivered_to_node gateways m.node m log)
  hear_life = if_known (LifeCalled known m.node log) (not value.is_running || is_expired_at_node log value m)
      (λ deaf. nothing_life)
      (λ hears.
      let up = or_parts (not (runs log)) (is_expired_at_node log value m) hears in
      rw (not-false (runs log) up.0) (heard (on_time (is_response m && is_taken_for_another value m) up.1)
      (place_of value.gateways (gateway_address m.gateway).ip) refl))
    where
      on_time : (c : Bool) → (not (m.start == starts_in log) || c) ≡ false → m.start ≡ starts_in log
      on_time c isnt = grind (arith, nat_tests)

      heard : (start : m.start ≡ starts_in log) → (o : Option ℕ) → place_of value.gateways (gateway_address m.gateway).ip ≡ o
          → LifeCalled known m.node log (record { log = logged (entries_from value m.port o m.octets) log; sends = answers_of m (heeds_from value m.port o m.octets) })
      heard start None e = nothing_life
      heard start (Some p) e =
          rw (
            place_is gateways log m.gateway p e,
            role_read_of back roles role.Node m.octets said.path said.message
                said.written,
          )
          (message_life start said.message said.written said.fits)
