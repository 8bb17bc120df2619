-- What halting and starting make of a replay, and what a message that comes to a node does.
use Rattle.std.proofs.Common.{◌≡◌, ◌∙◌, refl, sym, ap, subst, ℕ, suc, ◌+◌, ◌-◌, ◌%◌, ◌≤◌, ◌<◌, Bool, true, false, not, if◌then◌else◌, List, [], ◌∷◌, ◌++◌, length, set, Option, Some, None, slice_get, arith, ◌||◌, append-nil, zero, drop}
use Rattle.replay_world.proofs.Names.{Addr, after_step, answers_of, at_node, befallen, befell, Began, begins, call_entries, Called, called, calm, CanFollowAll, counter_of, CountsStarts, delivered_to_node, Does, Down, Dropped, entries_from, entries_halted, entries_running, Event, Expired, gateway_address, Halt, Halted, HasSent, Hear, heard_entries, hearing, hearing_notices, heeded_notices, heeds, is_expired_at_node, is_none_of, IsNode, IsTo, log_at, log_in, LogEntry, logged, machines_in, Message, most_starts, nat_le, no_running_node, node_called, node_setup, node_value, NodeSetup, NodeValue, Notice, notice_line, notice_lines, notices_last, option_map_or, option_or, passed, place_of, Plays, Port, refusal_of, refusing, Replay, ReplayValue, rules_in, runs, Says, site_of, slice_get_within, Stands, Start, starts_in, sum_by-cons, Taken, taken, taken_entries, tick_entries, turn_by, waiting_in, World, world_after}
use Rattle.once_core.specs.declared.event.Event.TheVariants as event
use Rattle.once_core.specs.declared.event.WorldKind.TheVariants as kind
use Rattle.replay_world.proofs.NodeStepLemmas.{IsAtNode, are_plain, counts_plain, does_called, counter_is, follow_all}
use Rattle.replay_world.proofs.GatewayEventLemmas.{first_not, none_of}
use Rattle.replay_world.proofs.RefusalLemmas.{NodeAt, node_at, nodes_count}
use Rattle.replay_world.proofs.StepsLemmas.{sent_none}
use Rattle.node_core.specs.declared.message.Heeded.{Heeded}

-- What halting, starting, ticking, submitting and hearing make of a replay.

-- what node_core says of logs
abbrev pub NodeLaw : Type 0
NodeLaw = (setup : NodeSetup) (entries log : List LogEntry) (node : NodeValue) → CanFollowAll entries log →
    IsNode setup log node → IsNode setup (logged entries log) (befallen entries node)

-- What befalls a node in a tick, or as it hears something, begins no start.

pub plain_tick : (node : NodeValue) → are_plain (tick_entries node) ≡ true
plain_tick node = grind arith

pub plain_heard : (node : NodeValue) (port : Port) (from : Addr) (octets : List ℕ) →
    are_plain (heard_entries node port from octets) ≡ true
plain_heard node port from octets = by_place (place_of node.gateways from.ip)
  where
    by_taken : (gateway : ℕ) (t : Taken) → are_plain (taken_entries node port gateway t) ≡ true
    by_taken gateway (Dropped why) = refl
    by_taken gateway (Says saying reply) = grind arith

    by_place : (place : Option ℕ) → are_plain (entries_from node port place octets) ≡ true
    by_place None = refl
    by_place (Some gateway) = by_taken gateway (taken node gateway octets)

-- Which nodes are called.

pub none_both : (a b : Bool) → option_or (refusing a kind.NoNode) (refusing (not b) kind.Halted) ≡ None → b ≡ true
none_both false true is = refl
none_both _ _ is = absurd (cc)

none_three : (a b c : Bool) →
    option_or (refusing a kind.NoNode) (option_or (refusing b kind.Running) (refusing c kind.Restarts)) ≡ None →
    (b ≡ false) × (c ≡ false)
none_three false false false is = (refl, refl)
none_three _ _ _ is = absurd (cc)

-- the log of the node in a place
pub log_there : (w : World) (place : ℕ) {log : _} → slice_get w.nodes place ≡ Some log → log_at w place ≡ log
log_there w place is = cc

module _ (law : NodeLaw) (v : ReplayValue) (e : Event) (place : ℕ) (n : NodeValue) (there : NodeAt v place n)
    (call : List LogEntry → Called) (entries : List LogEntry) where
  -- these entries befell the node
  pub does_node : IsAtNode v e place there.log call → (call there.log).log ≡ logged entries there.log →
      CanFollowAll entries there.log → CountsStarts (logged entries there.log) →
      (before after told : List ℕ) (old mid new : Replay) →
      Stands (record v { waiting = waiting_in v.waiting e }) old →
      mid ≡ record old { nodes = mid.nodes } →
      mid.nodes.items ≡ set old.nodes.items place (befallen entries n) →
      HasSent (call there.log).sends before after mid new →
      told ≡ after ++ notice_lines (notices_last v e) → Does v (Plays e) before told new
  does_node here log_is follow counts before after told old mid new stands rest nodes sends tells =
      let gateways = length v.world.gateways in
      let node_is : befallen entries n ≡ node_value gateways place (call there.log).log =
      ap (befallen entries) there.is
      ∙ law (node_setup gateways place) entries there.log (node_value gateways place there.log) follow refl
      ∙ sym (ap (node_value gateways place) log_is) in
      does_called v e place there.log call here _ _ old mid new stands
      (record { rest = rest; nodes = cc; sends = sends; counts = subst CountsStarts (sym log_is) counts }) tells

-- Halting.

pub halted : NodeLaw → (v : ReplayValue) (number place : ℕ) (n : NodeValue) (old new : Replay) → Stands v old →
    number - 1 ≡ place → no_running_node v.world number ≡ None → slice_get old.nodes.items place ≡ Some n →
    new ≡ record old { nodes = new.nodes } → new.nodes.items ≡ set old.nodes.items place (befell Halted n) →
    Does v (Plays (event.Halt number)) [] [] new
halted law v number place n old new stands is none has rest nodes =
    let there : NodeAt v place n = node_at v old stands place {n = n} has in
    let gateways : ℕ = length v.world.gateways in
    let here : IsAtNode v (event.Halt number) place there.log (called gateways place Halt) =
    assumption (ap (λ (k : ℕ). at_node v.world k (called gateways k Halt)) is) in
    does_node law v (event.Halt number) place n there (called gateways place Halt) (Halted ∷ []) here
    (ap (λ es. logged es there.log) (halts (node_value gateways place there.log))) (tt, tt)
    (counts_plain (Halted ∷ []) {log = there.log} refl there.counts) [] [] [] old new new stands rest nodes
    (sent_none [] new) refl
  where
    by : (b : Bool) → (if b then Halted ∷ [] else Halted ∷ []) ≡ Halted ∷ []
    by true = refl
    by false = refl

    halts : (node : NodeValue) → call_entries node Halt ≡ Halted ∷ []
    halts node = by node.is_running

-- Starting.

counts_began : (log : List LogEntry) → CountsStarts log → starts_in log < 255 → CountsStarts (Began ∷ log)
counts_began [] counts few = absurd (omega arith)
counts_began (entry ∷ log) counts few =
    let more : starts_in (Began ∷ entry ∷ log) ≡ suc (starts_in (entry ∷ log)) =
    sum_by-cons (λ e. if begins e then 1 else 0) Began (entry ∷ log) ∙ omega arith in
    let counter : (counter_of 1 (entry ∷ log) + 1) % 256 ≡ suc (starts_in (entry ∷ log)) =
    ap (λ c. (c + 1) % 256) counts.counter ∙ grind arith in
    record {
      some = omega arith;
      most = omega arith;
      counter = counter ∙ sym more;
    }

not_most : (n : ℕ) → nat_le most_starts n ≡ false → n < 255
not_most n is = grind arith

pub started : NodeLaw → (v : ReplayValue) (number place : ℕ) (n : NodeValue) (old new : Replay) → Stands v old →
    number - 1 ≡ place → refusal_of v.world (event.Start number) ≡ None → slice_get old.nodes.items place ≡ Some n →
    new ≡ record old { nodes = new.nodes } → new.nodes.items ≡ set old.nodes.items place (befell Began n) →
    Does v (Plays (event.Start number)) [] [] new
started law v number place n old new stands is none has rest nodes =
    let there : NodeAt v place n = node_at v old stands place {n = n} has in
    let gateways : ℕ = length v.world.gateways in
    let log_is : log_in v.world number ≡ there.log =
    ap (log_at v.world) is ∙ log_there v.world place {log = there.log} there.has_log in
    let why = none_three (is_none_of (length v.world.nodes) number) (runs (log_in v.world number))
    (nat_le most_starts (starts_in (log_in v.world number))) none in
    let halted_is : runs there.log ≡ false = sym (ap runs log_is) ∙ why.0 in
    let few : starts_in there.log < 255 = not_most (starts_in there.log) (cc why.1) in
    let here : IsAtNode v (event.Start number) place there.log (called gateways place Start) =
    assumption (ap (λ (k : ℕ). at_node v.world k (called gateways k Start)) is) in
    let node : NodeValue = node_value gateways place there.log in
    let starts : call_entries node Start ≡ Began ∷ [] =
    ap (λ b. if b then entries_running node Start else entries_halted Start) halted_is in
    does_node law v (event.Start number) place n there (called gateways place Start) (Began ∷ []) here (cc)
    (grind (arith, there.counts), tt) (counts_began there.log there.counts few) [] [] [] old new new stands rest nodes
    (sent_none [] new) refl

-- a node that is to start is halted
pub start_halted : (v : ReplayValue) (number place : ℕ) (n : NodeValue) (old : Replay) → Stands v old →
    number - 1 ≡ place → refusal_of v.world (event.Start number) ≡ None → slice_get old.nodes.items place ≡ Some n →
    n.is_running ≡ false
start_halted v number place n old stands is none has =
    let there = node_at v old stands _ has in
    let log_is : log_in v.world number ≡ there.log = ap (log_at v.world) is ∙ log_there v.world _ there.has_log in
    let why = none_three _ _ _ none in
    cc (there.is, why.0)

-- A node that isn't refused is there.

within : {count : _} (number : ℕ) {place beyond : _} → is_none_of count number ≡ false → number - 1 ≡ place →
    beyond ≡ count → beyond ≤ place → ⊥
within {count} number is at same le = let there = none_of count number is in omega (arith, there.0, there.1, at, same, le)

pub no_node_beyond : {A : Type 0} {v : _} (number : ℕ) {place old : _} → Stands v old → number - 1 ≡ place →
    no_running_node v.world number ≡ None → length old.nodes.items ≤ place → A
no_node_beyond {v} number {old} stands is none beyond =
    absurd (within _ (first_not _ _ _ none) is (nodes_count v old stands) beyond)

pub no_start_beyond : {A : Type 0} (v : ReplayValue) (number : ℕ) {place old : _} → Stands v old → number - 1 ≡ place →
    refusal_of v.world (event.Start number) ≡ None → length old.nodes.items ≤ place → A
no_start_beyond v number {old} stands is none beyond =
    absurd (within _ (first_not _ _ _ none) is (nodes_count v old stands) beyond)

-- What a message that comes to a node makes of a replay.

pub drop_all : {A : Type 0} (xs : List A) → drop (length xs) xs ≡ []
drop_all [] = refl
drop_all (x ∷ xs) = drop_all xs

pub set_same : {A : Type 0} (xs : List A) (k : ℕ) {x : _} → slice_get xs k ≡ Some x → set xs k x ≡ xs
set_same [] k is = refl
set_same (y ∷ xs) zero {x} is = let same : y ≡ x = cc in cc
set_same (y ∷ xs) (suc k) is = cc (set_same xs k is)

-- An event that changes nothing but which messages wait.
pub does_nothing : (v : ReplayValue) (e : Event) → site_of v e ≡ None → machines_in v e ≡ v.machines →
    world_after v (Plays e) ≡ v.world → (before : List ℕ) {told old : _} →
    Stands (record v { waiting = waiting_in v.waiting e }) old → told ≡ before ++ notice_lines (notices_last v e) →
    Does v (Plays e) before told old
does_nothing v e no_site machines world before stands tells =
    let waits : (after_step v (Plays e)).waiting ≡ waiting_in v.waiting e =
    cc (drop_all v.world.messages, append-nil (waiting_in v.waiting e)) in
    let after_is : after_step v (Plays e) ≡ record v { waiting = waiting_in v.waiting e } =
    λ i. record { setup = v.setup; world = world i; machines = machines i; waiting = waits i } in
    record { stands = rw after_is stands; prints = cc (drop_all v.world.messages) }

-- which messages wait is nothing to a node
pub at_world : (v : ReplayValue) (number : ℕ) {place n : _} → NodeAt (passed number v) place n → NodeAt v place n
at_world v number there = record { log = there.log; has_log = there.has_log; is = there.is; counts = there.counts }

pub counter_there : {v place n : _} (there : NodeAt v place n) → n.paths.counter ≡ starts_in there.log
counter_there {v} {place} there = cc (there.is, counter_is (length v.world.gateways) place there.counts)

one_line : (notice : Notice) (before : List ℕ) → before ++ notice_line notice ≡ before ++ notice_lines (notice ∷ [])
one_line notice before = cc (append-nil (notice_line notice))

module _ (v : ReplayValue) (number place : ℕ) (to : IsTo v number false place) where
  abbrev m : Message
  m = to.message

  abbrev e : Event
  e = event.Deliver number

  abbrev gateways : ℕ
  gateways = length v.world.gateways

  pub no_site : site_of v e ≡ None
  no_site = cc (to.sent, to.side)

  machines_stay : machines_in v e ≡ v.machines
  machines_stay = cc no_site

  node_is : m.node ≡ place
  node_is = cc (to.side, to.at)

  allowed : refusal_of v.world e ≡ None
  allowed =
      let within = slice_get_within v.world.messages (number - 1) m to.sent in
      let from_one = to.numbered in
      let there : is_none_of (length v.world.messages) number ≡ false = grind arith in
      cc

  moves : turn_by (rules_in v.setup) v.world (calm e) e ≡ at_node v.world place (delivered_to_node gateways place m)
  moves = cc (to.sent, to.side, node_is)

  last_is : notices_last v e ≡ hearing_notices v number m
  last_is = cc (to.sent, to.side)

  world_is : world_after v (Plays e) ≡ at_node v.world place (delivered_to_node gateways place m)
  world_is = cc (no_site, allowed, moves)

  -- what a node makes of it that is deaf to it
  abbrev is_deaf : List LogEntry → Bool
  is_deaf log =
      let value = node_value gateways place log in
      not value.is_running || is_expired_at_node log value m

  deaf_called : (log : List LogEntry) → is_deaf log ≡ true →
      delivered_to_node gateways place m log ≡ record { log = log; sends = [] }
  deaf_called log deaf = cc

  world_stays : is_deaf (log_at v.world place) ≡ true → world_after v (Plays e) ≡ v.world
  world_stays deaf = world_is ∙ by (slice_get v.world.nodes place) refl
    where
      by : (o : Option (List LogEntry)) → slice_get v.world.nodes place ≡ o →
          option_map_or (λ log. node_called v.world place (delivered_to_node gateways place m log)) o v.world ≡ v.world
      by None is = refl
      by (Some log) is =
          let here : is_deaf log ≡ true = sym (ap is_deaf (log_there v.world _ is)) ∙ deaf in
          ap (node_called v.world place) (deaf_called log here)
          ∙ (λ i. record {
            gateways = v.world.gateways;
            nodes = (set_same v.world.nodes _ is) i;
            now = v.world.now;
            messages = (append-nil v.world.messages) i;
          })

  pub is_deaf_told : (before told : List ℕ) (old : Replay) → Stands (passed number v) old →
      is_deaf (log_at v.world place) ≡ true → told ≡ before ++ notice_lines (hearing_notices v number m) →
      Does v (Plays e) before told old
  is_deaf_told before told old stands deaf tells =
      does_nothing v e no_site machines_stay (world_stays deaf) _ stands
      (tells ∙ ap (λ ns. before ++ notice_lines ns) (sym last_is))

  -- the node hears it
  pub heard : NodeLaw → (n : NodeValue) (there : NodeAt v place n) (before after told : List ℕ) (old mid new : Replay) →
      is_deaf there.log ≡ false → n.is_running ≡ true → Stands (passed number v) old →
      mid ≡ record old { nodes = mid.nodes } →
      mid.nodes.items ≡ set old.nodes.items place
      (befallen (heard_entries n m.port (gateway_address m.gateway) m.octets) n) →
      HasSent (answers_of m (heeds n m.port (gateway_address m.gateway) m.octets)) before after mid new →
      told ≡ after ++ notice_lines (hearing_notices v number m) → Does v (Plays e) before told new
  heard law n there before after told old mid new hears running stands rest nodes sends tells =
      let log : List LogEntry = there.log in
      let value : NodeValue = node_value gateways place log in
      let from = gateway_address m.gateway in
      let entries : List LogEntry = heard_entries n m.port from m.octets in
      let call_is : delivered_to_node gateways place m log ≡ hearing gateways place m log =
      ap (λ (b : Bool). if b then record { log = log; sends = [] } else hearing gateways place m log) hears in
      let up : value.is_running ≡ true = sym (ap (λ (k : NodeValue). k.is_running) there.is) ∙ running in
      let log_is : (delivered_to_node gateways place m log).log ≡ logged entries log =
      ap (λ (c : Called). c.log) call_is
      ∙ ap
      (λ (b : Bool). logged
      (if b then entries_running value (Hear m.port from m.octets) else entries_halted (Hear m.port from m.octets)) log)
      up ∙ ap (λ (k : NodeValue). logged (heard_entries k m.port from m.octets) log) (sym there.is) in
      let sends_are : answers_of m (heeds n m.port from m.octets) ≡ (delivered_to_node gateways place m log).sends =
      ap (λ (k : NodeValue). answers_of m (heeds k m.port from m.octets)) there.is
      ∙ sym (ap (λ (c : Called). c.sends) call_is) in
      let here : IsAtNode v e place log (delivered_to_node gateways place m) =
      assumption (no_site, machines_stay, allowed, moves) in
      does_node law v e place n there (delivered_to_node gateways place m) entries here log_is
      (follow_all entries log (plain_heard n m.port from m.octets))
      (counts_plain entries {log = log} (plain_heard n m.port from m.octets) there.counts) before after told old mid new
      stands rest nodes (subst (λ (ms : List Message). HasSent ms before after mid new) sends_are sends)
      (tells ∙ ap (λ (ns : List Notice). after ++ notice_lines ns) (sym last_is))

  -- by where its node is, and whether that runs and the message is expired there
  abbrev told_of : ℕ → NodeValue → Bool → Bool → List Notice
  told_of k node running expired =
      if not running then Down number ∷ []
      else if expired then Expired number ∷ []
      else heeded_notices k number (heeds node m.port (gateway_address m.gateway) m.octets)

  abbrev told_by : ℕ → List LogEntry → NodeValue → List Notice
  told_by k log node = told_of k node node.is_running (is_expired_at_node log node m)

  told_here : hearing_notices v number m
      ≡ told_by place (log_at v.world place) (node_value gateways place (log_at v.world place))
  told_here = cc node_is

  told_with : (n : NodeValue) (there : NodeAt v place n) → hearing_notices v number m ≡ told_by place there.log n
  told_with n there = cc (told_here, log_there v.world _ there.has_log, there.is)

  -- the node isn't there, or is halted
  pub down_told : (before : List ℕ) {told old : _} → Stands (passed number v) old →
      runs (log_at v.world place) ≡ false → told ≡ before ++ notice_line (Down number) →
      Does v (Plays (event.Deliver number)) before told old
  down_told before {told} {old} stands halted tells =
      let log : List LogEntry = log_at v.world place in
      let value : NodeValue = node_value gateways place log in
      let down : value.is_running ≡ false = halted in
      let deaf : is_deaf log ≡ true = cc in
      let says : hearing_notices v number m ≡ Down number ∷ [] = cc told_here in
      is_deaf_told before told old stands deaf
      (tells ∙ one_line (Down number) before ∙ ap (λ (ns : List Notice). before ++ notice_lines ns) (sym says))

  -- the message is expired there
  pub expired_told : {n : _} (there : NodeAt v place n) (before : List ℕ) {told old : _} →
      Stands (passed number v) old → n.is_running ≡ true → is_expired_at_node there.log n m ≡ true →
      told ≡ before ++ notice_line (Expired number) → Does v (Plays (event.Deliver number)) before told old
  expired_told {n} there before {told} {old} stands running expired tells =
      let log : List LogEntry = there.log in
      let deaf : is_deaf (log_at v.world place) ≡ true =
      cc (log_there v.world place {log = log} there.has_log, there.is) in
      let says : hearing_notices v number m ≡ Expired number ∷ [] = cc (told_with n there) in
      is_deaf_told before told old stands deaf
      (tells ∙ one_line (Expired number) before ∙ ap (λ (ns : List Notice). before ++ notice_lines ns) (sym says))

  -- the node hears it
  pub hears : NodeLaw → (n : NodeValue) (there : NodeAt v place n) {before after told old : _} (mid : Replay) {new : _}
      (port : Port) (from : Addr) (octets : List ℕ) {heeded next : _} → port ≡ m.port →
      from ≡ gateway_address m.gateway → octets ≡ m.octets → n.is_running ≡ true →
      is_expired_at_node there.log n m ≡ false → Stands (passed number v) old → mid ≡ record old { nodes = mid.nodes } →
      mid.nodes.items ≡ set old.nodes.items place next → next ≡ befallen (heard_entries n port from octets) n →
      heeded ≡ heeds n port from octets → HasSent (answers_of m heeded) before after mid new →
      told ≡ after ++ notice_lines (heeded_notices place number heeded) →
      Does v (Plays (event.Deliver number)) before told new
  hears law n there {before} {after} {told} {old} mid {new} port from octets {heeded} {next} port_is from_is octets_is
      running fresh stands rest nodes next_is heeded_is sends tells =
      let log : List LogEntry = there.log in
      let next_as : next ≡ befallen (heard_entries n m.port (gateway_address m.gateway) m.octets) n = cc in
      let heeded_as : heeded ≡ heeds n m.port (gateway_address m.gateway) m.octets =
      heeded_is ∙ ap (λ p. heeds n p from octets) port_is ∙ ap (λ a. heeds n m.port a octets) from_is
      ∙ ap (heeds n m.port (gateway_address m.gateway)) octets_is in
      let listens : is_deaf log ≡ false =
      ap (λ (k : NodeValue). not k.is_running || is_expired_at_node log k m) (sym there.is)
      ∙ ap (λ b. not b || is_expired_at_node log n m) running ∙ fresh in
      let says : hearing_notices v number m
      ≡ heeded_notices place number (heeds n m.port (gateway_address m.gateway) m.octets) =
      told_with n there ∙ ap (λ b. told_of place n b (is_expired_at_node log n m)) running
      ∙ ap (told_of place n true) fresh in
      heard law n there before after told old mid new listens running stands rest
      (nodes ∙ ap (set old.nodes.items place) next_as) (rw heeded_as at sends)
      (tells ∙ ap (λ (h : Heeded). after ++ notice_lines (heeded_notices place number h)) heeded_as
      ∙ ap (λ (ns : List Notice). after ++ notice_lines ns) (sym says))

-- the message that comes is the one with its number
pub message_is : {v number place : _} (to : IsTo v number false place) {old m : _} →
    Stands (passed number v) old → slice_get old.messages.items (number - 1) ≡ Some m → m ≡ to.message
message_is to stands is = cc
