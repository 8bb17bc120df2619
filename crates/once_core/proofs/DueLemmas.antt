-- What is due is of packets that are open, and they stay open. A node sends copies of packets only to gateways that are
-- alive to it, and these stay alive as long as it has them.
use Rattle.std.proofs.Common.{◌≡◌, ⊎_elim, ℕ, suc, ◌==◌, Bool, true, false, List, [], ◌∷◌, ◌++◌, map, Option, Some, None, Contains, refl, sym, ap, ◌∙◌, arith, subst, find, flat_map, eq-eqb, ◌⊎◌, slice_index_or, slice_set, replicate}
use Rattle.once_core.proofs.Names.{again, AliveTold, all_drawn, Appointed, appointing, befallen, Began, call_entries, cases_eq, chosen, Command, command_by, command_of, command_unless, commanded, common_steps, Contains-append_cases, Contains-push_cases, copies_after, copy_hearing, copy_to, due, due_by_copies, due_by_verdict, due_for, due_for_all, false≢true, get_or-replicate, get_or-set_other, get_or-set_same, Halted, Heard, is_alive, is_answered, is_done, is_of, is_released, is_settled, list_all, list_any, log_of, LogEntry, logged, moved_at_tick, nat_tests, new_copy, next_number, node_after, node_anew, node_of, NodeCall, NodeSetup, NodeValue, Order, packet_after, packet_after_all, packet_hearing, PacketCopy, PacketForm, packets_of, PacketState, Path, PathEvent, PathsOfNode, Peer, Port, probe_of, probes, probes_from, releasing, repeating, Responds, Saying, Sending, settling_beside, settling_by, Submitted, submitted, test_of, Ticked, Verdict, while_open}
use Rattle.node_core.specs.Copies.{is_held}
use Rattle.node_core.specs.Sendings.{settling}
use Rattle.node_core.specs.declared.copy.Order.TheVariants.{Release, Cancel}
use Rattle.node_core.specs.declared.copy.Verdict.TheVariants.{Unknown, Sealed, Held}
use Rattle.node_core.specs.declared.sending.Sending.TheVariants as send
use Rattle.once_core.proofs.ListLemmas.{in_cons, in_head, in_none, in_tail, in_one, of_flat_map, each_mapped}
use Rattle.once_core.proofs.NumberLemmas.{Numbered, numbered_in}
use Rattle.once_core.proofs.CaseLemmas.{by_bool, if_both, if_known, by_option}
use Rattle.node_core.specs.Log.{paths_of}
use Rattle.once_core.proofs.CallLemmas.{Adds, adds, begins_anew, halts, hears, nothing, submits, ticks}

-- ---- each sending that is due

-- what holds of what may be due for a packet with this number: of a new copy at the favourite, which is up, of one that is
-- sent again, of a test, and of a release or a cancel
pub record EachKind (number favourite : ℕ) (up : Bool) (Q : Sending → Type 0) : Type 0 where
  pub copies : (peers : List Peer) (is_plain : Bool) → up ≡ true → Q (send.Data number favourite (next_number peers favourite) is_plain true)
  pub repeats : (copy : PacketCopy) → Q (again number copy)
  pub tests : (copy : PacketCopy) → Q (test_of number copy)
  pub commands : (command : Option Command) (peers : List Peer) (o : Order) (copy : PacketCopy) → Q (command_by command peers number o copy)

module _ {number favourite : ℕ} {up : Bool} {Q : Sending → Type 0} (each : EachKind number favourite up Q) where
  abbrev AllDo : List Sending → Type 0
  AllDo sendings = (s : Sending) → Contains sendings s → Q s

  none_due : AllDo []
  none_due s is = absurd (in_none s is)

  one_due : (only : Sending) → Q only → AllDo (only ∷ [])
  one_due only holds s is = subst Q (in_one only s is) holds

  copy_due : (b : Bool) → up ≡ b → (peers : List Peer) (is_plain : Bool) → AllDo (copy_to favourite b peers number is_plain)
  copy_due true is peers is_plain = one_due _ (each.copies peers is_plain is)
  copy_due false isnt peers is_plain = none_due

  command_due : (peers : List Peer) (o : Order) (copy : PacketCopy) → AllDo (command_of peers number o copy)
  command_due peers o copy = by_bool (λ (b : Bool). AllDo (command_unless b peers number o copy)) (is_answered copy)
      (λ answered. none_due) (λ isnt. one_due _ (each.commands copy.command peers o copy))

  settling_due : (verdict : Verdict) (peers : List Peer) (copy : PacketCopy) → AllDo (settling_by verdict peers number copy)
  settling_due Unknown peers copy = one_due _ (each.tests copy)
  settling_due Held peers copy = command_due peers Cancel copy
  settling_due _ peers copy = none_due

  all_settling : (peers : List Peer) (duplicates : List PacketCopy) → AllDo (flat_map (settling peers number) duplicates)
  all_settling peers duplicates s is =
      let there = of_flat_map (settling peers number) duplicates s is in settling_due there.0.verdict peers there.0 s there.2

  releasing_due : (choice : Option PacketCopy) (peers : List Peer) (duplicates : List PacketCopy) → AllDo (releasing choice peers number duplicates)
  releasing_due None peers duplicates s is = all_settling peers duplicates s is
  releasing_due (Some choice) peers duplicates s is = ⊎_elim (command_due peers Release choice s)
      (λ other.
      let there = of_flat_map (settling_beside choice peers number) duplicates s other in
      if_both AllDo (there.0.gateway == choice.gateway) none_due (settling_due there.0.verdict peers there.0) s there.2)
      (Contains-append_cases (command_of peers number Release choice) (flat_map (settling_beside choice peers number) duplicates) s is)

  repeating_due : (found : Option PacketCopy) (peers : List Peer) → AllDo (repeating found favourite up peers number)
  repeating_due (Some copy) peers = one_due _ (each.repeats copy)
  repeating_due None peers = copy_due up refl peers false

  verdict_due : (verdict : Verdict) (peers : List Peer) (plain : PacketCopy) (duplicates : List PacketCopy) → AllDo (due_by_verdict verdict favourite up peers number plain duplicates)
  verdict_due Unknown peers plain duplicates = if_both AllDo (list_any (λ copy. is_held copy.verdict) duplicates) (one_due _ (each.tests plain))
      (repeating_due (find (λ copy. copy.gateway == favourite) (plain ∷ duplicates)) peers)
  verdict_due Sealed peers plain duplicates = releasing_due (chosen duplicates) peers duplicates
  verdict_due _ peers plain duplicates = all_settling peers duplicates

  copies_due : (peers : List Peer) (copies : List PacketCopy) → AllDo (due_by_copies favourite up peers number copies)
  copies_due peers [] = copy_due up refl peers true
  copies_due peers (plain ∷ duplicates) = verdict_due plain.verdict peers plain duplicates

pub all_due : (favourite : ℕ) (up : Bool) (Q : Sending → Type 0) (packets : List PacketState)
    → ((p : PacketState) → Contains packets p → is_done p.copies ≡ false → EachKind p.number favourite up Q)
    → (peers : List Peer) (s : Sending) → Contains (due_for_all favourite up peers packets) s → Q s
all_due favourite up Q [] each peers s is = absurd (in_none s is)
all_due favourite up Q (packet ∷ packets) each peers s is = ⊎_elim
    (if_known (λ (due : List Sending). Contains due s → Q s) (is_done packet.copies) (λ done none. absurd (in_none s none))
    (λ open_yet. copies_due (each packet (in_head packet packets) open_yet) peers packet.copies s))
    (all_due favourite up Q packets (λ p there. each p (in_tail packet p packets there)) (all_drawn (due_for favourite up peers packet) peers) s)
    (Contains-append_cases (due_for favourite up peers packet) (due_for_all favourite up (all_drawn (due_for favourite up peers packet) peers) packets) s is)

-- ---- what is due for a packet is of it

each_of : (number favourite : ℕ) (up : Bool) (Q : Sending → Type 0) → ((s : Sending) → is_of number s ≡ true → Q s) → EachKind number favourite up Q
each_of number favourite up Q holds = record {
  copies = λ peers is_plain is. holds _ own;
  repeats = λ copy. holds _ own;
  tests = λ copy. holds _ own;
  commands = λ command peers o copy. holds _ (by command peers o copy);
}
  where
    own : (number == number) ≡ true
    own = eq-eqb number number refl

    by : (command : Option Command) (peers : List Peer) (o : Order) (copy : PacketCopy) → is_of number (command_by command peers number o copy) ≡ true
    by command peers o copy = grind (arith, nat_tests)

-- a sending is of an open one of these packets
pub record IsOfOpen (packets : List PacketState) (s : Sending) : Type 0 where
  pub state : PacketState
  pub kept : Contains packets state
  pub open_yet : is_done state.copies ≡ false
  pub of : is_of state.number s ≡ true

pub all_of_open : (favourite : ℕ) (up : Bool) (packets : List PacketState) (peers : List Peer) (s : Sending) → Contains (due_for_all favourite up peers packets) s → IsOfOpen packets s
all_of_open favourite up packets = all_due favourite up (IsOfOpen packets) packets (λ p kept open_yet.
    each_of p.number favourite up (IsOfOpen packets) (λ s of. record { state = p; kept = kept; open_yet = open_yet; of = of }))

-- a probe is of no packet
abbrev pub is_probe : Sending → Bool
is_probe (send.Probe gateway number) = true
is_probe _ = false

pub probes_are : (gateway : ℕ) (paths : PathsOfNode) (peers : List Peer) (s : Sending) → Contains (probes_from gateway paths peers) s → is_probe s ≡ true
probes_are gateway paths [] s is = absurd (in_none s is)
probes_are gateway paths (peer ∷ peers) s is = ⊎_elim
    (by_bool (λ (b : Bool). Contains (probe_of b gateway peer) s → is_probe s ≡ true) (is_alive paths gateway) (λ alive none. absurd (in_none s none))
    (λ isnt here. ap is_probe (sym (in_one (send.Probe gateway peer.path) s here))))
    (probes_are (suc gateway) paths peers s)
    (Contains-append_cases (probe_of (is_alive paths gateway) gateway peer) (probes_from (suc gateway) paths peers) s is)

-- ---- an open packet stays open

-- the copies are open, one more that is new or a command that is new leaves them so
more_open : (copies : List PacketCopy) (gateway number : ℕ) (is_plain : Bool) → is_done (copies ++ new_copy gateway number is_plain ∷ []) ≡ false
more_open [] gateway number is_plain = refl
more_open (plain ∷ duplicates) gateway number is_plain = grind (arith, last duplicates)
  where
    last : (copies : List PacketCopy) → list_all is_settled (copies ++ new_copy gateway number is_plain ∷ []) ≡ false
    last [] = refl
    last (copy ∷ copies) = grind (arith, last copies)

module _ (gateway : ℕ) (given : Command) (new : given.is_answered ≡ false) where
  settled_same : (copies : List PacketCopy) → list_all is_settled (map (commanded gateway given) copies) ≡ list_all is_settled copies
  settled_same [] = refl
  settled_same (copy ∷ copies) = grind (arith, settled_same copies)

  any_same : (copies : List PacketCopy) → list_any is_released (map (commanded gateway given) copies) ≡ list_any is_released copies
  any_same [] = refl
  any_same (copy ∷ copies) = grind (arith, any_same copies)

  done_same : (copies : List PacketCopy) → is_done (map (commanded gateway given) copies) ≡ is_done copies
  done_same [] = refl
  done_same (plain ∷ duplicates) = grind (arith, any_same duplicates, settled_same duplicates)

still_open : (s : Sending) (copies : List PacketCopy) → is_done copies ≡ false → is_done (copies_after s copies) ≡ false
still_open (send.Data packet gateway number is_plain true) copies open_yet = more_open copies gateway number is_plain
still_open (send.Command packet gateway named number o true) copies open_yet =
    done_same gateway (record { order = o; number = number; is_answered = false }) refl copies ∙ open_yet
still_open _ copies open_yet = open_yet

pub stays_open : (sendings : List Sending) (packet : PacketState) → is_done packet.copies ≡ false → is_done (packet_after_all sendings packet).copies ≡ false
stays_open [] packet open_yet = open_yet
stays_open (s ∷ sendings) packet open_yet = stays_open sendings (packet_after s packet)
    (if_both (λ (p : PacketState). is_done p.copies ≡ false) (is_of packet.number s) (still_open s packet.copies open_yet) open_yet)

-- ---- a number is that of one packet

pub one_packet : (n : ℕ) (packets : List PacketState) (forms : List PacketForm) (p q : PacketState) → Numbered n packets forms → Contains packets p → Contains packets q → p.number ≡ q.number → p ≡ q
one_packet n [] forms p q is there other same = absurd (in_none p there)
one_packet n (first ∷ packets) [] p q is there other same = absurd is
one_packet n (first ∷ packets) (f ∷ forms) p q is there other same = ⊎_elim
    (λ e. ⊎_elim (λ d. sym e ∙ d) (λ later. absurd (above p q e later same)) (in_cons first q packets other))
    (λ later. ⊎_elim (λ d. absurd (above q p d later (sym same))) (λ behind. one_packet (suc n) packets forms p q is.1 later behind same) (in_cons first q packets other))
    (in_cons first p packets there)
  where
    above : (a b : PacketState) → first ≡ a → Contains packets b → a.number ≡ b.number → ⊥
    above a b e later equal =
        absurd (omega (arith, is.0, (numbered_in (suc n) packets forms b is.1 later).number, ap (λ (x : PacketState). x.number) e, equal))

-- ---- which gateways are alive

-- to a node that was made anew none is
none_of_all : (count place : ℕ) → slice_index_or (replicate count false) place false ≡ false
none_of_all count place = grind (arith, common_steps, get_or-replicate)

pub none_alive : (counter gateway : ℕ) → is_alive (node_anew counter) gateway ≡ false
none_alive counter gateway = none_of_all 256 gateway

-- one that is alive after a gateway told so is that one, or was alive
pub told_cases : (paths : PathsOfNode) (from number gateway : ℕ) → is_alive (node_after paths from (AliveTold number)) gateway ≡ true → (gateway ≡ from) ⊎ (is_alive paths gateway ≡ true)
told_cases paths from number gateway is = grind (arith, common_steps, get_or-set_other, cases_eq gateway from)

set_keeps : (flags : List Bool) (place other : ℕ) → slice_index_or flags other false ≡ true → slice_index_or (slice_set flags place true) other false ≡ true
set_keeps flags place other is = grind (arith, common_steps, get_or-set_other, get_or-set_same, cases_eq other place)

event_keeps : (paths : PathsOfNode) (from : ℕ) (event : PathEvent) (gateway : ℕ) → is_alive paths gateway ≡ true → is_alive (node_after paths from event) gateway ≡ true
event_keeps paths from (AliveTold number) gateway is = set_keeps paths.alive from gateway is
event_keeps paths from _ gateway is = is

-- ---- a copy is first sent to a gateway that is alive

module _ (paths : PathsOfNode) where
  abbrev IsUp : Sending → Type 0
  IsUp (send.Data packet gateway number is_plain is_new) = is_new ≡ true → is_alive paths gateway ≡ true
  IsUp _ = Unit {0}

  abbrev AllUp : List Sending → Type 0
  AllUp sendings = (s : Sending) → Contains sendings s → IsUp s

probe_up : (paths : PathsOfNode) (s : Sending) → is_probe s ≡ true → IsUp paths s
probe_up paths (send.Probe gateway number) is = tt
probe_up paths _ isnt = absurd (false≢true isnt)

due_up : (node : NodeValue) → AllUp node.paths (due node)
due_up node = subst (λ (paths : PathsOfNode). AllUp paths (due node))
    (by_option (λ (o : Option ℕ). (befallen (appointing o) node).paths ≡ node.paths) (moved_at_tick node) (λ none. refl) (λ gateway is. refl)) (λ s is. ⊎_elim
    (λ probe. probe_up there.paths s (probes_are 0 there.paths there.gateways s probe))
    (all_due there.favourite_place up (IsUp there.paths) there.packets (λ p kept open_yet. record {
      copies = λ peers is_plain alive new. alive;
      repeats = λ copy new. absurd (false≢true new);
      tests = λ copy. tt;
      commands = λ command peers o copy. commands_up command peers p.number o copy;
    }) (all_drawn (probes there.paths there.gateways) there.gateways) s)
    (Contains-append_cases (probes there.paths there.gateways) (due_for_all there.favourite_place up (all_drawn (probes there.paths there.gateways) there.gateways) there.packets) s is))
  where
    there : NodeValue
    there = befallen (appointing (moved_at_tick node)) node

    up : Bool
    up = is_alive there.paths there.favourite_place

    commands_up : (command : Option Command) (peers : List Peer) (number : ℕ) (o : Order) (copy : PacketCopy) → IsUp there.paths (command_by command peers number o copy)
    commands_up None peers number o copy = tt
    commands_up (Some command) peers number o copy = tt

-- ---- each copy is at a gateway that is alive

abbrev pub CopiesAlive : PathsOfNode → List PacketCopy → Type 0
CopiesAlive paths copies = (copy : PacketCopy) → Contains copies copy → is_alive paths copy.gateway ≡ true

abbrev pub AllAlive : PathsOfNode → List PacketState → Type 0
AllAlive paths packets = (packet : PacketState) → Contains packets packet → CopiesAlive paths packet.copies

-- a change of each packet that leaves its copies so
map_alive : (paths : PathsOfNode) (f : PacketState → PacketState) → ((p : PacketState) → CopiesAlive paths p.copies → CopiesAlive paths (f p).copies)
    → (packets : List PacketState) → AllAlive paths packets → AllAlive paths (map f packets)
map_alive paths f keeps packets all =
    each_mapped (λ (q : PacketState). CopiesAlive paths q.copies) f packets (λ p kept. keeps p (all p kept))

-- the same where one that is done stays as it is
open_alive : (paths : PathsOfNode) (f : PacketState → PacketState) → ((p : PacketState) → CopiesAlive paths p.copies → CopiesAlive paths (f p).copies)
    → (p : PacketState) → CopiesAlive paths p.copies → CopiesAlive paths (while_open f p).copies
open_alive paths f keeps p all = if_both (λ (q : PacketState). CopiesAlive paths q.copies) (is_done p.copies) all (keeps p all)

-- copies that are changed where they are
copies_moved : (paths : PathsOfNode) (f : PacketCopy → PacketCopy) → ((copy : PacketCopy) → (f copy).gateway ≡ copy.gateway) → (copies : List PacketCopy) → CopiesAlive paths copies → CopiesAlive paths (map f copies)
copies_moved paths f stays copies all =
    each_mapped (λ (c : PacketCopy). is_alive paths c.gateway ≡ true) f copies (λ c among. rw (stays c) (all c among))

-- a sending
commanded_stays : (gateway : ℕ) (command : Command) (copy : PacketCopy) → (commanded gateway command copy).gateway ≡ copy.gateway
commanded_stays gateway command copy = if_both (λ (c : PacketCopy). c.gateway ≡ copy.gateway) (copy.gateway == gateway) refl refl

sending_alive : (paths : PathsOfNode) (s : Sending) → IsUp paths s → (copies : List PacketCopy) → CopiesAlive paths copies → CopiesAlive paths (copies_after s copies)
sending_alive paths (send.Data packet gateway number is_plain true) up copies all = λ c is.
    ⊎_elim (all c) (λ same. subst (λ (d : PacketCopy). is_alive paths d.gateway ≡ true) same (up refl)) (Contains-push_cases copies (new_copy gateway number is_plain) c is)
sending_alive paths (send.Command packet gateway named number order true) up copies all =
    let command : Command = record { order = order; number = number; is_answered = false } in
    copies_moved paths (commanded gateway command) (commanded_stays gateway command) copies all
sending_alive paths _ up copies all = all

all_sent_alive : (paths : PathsOfNode) (sendings : List Sending) → AllUp paths sendings → (p : PacketState) → CopiesAlive paths p.copies → CopiesAlive paths (packet_after_all sendings p).copies
all_sent_alive paths [] up p all = all
all_sent_alive paths (s ∷ sendings) up p all =
    all_sent_alive paths sendings (λ t is. up t (in_tail s t sendings is)) (packet_after s p)
    (if_both (λ (q : PacketState). CopiesAlive paths q.copies) (is_of p.number s) (sending_alive paths s (up s (in_head s sendings)) p.copies all) all)

-- what is heard
heard_stays : (port : Port) (gateway cause : ℕ) (numbers : List ℕ) (copy : PacketCopy) → (copy_hearing port gateway cause numbers copy).gateway ≡ copy.gateway
heard_stays port gateway cause numbers copy = if_both (λ (c : PacketCopy). c.gateway ≡ copy.gateway) (copy.gateway == gateway) refl refl

-- ---- logs

module _ (first : ℕ) where
  abbrev AliveIn : List LogEntry → Type 0
  AliveIn log = AllAlive (paths_of first log) (packets_of log)

  none_alive_in : (paths : PathsOfNode) → AllAlive paths []
  none_alive_in paths p is = absurd (in_none p is)

  submitted_alive : (form : PacketForm) (log : List LogEntry) → AliveIn log → AliveIn (Submitted form ∷ log)
  submitted_alive form log all p is =
      ⊎_elim (all p) (λ same. subst (λ (q : PacketState). CopiesAlive (paths_of first log) q.copies) same (λ c none. absurd (in_none c none)))
      (Contains-push_cases (packets_of log) (record { number = suc (submitted log); copies = [] }) p is)

  ticked_alive : (sendings : List Sending) (log : List LogEntry) → AllUp (paths_of first log) sendings → AliveIn log → AliveIn (Ticked sendings ∷ log)
  ticked_alive sendings log up = map_alive (paths_of first log) (while_open (packet_after_all sendings))
      (open_alive (paths_of first log) (packet_after_all sendings) (all_sent_alive (paths_of first log) sendings up)) (packets_of log)

  heard_alive : (port : Port) (gateway : ℕ) (saying : Saying) (log : List LogEntry) → AliveIn log → AliveIn (Heard port gateway saying ∷ log)
  heard_alive port gateway (Path event) log all = λ p is c there. event_keeps (paths_of first log) gateway event c.gateway (all p is c there)
  heard_alive port gateway (Responds cause numbers) log all = map_alive (paths_of first log) (while_open (packet_hearing port gateway cause numbers))
      (open_alive (paths_of first log) (packet_hearing port gateway cause numbers)
      (λ p. copies_moved (paths_of first log) (copy_hearing port gateway cause numbers) (heard_stays port gateway cause numbers) p.copies)) (packets_of log) all
  heard_alive port gateway _ log all = all

  appointed_alive : (o : Option ℕ) (log : List LogEntry) → AliveIn log → AliveIn (logged (appointing o) log)
  appointed_alive None log all = all
  appointed_alive (Some gateway) log all = all

-- each copy of a node's packets is at a gateway that is alive to it
module _ (setup : NodeSetup) where
  abbrev Alive : List LogEntry → Type 0
  Alive log = AliveIn setup.counter log

  -- a call
  adds_alive : (log entries : List LogEntry) → Adds setup log entries → Alive log → Alive (logged entries log)
  adds_alive log _ nothing all = all
  adds_alive log _ begins_anew all = none_alive_in setup.counter (paths_of setup.counter (Began ∷ log))
  adds_alive log _ halts all = none_alive_in setup.counter (paths_of setup.counter (Halted ∷ log))
  adds_alive log _ (submits up form) all = submitted_alive setup.counter form log all
  adds_alive log _ (ticks up None) all = ticked_alive setup.counter (due (node_of setup log)) log (due_up (node_of setup log)) all
  adds_alive log _ (ticks up (Some gateway)) all = ticked_alive setup.counter (due (node_of setup log)) (Appointed gateway ∷ log) (due_up (node_of setup log)) all
  adds_alive log _ (hears up port gateway saying to) all = appointed_alive setup.counter to (Heard port gateway saying ∷ log) (heard_alive setup.counter port gateway saying log all)

  pub copies_alive : (calls : List NodeCall) → AllAlive (paths_of setup.counter (log_of setup calls)) (packets_of (log_of setup calls))
  copies_alive [] = none_alive_in setup.counter (paths_of setup.counter (Began ∷ []))
  copies_alive (next ∷ calls) = adds_alive (log_of setup calls) (call_entries (node_of setup (log_of setup calls)) next) (adds setup (log_of setup calls) next) (copies_alive calls)
