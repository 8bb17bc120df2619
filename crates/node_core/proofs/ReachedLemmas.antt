-- What holds of a node without packets, and stays through each move, submission and response, holds of every node that any
-- calls make.
use Rattle.std.proofs.Common.{◌≡◌, ℕ, suc, ◌+◌, ◌*◌, ◌<◌, ◌≤◌, nat_lt, List, [], ◌∷◌, ◌++◌, length, map, Option, Some, None, refl, arith, length-append}
use Rattle.node_core.proofs.Names.{Addr, all_drawn, AllByRecursion, Appointed, appointing, AreNumbered, befallen, Began, call_entries, cond_both, Dropped, due, due_now, entries_from, entries_halted, entries_running, favourite, Halt, Halted, Hear, Heard, IfSome, IsSent, leb-false, length-map, log_of, LogEntry, logged, ltb-true, most_submissions, moved_at_tick, moved_by, nat_tests, next_number, next_place, node_of, NodeCall, NodeSetup, NodeValue, numbers_out, open_among, packet_after_all, packet_hearing, PacketForm, packets_of, PacketState, Peer, peer_anew, peers_of, place_at, place_of, Port, reached, redirected, refusal, Responds, Saying, Says, Sending, Start, Submit, submit_entries, Submitted, submitted, Taken, taken, taken_entries, Tick, tick_entries, Ticked, while_open}
use Rattle.std.proofs.lemmas.List.Quantifiers.{position-Some}
use Rattle.node_core.specs.declared.fault.SubmitFault.{SubmitFault}
use Rattle.node_core.proofs.CaseLemmas.{either_open, if_or, each_map, each_push}
use Rattle.node_core.proofs.KeptLemmas.{AllKept, GoOn, IsKept, all_kept_after, all_kept_moved, kept_hearing}
use Rattle.node_core.proofs.Moves.{Move, Moves, One, onward, peers_moved, still}
use Rattle.node_core.proofs.NodeLemmas.{after_all-number, numbered_map, numbered_push, while_open-number}
use Rattle.node_core.proofs.TickMoves.{Alike, AllDraw, IsTick, a_tick}
use Rattle.node_core.proofs.WeightLemmas.{Bounded, bounded_after, left_at, new_packet, total_pushed, weights_heard}

-- ---- what a law needs

-- no fault keeps a packet from being submitted
pub record Unrefused (peers : List Peer) (packets : List PacketState) : Type 0 where
  pub few : open_among packets < 64
  pub near : numbers_out 0 peers packets ≡ None

unrefused : (node : NodeValue) (form : PacketForm) → refusal node form ≡ None → Unrefused node.gateways node.packets
unrefused node form none = grind (arith, nat_tests, leb-false)

pub record Closed (Q : List Peer → List PacketState → Type 0) : Type 0 where
  pub anew : (addresses : List Addr) → Q (map peer_anew addresses) []
  pub alike : (peers other : List Peer) (packets : List PacketState) → Alike peers other → Q peers packets → Q other packets
  pub pushed : (peers : List Peer) (packets : List PacketState) (number : ℕ) → Unrefused peers packets → Q peers packets →
      Q peers (packets ++ new_packet number ∷ [])
  pub moved : (peers : List Peer) (move : Move) (packets after : List PacketState) → AllKept peers packets → One peers move packets after → Q peers packets →
      Q (peers_moved move peers) after
  pub heard : (peers : List Peer) (packets : List PacketState) (port : Port) (gateway cause : ℕ) (numbers : List ℕ) →
      Q peers packets → Q peers (map (while_open (packet_hearing port gateway cause numbers)) packets)

-- ---- where the favourite moves to

abbrev Within : ℕ → Option ℕ → Type 0
Within size to = IfSome to (λ gateway. gateway < size)

next_within : (size gateway : ℕ) → Within size (next_place size gateway)
next_within size gateway = search (arith, nat_tests, cond_both, ltb-true)

place_within : (peers : List Peer) (ip : ℕ) → Within (length peers) (place_of peers ip)
place_within peers ip = grind (arith, nat_tests, position-Some)

at_within : (peers : List Peer) (octets : List ℕ) → Within (length peers) (place_at peers octets)
at_within peers octets = search (arith, cond_both)

redirected_within : (peers : List Peer) (gateway : ℕ) (to : Option (List ℕ)) → Within (length peers) (redirected peers gateway to)
redirected_within peers gateway to = search (arith, if_or, next_within, at_within, cond_both)

tick_within : (node : NodeValue) → Within (length node.gateways) (moved_at_tick node)
tick_within node = search (arith, cond_both)

moved_within : (node : NodeValue) (port : Port) (gateway : ℕ) (saying : Saying) → Within (length node.gateways) (moved_by node port gateway saying)
moved_within node port gateway saying = grind (arith, cond_both)

-- ---- what stands of every log

pub anew_next : (addresses : List Addr) (gateway : ℕ) → next_number (map peer_anew addresses) gateway ≡ 65536
anew_next (address ∷ addresses) (suc gateway) = anew_next addresses gateway
anew_next _ _ = refl

module _ (setup : NodeSetup) where
  pub record Stands (log : List LogEntry) : Type 0 where
    pub size : length (peers_of setup.gateways log) ≡ length setup.gateways
    pub place : favourite log < length setup.gateways
    pub before : ℕ
    pub numbered : AreNumbered before (packets_of log)
    pub counted : submitted log ≡ before + length (packets_of log)
    pub kept : AllKept (peers_of setup.gateways log) (packets_of log)
    pub few : submitted log ≤ 4611686018427355136
    pub bounded : Bounded (65536 + 2 * length (packets_of log)) (peers_of setup.gateways log) (packets_of log)

  began : 1 ≤ length setup.gateways → (log : List LogEntry) → submitted log ≤ 4611686018427355136 → Stands (Began ∷ log)
  began some log few = record {
    size = length-map setup.gateways peer_anew;
    place = omega (arith, some);
    before = submitted log;
    numbered = tt;
    counted = omega arith;
    kept = tt;
    few = few;
    bounded = λ gateway below. omega (arith, anew_next setup.gateways gateway);
  }

  halted : 1 ≤ length setup.gateways → (log : List LogEntry) → submitted log ≤ 4611686018427355136 →
      Stands (Halted ∷ log)
  halted some log few = let is : Stands (Began ∷ log) = began some log few in
      search (is.size, is.place, is.numbered, is.counted, is.few, is.bounded)

  is_submitted : (form : PacketForm) (log : List LogEntry) → submitted log < 4611686018427355136 → Stands log → Stands (Submitted form ∷ log)
  is_submitted form log fewer is =
      search (arith, length-append, new_packet, numbered_push, each_push, total_pushed, left_at)

  is_appointed : (gateway : ℕ) (log : List LogEntry) → gateway < length (peers_of setup.gateways log) → Stands log → Stands (Appointed gateway ∷ log)
  is_appointed gateway log below is = search arith

  is_heard : (port : Port) (gateway : ℕ) (saying : Saying) (log : List LogEntry) → Stands log → Stands (Heard port gateway saying ∷ log)
  is_heard port heard_gateway (Responds cause numbers) log is =
      let hears : PacketState → PacketState = packet_hearing port heard_gateway cause numbers in
      record {
        size = is.size;
        place = is.place;
        before = is.before;
        numbered = numbered_map (while_open hears) (while_open-number hears (λ packet. refl)) is.before (packets_of log) is.numbered;
        counted = omega (arith, is.counted, length-map (packets_of log) (while_open hears));
        kept = each_map (λ (p : PacketState). IsKept (peers_of setup.gateways log) p.copies) (λ (p : PacketState). IsKept (peers_of setup.gateways log) p.copies)
            (while_open hears) (λ packet kept.
            either_open (λ (p : PacketState). IsKept (peers_of setup.gateways log) p.copies) hears packet kept
            (λ _. kept_hearing (peers_of setup.gateways log) port heard_gateway cause numbers packet.copies kept))
            (packets_of log) is.kept;
        few = is.few;
        bounded = λ gateway below. search (arith, is.bounded, length-map, weights_heard);
      }
  is_heard port gateway _ log is = search (is.place)

  tick_of : (log : List LogEntry) → Stands log →
      IsTick (peers_of setup.gateways log) (packets_of log) (due_now (node_of setup log))
  tick_of log is = search (arith, a_tick)

  is_ticked : (log : List LogEntry) → Stands log → Stands (Ticked (due_now (node_of setup log)) ∷ log)
  is_ticked log is =
      let sendings : List Sending = due_now (node_of setup log) in
      let packets : List PacketState = packets_of log in
      let tick : IsTick (peers_of setup.gateways log) packets sendings = tick_of log is in
      let after : PacketState → PacketState = while_open (packet_after_all sendings) in
      let most : ℕ = 65536 + 2 * length packets in
      let before : Bounded most tick.probed packets = search (arith, is.bounded) in
      let bounded : Bounded most (all_drawn sendings (peers_of setup.gateways log)) (map after packets) =
      bounded_after tick.row before in
      search (arith, numbered_map, while_open-number, after_all-number, length-map, all_kept_after)

  -- ---- what holds beside it

  pub record Law (Q : List LogEntry → Type 0) : Type 0 where
    pub begins : (log : List LogEntry) → Q (Began ∷ log)
    pub halts : (log : List LogEntry) → Q (Halted ∷ log)
    pub submits : (log : List LogEntry) (form : PacketForm) → Unrefused (peers_of setup.gateways log) (packets_of log) →
        Q log → Q (Submitted form ∷ log)
    pub appoints : (log : List LogEntry) (gateway : ℕ) → Q log → Q (Appointed gateway ∷ log)
    pub ticks : (log : List LogEntry) → Stands log →
        IsTick (peers_of setup.gateways log) (packets_of log) (due_now (node_of setup log)) →
        Q log → Q (Ticked (due_now (node_of setup log)) ∷ log)
    pub hears : (log : List LogEntry) (port : Port) (gateway : ℕ) (saying : Saying) → Q log → Q (Heard port gateway saying ∷ log)

  of_closed : (Q : List Peer → List PacketState → Type 0) → Closed Q →
      Law (λ log. Q (peers_of setup.gateways log) (packets_of log))
  of_closed Q law = record {
    begins = λ log. law.anew setup.gateways;
    halts = λ log. law.anew setup.gateways;
    submits = search (arith, unrefused);
    appoints = λ log gateway is. is;
    ticks = search (arith, law.alike, row);
    hears = hears;
  }
    where
      row : {peers after_peers : List Peer} {packets after : List PacketState} → Moves peers packets after_peers after → AllKept peers packets →
          Q peers packets → Q after_peers after
      row still kept is = is
      row {peers} {packets = packets} (onward {between = between} move one rest) kept is =
          row rest (all_kept_moved one kept) (law.moved peers move packets between kept one is)

      hears : (log : List LogEntry) (port : Port) (gateway : ℕ) (saying : Saying) → Q (peers_of setup.gateways log) (packets_of log) →
          Q (peers_of setup.gateways log) (packets_of (Heard port gateway saying ∷ log))
      hears log port gateway (Responds cause numbers) is = search (arith, law.heard)
      hears log port gateway _ is = is

  module _ (some : 1 ≤ length setup.gateways) (Q : List LogEntry → Type 0) (law : Law Q) where
    abbrev Both : List LogEntry → Type 0
    Both log = Stands log × Q log

    appointed : (log : List LogEntry) (gateway : ℕ) → gateway < length (peers_of setup.gateways log) → Both log → Both (Appointed gateway ∷ log)
    appointed log gateway below is = (is_appointed gateway log below is.0, law.appoints log gateway is.1)

    ticked : (log : List LogEntry) → Both log → Both (Ticked (due_now (node_of setup log)) ∷ log)
    ticked log is = (is_ticked log is.0, law.ticks log is.0 (tick_of log is.0) is.1)

    heard : (log : List LogEntry) (port : Port) (gateway : ℕ) (saying : Saying) → Both log → Both (Heard port gateway saying ∷ log)
    heard log port gateway saying is = (is_heard port gateway saying log is.0, law.hears log port gateway saying is.1)

    module _ (log : List LogEntry) (is : Both log) where
      abbrev now : NodeValue
      now = node_of setup log

      after_taken : (port : Port) (gateway : ℕ) (what : Taken) → Both (logged (taken_entries now port gateway what) log)
      after_taken port gateway (Dropped why) = is
      after_taken port gateway (Says saying reply) =
          by (moved_by now port gateway saying) (moved_within now port gateway saying)
        where
          by : (to : Option ℕ) → Within (length now.gateways) to →
              Both (logged (Heard port gateway saying ∷ appointing to) log)
          by None within = heard log port gateway saying is
          by (Some to) within = appointed (Heard port gateway saying ∷ log) to within (heard log port gateway saying is)

      after_running : (call : NodeCall) → Both (logged (entries_running now call) log)
      after_running (Submit form) = by (refusal now form) refl
        where
          by : (fault : Option SubmitFault) → refusal now form ≡ fault → Both (logged (submit_entries now fault form) log)
          by (Some fault) e = is
          by None e =
              cond_both (nat_lt (submitted log) most_submissions) (Submitted form ∷ []) []
              (λ (entries : List LogEntry). Both (logged entries log))
              (λ fewer. (
                is_submitted form log (ltb-true _ _ fewer) is.0,
                law.submits log form (unrefused now form e) is.1,
              )) (λ _. is)
      after_running Tick = by (moved_at_tick now) (tick_within now)
        where
          by : (to : Option ℕ) → Within (length now.gateways) to →
              Both (logged (appointing to ++ Ticked (due_now (befallen (appointing to) now)) ∷ []) log)
          by None within = ticked log is
          by (Some gateway) within = ticked (Appointed gateway ∷ log) (appointed log gateway within is)
      after_running (Hear port from octets) = by (place_of now.gateways from.ip)
        where
          by : (place : Option ℕ) → Both (logged (entries_from now port place octets) log)
          by None = is
          by (Some gateway) = after_taken port gateway (taken now gateway octets)
      after_running Halt = (halted some log is.0.few, law.halts log)
      after_running Start = is

      after_halted : (call : NodeCall) → Both (logged (entries_halted call) log)
      after_halted Halt = (halted some log is.0.few, law.halts log)
      after_halted Start = (began some log is.0.few, law.begins log)
      after_halted _ = is

      after_call : (call : NodeCall) → Both (logged (call_entries now call) log)
      after_call call =
          cond_both now.is_running (entries_running now call) (entries_halted call)
          (λ (entries : List LogEntry). Both (logged entries log))
          (λ _. after_running call) (λ _. after_halted call)

    pub all_hold : (calls : List NodeCall) → Both (log_of setup calls)
    all_hold [] = (began some [] (omega arith), law.begins [])
    all_hold (call ∷ calls) = after_call (log_of setup calls) (all_hold calls) call

  -- ---- all calls

  module _ (some : 1 ≤ length setup.gateways) where
    pub all_stand : (calls : List NodeCall) → Stands (log_of setup calls)
    all_stand calls = (all_hold some (λ log. Unit {0}) (record {
      begins = λ log. tt;
      halts = λ log. tt;
      submits = λ log form unrefused is. tt;
      appoints = λ log gateway is. tt;
      ticks = λ log stands tick is. tt;
      hears = λ log port gateway saying is. tt;
    }) calls).0

    pub all_closed : (Q : List Peer → List PacketState → Type 0) → Closed Q → (calls : List NodeCall) →
        Q (reached setup calls).gateways (reached setup calls).packets
    all_closed Q law calls =
        (all_hold some (λ log. Q (peers_of setup.gateways log) (packets_of log)) (of_closed Q law) calls).1

    -- the next tick
    pub record NextTick (log entries : List LogEntry) (sendings : List Sending) : Type 0 where
      pub on : GoOn (peers_of setup.gateways log) (peers_of setup.gateways (logged entries log))
      pub draws : AllDraw (peers_of setup.gateways log) sendings
      pub sent : AllByRecursion (IsSent (packets_of (logged entries log))) sendings

    pub next_tick : (calls : List NodeCall) → NextTick (log_of setup calls) (tick_entries (reached setup calls))
        (due (reached setup calls))
    next_tick calls = by (moved_at_tick (reached setup calls)) (tick_within (reached setup calls))
      where
        by : (to : Option ℕ) → Within (length (reached setup calls).gateways) to →
            NextTick (log_of setup calls) (appointing to ++ Ticked (due_now (befallen (appointing to) (reached setup calls))) ∷ [])
            (due_now (befallen (appointing to) (reached setup calls)))
        by None within =
            let tick = tick_of (log_of setup calls) (all_stand calls) in
            record { on = tick.on; draws = tick.draws; sent = tick.sent }
        by (Some gateway) within =
            let log : List LogEntry = Appointed gateway ∷ log_of setup calls in
            let tick = tick_of log (is_appointed gateway (log_of setup calls) within (all_stand calls)) in
            record { on = tick.on; draws = tick.draws; sent = tick.sent }
