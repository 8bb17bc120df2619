-- What a tick makes of the packets and of the numbers is a row of moves; each number that it draws is at least the next
-- one of its gateway, and each request is of a copy that the packets have then.
use Rattle.std.proofs.Common.{◌≡◌, ℕ, suc, ◌+◌, ◌%◌, ◌<◌, ◌≤◌, ◌&&◌, Bool, true, false, if◌then◌else◌, List, [], ◌∷◌, ◌++◌, length, map, Option, Some, None, refl, sym, ap, subst, arith}
use Rattle.node_core.proofs.Names.{all_drawn, AllByRecursion, and_right, AreNumbered, Command, commanded, cond_both, copies_after, due_by, due_by_copies, due_for, due_for_all, is_alive, is_done, is_release, is_released, IsSent, list_all-append, list_all-map, new_copy, next_number, option_map_or, option_or, Order, packet_after_all, PacketCopy, PacketState, PathsOfNode, Peer, planned, probe_of, probes, probes_from, Sending, while_open}
use Rattle.node_core.specs.declared.sending.Sending.TheVariants as send
use Rattle.node_core.proofs.CaseLemmas.{either_commanded, any_map, each_append, each_weaker}
use Rattle.node_core.proofs.DueLemmas.{due_each, probes_each}
use Rattle.node_core.proofs.DueMoves.{Does, HasRoom, Step, due_does, ends, idles, moves, sends, Own, own_goes_on, sent_here, sent_later}
use Rattle.node_core.proofs.KnowledgeLemmas.{after_all_grows}
use Rattle.node_core.proofs.KeptLemmas.{AllKept, GoOn, IsKept, all_kept_after, all_kept_on, goes_on}
use Rattle.node_core.proofs.Moves.{Move, Moves, are_none, beyond, command_with, copies_moved, here, length_placed, next_placed, one_is, onward, still}
use Rattle.node_core.proofs.NodeLemmas.{after_all-number}
use Rattle.node_core.proofs.SettledLemmas.{planned_after_probes}
use Rattle.node_core.proofs.PlanLemmas.{all_drawn_append}
use Rattle.node_core.proofs.WeightLemmas.{Bounded, bounded_after, left_at}

-- ---- an open packet stays open

open_copied : (gateway number : ℕ) (copies : List PacketCopy) → is_done (copies ++ new_copy gateway number (are_none copies) ∷ []) ≡ false
open_copied gateway number copies = grind (arith, list_all-append, and_right)

module _ (gateway number : ℕ) (order : Order) where
  abbrev after_command : PacketCopy → PacketCopy
  after_command = commanded gateway (command_with order number)

  verdict_same : (copy : PacketCopy) → (after_command copy).verdict ≡ copy.verdict
  verdict_same copy = search (arith, either_commanded, command_with)

  released_same : (copy : PacketCopy) → is_released (after_command copy) ≡ is_released copy
  released_same copy =
      either_commanded (λ (c : PacketCopy). is_released c ≡ is_released copy) gateway (command_with order number) copy
      (at copy.command) refl
    where
      at : (command : Option Command) →
          (option_map_or (λ (c : Command). is_release c.order) (option_or command (Some (command_with order number))) false
          && option_map_or (λ (c : Command). c.is_answered) (option_or command (Some (command_with order number))) false)
          ≡ (option_map_or (λ (c : Command). is_release c.order) command false && option_map_or (λ (c : Command). c.is_answered) command false)
      at None = and_right (is_release order) false refl
      at (Some command) = refl

  done_commanded : (copies : List PacketCopy) → is_done (map after_command copies) ≡ is_done copies
  done_commanded copies = grind (arith, list_all-map, verdict_same, any_map, released_same)

open_moved : (move : Move) (peers : List Peer) (copies : List PacketCopy) → is_done copies ≡ false → is_done (copies_moved peers move copies) ≡ false
open_moved move peers copies open_yet = grind (arith, open_copied, done_commanded)

-- ---- what is due for one packet

abbrev packet_with : ℕ → List PacketCopy → PacketState
packet_with number copies = record { number = number; copies = copies }

step_row : {peers later_peers after_peers : List Peer} {copies later : List PacketCopy} {after : List PacketState}
    (number : ℕ) (packets : List PacketState) →
    Step peers copies later_peers later → is_done copies ≡ false →
    (is_done later ≡ false → Moves later_peers (packet_with number later ∷ packets) after_peers after) →
    Moves peers (packet_with number copies ∷ packets) after_peers after
step_row number packets idles open_yet rest = rest open_yet
step_row number packets (moves {peers} {copies} move is) open_yet rest =
    onward move (here open_yet is) (rest (open_moved move peers copies open_yet))

does_row : {number : ℕ} {peers : List Peer} {copies : List PacketCopy} {sendings : List Sending} (packets : List PacketState) →
    Does number peers copies sendings → is_done copies ≡ false →
    Moves peers (packet_with number copies ∷ packets) (all_drawn sendings peers) (packet_after_all sendings (packet_with number copies) ∷ packets)
does_row packets ends open_yet = still
does_row {number} packets (sends {peers} {copies} {sending} {sendings} is own step rest) open_yet =
    rw is (step_row number packets step open_yet (does_row packets rest))

does_own : {number : ℕ} {peers : List Peer} {copies : List PacketCopy} {sendings : List Sending} → Does number peers copies sendings →
    AllByRecursion (Own number (packet_after_all sendings (packet_with number copies)).copies) sendings
does_own ends = tt
does_own {number} (sends {peers} {copies} {sending} {sendings} is own step rest) =
    let next : PacketState = packet_with number (copies_after sending copies) in
    subst (λ (p : PacketState). AllByRecursion (Own number (packet_after_all sendings p).copies) (sending ∷ sendings))
    (sym (ap (λ (b : Bool). if b then next else packet_with number copies) is))
    (own_goes_on next.copies (packet_after_all sendings next).copies (after_all_grows sendings next) number sending own, does_own rest)

-- ---- rows of moves

moves_beyond : {peers after_peers : List Peer} {packets after : List PacketState} (packet : PacketState) → Moves peers packets after_peers after →
    Moves peers (packet ∷ packets) after_peers (packet ∷ after)
moves_beyond packet still = still
moves_beyond packet (onward move one rest) = onward move (beyond one) (moves_beyond packet rest)

moves_on : {peers between_peers after_peers : List Peer} {packets between after : List PacketState} → Moves peers packets between_peers between →
    Moves between_peers between after_peers after → Moves peers packets after_peers after
moves_on still second = second
moves_on (onward move one rest) second = onward move one (moves_on rest second)

goes_further : {peers between later : List Peer} → GoOn peers between → GoOn between later → GoOn peers later
goes_further first second = search (arith, first.numbers, second.numbers)

moves_go_on : {peers later : List Peer} {packets after : List PacketState} → Moves peers packets later after → GoOn peers later
moves_go_on still = record { size = refl; numbers = λ gateway. omega arith }
moves_go_on (onward move one rest) = goes_further (goes_on (one_is one).1) (moves_go_on rest)

-- ---- the numbers that are drawn

-- a number that the sending draws is at least the next one of the gateway
abbrev pub DrawsNext : List Peer → Sending → Type 0
DrawsNext peers (send.Data packet gateway drawn is_plain is_new) = is_new ≡ true → next_number peers gateway ≤ drawn
DrawsNext peers (send.Command packet gateway named drawn order is_new) = is_new ≡ true → next_number peers gateway ≤ drawn
DrawsNext peers _ = Unit {0}

abbrev pub AllDraw : List Peer → List Sending → Type 0
AllDraw peers sendings = AllByRecursion (DrawsNext peers) sendings

due_draws : (favourite : ℕ) (up : Bool) (peers : List Peer) (packet : PacketState) → AllDraw peers (due_for favourite up peers packet)
due_draws favourite up peers packet = search (arith, due_each)

-- where the numbers have gone on, one that is drawn there is at least the next one from before too
draws_before : (peers later : List Peer) → GoOn peers later → (sending : Sending) → DrawsNext later sending → DrawsNext peers sending
draws_before peers later on sending is = grind arith

-- ---- what is due for all packets

module _ (favourite : ℕ) (up : Bool) where
  record IsPlan (peers : List Peer) (packets : List PacketState) : Type 0 where
    row : Moves peers packets (all_drawn (due_for_all favourite up peers packets) peers) (planned favourite up peers packets)
    draws : AllDraw peers (due_for_all favourite up peers packets)
    sent : AllByRecursion (IsSent (planned favourite up peers packets)) (due_for_all favourite up peers packets)

  one_packet : (most : ℕ) (peers : List Peer) (packet : PacketState) (packets : List PacketState) → most ≤ 9223372036854775808 → favourite < length peers →
      IsKept peers packet.copies → Bounded most peers (packet ∷ packets) →
      Moves peers (packet ∷ packets) (all_drawn (due_for favourite up peers packet) peers) (packet_after_all (due_for favourite up peers packet) packet ∷ packets)
      × AllByRecursion (Own packet.number (packet_after_all (due_for favourite up peers packet) packet).copies) (due_for favourite up peers packet)
  one_packet most peers packet packets few within kept bounded =
      cond_both (is_done packet.copies) [] (due_by_copies favourite up peers packet.number packet.copies)
      (λ (sendings : List Sending). Moves peers (packet ∷ packets) (all_drawn sendings peers)
      (packet_after_all sendings packet ∷ packets)
      × AllByRecursion (Own packet.number (packet_after_all sendings packet).copies) sendings)
      (λ _. (still, tt))
      (λ open_yet. let does = due_does packet.number favourite up peers within packet.copies kept (room open_yet) in
      (does_row packets does open_yet, does_own does))
    where
      -- so many numbers are left
      room : is_done packet.copies ≡ false → HasRoom peers packet.copies
      room open_yet gateway place left = search (arith, left_at)

  tick_plan : (most : ℕ) (peers : List Peer) (packets : List PacketState) → most ≤ 9223372036854775808 → favourite < length peers → AllKept peers packets →
      Bounded most peers packets → IsPlan peers packets
  tick_plan most peers [] few within kept bounded = record { row = still; draws = tt; sent = tt }
  tick_plan most peers (packet ∷ packets) few within kept bounded =
      let due : List Sending = due_for favourite up peers packet in
      let between : List Peer = all_drawn due peers in
      let after : PacketState = packet_after_all due packet in
      let first = one_packet most peers packet packets few within kept.0 bounded in
      let kept_between : AllKept between (after ∷ packets) = all_kept_after first.0 kept in
      let bounded_between : Bounded most between (after ∷ packets) = bounded_after first.0 bounded in
      let on : GoOn peers between = moves_go_on first.0 in
      let rest = tick_plan most between packets few (omega (arith, on.size, within)) kept_between.1
      (λ gateway below. omega (arith, bounded_between gateway below)) in
      search (
        arith,
        all_drawn_append,
        moves_on,
        moves_beyond,
        each_append,
        due_draws,
        each_weaker,
        draws_before,
        sent_here,
        after_all-number,
        sent_later,
      )

-- ---- the Node Alive Requests: as many gateways, with the same request numbers

pub record Alike (peers other : List Peer) : Type 0 where
  pub size : length other ≡ length peers
  pub numbers : (gateway : ℕ) → next_number other gateway ≡ next_number peers gateway

probes_alike : (gateway : ℕ) (paths : PathsOfNode) (probed peers : List Peer) → Alike peers (all_drawn (probes_from gateway paths probed) peers)
probes_alike gateway paths [] peers = record { size = refl; numbers = λ other. refl }
probes_alike gateway paths (peer ∷ probed) peers = by (is_alive paths gateway) (probes_alike (suc gateway) paths probed)
  where
    step : Peer → Peer
    step p = record p { path = (peer.path + 1) % 65536 }

    by : (alive : Bool) → ((ps : List Peer) → Alike ps (all_drawn (probes_from (suc gateway) paths probed) ps)) →
        Alike peers (all_drawn (probe_of alive gateway peer ++ probes_from (suc gateway) paths probed) peers)
    by true rest = rest peers
    by false rest = search (arith, length_placed, step, next_placed)

-- ---- the whole tick

pub record IsTick (peers : List Peer) (packets : List PacketState) (sendings : List Sending) : Type 0 where
  pub probed : List Peer
  pub alike : Alike peers probed
  pub kept : AllKept probed packets
  pub row : Moves probed packets (all_drawn sendings peers) (map (while_open (packet_after_all sendings)) packets)
  pub on : GoOn peers (all_drawn sendings peers)
  pub draws : AllDraw peers sendings
  pub sent : AllByRecursion (IsSent (map (while_open (packet_after_all sendings)) packets)) sendings

pub a_tick : (favourite most before : ℕ) (up : Bool) (paths : PathsOfNode) (peers : List Peer) (packets : List PacketState) → most ≤ 9223372036854775808 →
    favourite < length peers → AllKept peers packets → Bounded most peers packets → AreNumbered before packets →
    IsTick peers packets (due_by favourite up paths peers packets)
a_tick favourite most before up paths peers packets few within kept bounded numbered =
    let probed : List Peer = all_drawn (probes paths peers) peers in
    let due : List Sending = due_for_all favourite up probed packets in
    let alike : Alike peers probed = probes_alike 0 paths peers peers in
    let on : GoOn peers probed = search arith in
    let there : AllKept probed packets = all_kept_on peers probed packets on kept in
    let plan = tick_plan favourite up most probed packets few (omega (arith, within, alike.size)) there
    (λ gateway below. omega (arith, bounded gateway (omega (arith, below, alike.size)), alike.numbers gateway)) in
    let after : List PacketState = planned favourite up probed packets in
    let is : map (while_open (packet_after_all (probes paths peers ++ due))) packets ≡ after =
    planned_after_probes favourite up before paths peers probed packets numbered in
    let drawn_is : all_drawn (probes paths peers ++ due) peers ≡ all_drawn due probed = all_drawn_append (probes paths peers) due peers in
    record {
      probed = probed;
      alike = alike;
      kept = there;
      row = search arith;
      on = subst (GoOn peers) (sym drawn_is) (goes_further on (moves_go_on plan.row));
      draws = search (arith, each_append, probes_each, each_weaker, draws_before);
      sent = subst (λ (ps : List PacketState). AllByRecursion (IsSent ps) (probes paths peers ++ due)) (sym is)
          (each_append (IsSent after) (probes paths peers) due
          (probes_each (IsSent after) (λ gateway path. tt) 0 paths peers) plan.sent);
    }
