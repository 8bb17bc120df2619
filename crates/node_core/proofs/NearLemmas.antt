-- The numbers of open packets stay near the next one.
use Rattle.std.proofs.Common.{◌≡◌, ℕ, zero, suc, min, ◌+◌, ◌-◌, ◌<◌, ◌≤◌, not, Bool, true, false, if◌then◌else◌, List, [], ◌∷◌, ◌++◌, length, map, Option, None, refl, sym, subst, ◌∙◌, arith, inl, inr}
use Rattle.node_core.proofs.Names.{AllByRecursion, cases_Bool, commanded, copy_hearing, eqb_tells, HasOpenCopy, is_done, least, leb-false, nat_tests, new_copy, next_number, NodeCall, NodeSetup, numbers_at, numbers_out, oldest_number, open_among, option_or, out_at, packet_hearing, PacketCopy, PacketState, Peer, Port, reached, sum_by-cons, unsettled_at, while_open}
use Rattle.node_core.proofs.CaseLemmas.{commanded_puts, either_hears, either_open, each_contains, each_map, each_push, each_weaker}
use Rattle.node_core.proofs.KeptLemmas.{AllKept}
use Rattle.node_core.proofs.Moves.{Commanding, Copying, Move, One, are_none, beyond, command_with, copies_moved, here, length_moved, peers_moved, place}
use Rattle.node_core.proofs.ReachedLemmas.{Closed, Unrefused, all_closed, all_stand}
use Rattle.node_core.proofs.SettledLemmas.{least-append}
use Rattle.node_core.proofs.WeightLemmas.{left_at, less_left, new_packet, opens, opens_heard, opens_moved, total_pushed, weight_unless, weights, weights_few, weights_heard}

pub opens_are : (packets : List PacketState) → opens packets ≡ open_among packets
opens_are [] = refl
opens_are (packet ∷ packets) =
    omega (
      arith,
      opens_are packets,
      one (is_done packet.copies),
      sum_by-cons (λ (p : PacketState). if not (is_done p.copies) then 1 else 0) packet packets,
    )
  where
    one : (is : Bool) → weight_unless is 1 ≡ (if not is then 1 else 0)
    one true = refl
    one false = refl

-- ---- open numbers

-- each copy of an open packet at the gateway has at least this number, less 16,511
abbrev IsNear : ℕ → ℕ → PacketCopy → Type 0
IsNear most gateway copy = copy.gateway ≡ gateway → most ≤ copy.number + 16511

abbrev NearIn : ℕ → ℕ → PacketState → Type 0
NearIn most gateway packet = is_done packet.copies ≡ false → AllByRecursion (IsNear most gateway) packet.copies

abbrev NearAll : ℕ → ℕ → List PacketState → Type 0
NearAll most gateway packets = AllByRecursion (NearIn most gateway) packets

near_less : (most less gateway : ℕ) (packets : List PacketState) → less ≤ most → NearAll most gateway packets → NearAll less gateway packets
near_less most less gateway packets below near = search (arith, each_weaker)

near_moved : {peers : List Peer} {move : Move} {packets after : List PacketState} (most gateway : ℕ) → One peers move packets after →
    (place move ≡ gateway → most ≤ next_number peers (place move) + 16511) → NearAll most gateway packets → NearAll most gateway after
near_moved {peers} {move} most gateway (here {packet} {packets} open_yet is) new near = ((λ still. by move new), near.1)
  where
    by : (move : Move) → (place move ≡ gateway → most ≤ next_number peers (place move) + 16511) →
        AllByRecursion (IsNear most gateway) (copies_moved peers move packet.copies)
    by (Copying there) new = each_push (IsNear most gateway) packet.copies (new_copy there (next_number peers there) (are_none packet.copies)) (near.0 open_yet) new
    by (Commanding there order) new =
        each_map (IsNear most gateway) (IsNear most gateway) (commanded there (command_with order (next_number peers there)))
        (λ copy holds same. omega (
          arith,
          (commanded_puts there (command_with order (next_number peers there)) copy).number,
          holds (sym (commanded_puts there (command_with order (next_number peers there)) copy).gateway ∙ same),
        ))
        packet.copies (near.0 open_yet)
near_moved most gateway (beyond one) new near = (near.0, near_moved most gateway one new near.1)

near_heard : (port : Port) (heard_gateway cause : ℕ) (numbers : List ℕ) (most gateway : ℕ) (packets : List PacketState) → NearAll most gateway packets →
    NearAll most gateway (map (while_open (packet_hearing port heard_gateway cause numbers)) packets)
near_heard port heard_gateway cause numbers most gateway packets near =
    each_map (NearIn most gateway) (NearIn most gateway) (while_open (packet_hearing port heard_gateway cause numbers)) one packets near
  where
    hears : (copy : PacketCopy) → IsNear most gateway copy → IsNear most gateway (copy_hearing port heard_gateway cause numbers copy)
    hears copy holds = either_hears (IsNear most gateway) port heard_gateway cause numbers copy holds holds

    one : (packet : PacketState) → NearIn most gateway packet → NearIn most gateway (while_open (packet_hearing port heard_gateway cause numbers) packet)
    one packet is = either_open (NearIn most gateway) (packet_hearing port heard_gateway cause numbers) packet is
        (λ e open_yet. each_map (IsNear most gateway) (IsNear most gateway)
        (copy_hearing port heard_gateway cause numbers) hears packet.copies (is e))

-- ---- a packet that is submitted

or_none : {A : Type 0} (one other : Option A) → option_or one other ≡ None → (one ≡ None) × (other ≡ None)
or_none one other none = grind arith

out_none : (first : ℕ) (peers : List Peer) (packets : List PacketState) → numbers_out first peers packets ≡ None → (i gateway : ℕ) → i < length peers →
    first + i ≡ gateway → out_at gateway (next_number peers i) packets ≡ None
out_none first [] packets none i gateway below is = absurd (omega (arith, below))
out_none first (peer ∷ peers) packets none zero gateway below is = search (arith, or_none)
out_none first (peer ∷ peers) packets none (suc i) gateway below is =
    out_none (suc first) peers packets (or_none (out_at first peer.next packets) _ none).1 i gateway (omega (arith, below)) (omega (arith, is))

window : (gateway next : ℕ) (packets : List PacketState) → out_at gateway next packets ≡ None → next - oldest_number gateway next packets < 16384
window gateway next packets none = search (arith, nat_tests, cases_Bool, leb-false)

least_most : (number : ℕ) (numbers : List ℕ) → least number numbers ≤ number
least_most number [] = omega arith
least_most number (n ∷ numbers) = omega (arith, least_most (min number n) numbers)

-- what is near the least number is near each
module _ (most gateway : ℕ) where
  near_copies : (low : ℕ) (copies : List PacketCopy) → most ≤ least low (numbers_at gateway copies) + 16511 →
      AllByRecursion (IsNear most gateway) copies
  near_copies low [] near = tt
  near_copies low (copy ∷ copies) near =
      elim (eqb_tells copy.gateway gateway) [
        | inl is ↦
            let at : most ≤ least (min low copy.number) (numbers_at gateway copies) + 16511 = rw is.0 at near in (
              (λ same. omega (arith, at, least_most (min low copy.number) (numbers_at gateway copies))),
              near_copies (min low copy.number) copies at,
            )
        | inr isnt ↦ ((λ same. absurd (isnt.1 same)), near_copies low copies (rw isnt.0 at near))
      ]

  near_packets : (low : ℕ) (packets : List PacketState) → most ≤ oldest_number gateway low packets + 16511 →
      NearAll most gateway packets
  near_packets low [] near = tt
  near_packets low (packet ∷ packets) near =
      let first : ℕ = least low (unsettled_at gateway packet) in
      let later : most ≤ oldest_number gateway first packets + 16511 = search (arith, least-append) in
      let here_is : most ≤ first + 16511 = search (arith, least_most) in (
        λ open_yet. search (arith, near_copies),
        near_packets first packets later,
      )

-- ---- the law

record AllNear (peers : List Peer) (packets : List PacketState) : Type 0 where
  pub few : opens packets ≤ 64
  pub near : (gateway : ℕ) → gateway < length peers → NearAll (next_number peers gateway + weights gateway packets) gateway packets

near_after : (peers : List Peer) (move : Move) (packets after : List PacketState) → AllKept peers packets → One peers move packets after →
    AllNear peers packets → AllNear (peers_moved move peers) after
near_after peers move packets after kept one is = record {
  few = omega (arith, opens_moved one, is.few);
  near = λ gateway below.
      let most : ℕ = next_number (peers_moved move peers) gateway + weights gateway after in
      near_moved most gateway one
      (λ same. subst (λ (g : ℕ). most ≤ next_number peers g + 16511) (sym same)
      (omega (arith, less_left one gateway, weights_few 2 2 gateway packets (omega arith) (omega arith), is.few)))
      (near_less (next_number peers gateway + weights gateway packets) most gateway packets (less_left one gateway)
      (is.near gateway (omega (arith, below, length_moved move peers))));
}

near_pushed : (peers : List Peer) (packets : List PacketState) (number : ℕ) → Unrefused peers packets → AllNear peers packets →
    AllNear peers (packets ++ new_packet number ∷ [])
near_pushed peers packets number unrefused is = record {
  few = omega (arith, total_pushed (λ copies. 1) packets number, opens_are packets, unrefused.few);
  near = λ gateway below.
      let next : ℕ = next_number peers gateway in
      let none_out : out_at gateway next packets ≡ None = search (arith, out_none) in
      let most : ℕ = next + weights gateway (packets ++ new_packet number ∷ []) in
      each_push (NearIn most gateway) packets (new_packet number)
      (near_packets most gateway next packets (omega (
        arith,
        window gateway next packets none_out,
        total_pushed (left_at 2 gateway) packets number,
        weights_few 2 2 gateway packets (omega arith) (omega arith),
        opens_are packets,
        unrefused.few,
      ))) (λ open_yet. tt);
}

all_near : Closed AllNear
all_near = record {
  anew = λ addresses. record { few = omega arith; near = λ gateway below. tt };
  alike = λ peers other packets alike is. record {
    few = is.few;
    near = λ gateway below.
        near_less (next_number peers gateway + weights gateway packets) (next_number other gateway + weights gateway packets) gateway packets
        (omega (arith, alike.numbers gateway)) (is.near gateway (omega (arith, below, alike.size)));
  };
  pushed = near_pushed;
  moved = near_after;
  heard = λ peers packets port heard_gateway cause numbers is. record {
    few = omega (arith, opens_heard port heard_gateway cause numbers packets, is.few);
    near = λ gateway below.
        let f : PacketState → PacketState = while_open (packet_hearing port heard_gateway cause numbers) in
        near_less (next_number peers gateway + weights gateway packets) (next_number peers gateway + weights gateway (map f packets)) gateway (map f packets)
        (omega (arith, weights_heard 2 port heard_gateway cause numbers gateway packets))
        (near_heard port heard_gateway cause numbers _ gateway packets (is.near gateway below));
  };
}

-- ---- of a copy that is there

pub open_near : (setup : NodeSetup) (calls : List NodeCall) (gateway number : ℕ) → 1 ≤ length setup.gateways → gateway < length setup.gateways →
    HasOpenCopy (reached setup calls).packets gateway number → next_number (reached setup calls).gateways gateway ≤ number + 16511
open_near setup calls gateway number some within has =
    let size = (all_stand setup some calls).size in
    let most : ℕ = next_number (reached setup calls).gateways gateway + weights gateway (reached setup calls).packets in
    let near : NearAll most gateway (reached setup calls).packets =
    (all_closed setup some AllNear all_near calls).near gateway (omega (arith, within, size)) in
    let copies : AllByRecursion (IsNear most gateway) has.packet.copies =
    each_contains (NearIn most gateway) (reached setup calls).packets has.packet near has.kept has.open_yet in
    omega (arith, each_contains (IsNear most gateway) has.packet.copies has.copy copies has.sent has.gateway_is, has.number_is)
