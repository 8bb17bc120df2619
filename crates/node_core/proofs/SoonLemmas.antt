-- Behind each copy's number another copy's number, or the next number, comes within 65.
use Rattle.std.proofs.Common.{◌≡◌, ℕ, ◌+◌, ◌<◌, ◌≤◌, ◌==◌, ◌&&◌, ◌⊎◌, Bool, true, List, [], ◌∷◌, ◌++◌, length, map, refl, sym, ap, subst, ◌∙◌, arith, inl, inr}
use Rattle.node_core.proofs.Names.{and_from, and_parts, Any-from_list_any, ComesSoon, eq-eqb, eqb-true, HasCopy, HasOpenCopy, IsCopyOrBase, list_any, list_any-append, nat_tests, next_number, NodeCall, NodeSetup, or-false, or_cases, or_left, or_right, packet_hearing, PacketCopy, PacketState, Peer, Port, reached, while_open}
use Rattle.node_core.proofs.CaseLemmas.{StaysPut, at_or_apart, commanded_puts, hearing_puts, any_map, each_contains, passes_in}
use Rattle.node_core.proofs.ChosenLemmas.{own_number}
use Rattle.node_core.proofs.KeptLemmas.{AllKept, IsBelow, IsKept, goes_on}
use Rattle.node_core.proofs.Moves.{Copying, Commanding, Move, One, are_none, beyond, copies_moved, here, length_moved, next_elsewhere, next_moved, one_is, peers_moved, place}
use Rattle.node_core.proofs.NearLemmas.{open_near, opens_are}
use Rattle.node_core.proofs.ReachedLemmas.{Closed, all_closed, all_stand, anew_next}
use Rattle.node_core.proofs.WeightLemmas.{left_at, new_packet, opens, opens_heard, opens_moved, total_moved, total_pushed, weight_commanded, weights_by, weights_few, weights_heard, weights_moved_other}

-- ---- numbers of copies

module _ (gateway number : ℕ) where
  abbrev is_at : PacketCopy → Bool
  is_at copy = (copy.gateway == gateway) && (copy.number == number)

  abbrev sent_in : PacketState → Bool
  sent_in packet = list_any is_at packet.copies

  abbrev has_in : List PacketState → Bool
  has_in packets = list_any sent_in packets

  found : (packets : List PacketState) → has_in packets ≡ true → HasCopy packets gateway number
  found packets has = search (arith, nat_tests, Any-from_list_any, and_parts, eqb-true)

  has : (packets : List PacketState) → HasCopy packets gateway number → has_in packets ≡ true
  has packets of = search (arith, nat_tests, passes_in, and_from, eq-eqb)

  below_has : (peers : List Peer) (packets : List PacketState) → AllKept peers packets → has_in packets ≡ true → number < next_number peers gateway
  below_has peers packets kept has =
      let of = found packets has in
      let its = each_contains (λ (p : PacketState). IsKept peers p.copies) packets of.packet kept of.kept in
      let below = each_contains (IsBelow peers) of.packet.copies of.copy its.below of.sent in
      omega (arith, below.number, of.number_is, ap (next_number peers) of.gateway_is)

  puts_same : (f : PacketCopy → PacketCopy) → ((copy : PacketCopy) → StaysPut copy (f copy)) → (copies : List PacketCopy) →
      list_any is_at (map f copies) ≡ list_any is_at copies
  puts_same f puts = any_map is_at f (λ copy. rw ((puts copy).gateway, (puts copy).number) refl)

  in_moved : (move : Move) (peers : List Peer) (copies : List PacketCopy) → list_any is_at copies ≡ true →
      list_any is_at (copies_moved peers move copies) ≡ true
  in_moved move peers copies has = grind (arith, has, list_any-append, are_none, or_left, puts_same, commanded_puts)

  in_before : (move : Move) (peers : List Peer) (copies : List PacketCopy) → list_any is_at (copies_moved peers move copies) ≡ true →
      (list_any is_at copies ≡ true) ⊎ ((place move ≡ gateway) × (next_number peers (place move) ≡ number))
  in_before move peers copies has =
      grind (
        arith,
        nat_tests,
        has,
        are_none,
        or_cases,
        list_any-append,
        and_parts,
        or-false,
        eqb-true,
        puts_same,
        commanded_puts,
      )

  has_moved : {peers : List Peer} {move : Move} {packets after : List PacketState} → One peers move packets after → has_in packets ≡ true → has_in after ≡ true
  has_moved {peers} {move} (here {packet} {packets} open_yet is) has =
      search (arith, or_cases, or_left, copies_moved, in_moved, or_right)
  has_moved (beyond {packet} {packets} {after} one) has = elim (or_cases (sent_in packet) (has_in packets) has) [
    | inl its ↦ or_left (sent_in packet) (has_in after) its
    | inr later ↦ or_right (sent_in packet) (has_in after) (has_moved one later)
  ]

  has_before : {peers : List Peer} {move : Move} {packets after : List PacketState} → One peers move packets after → has_in after ≡ true →
      (has_in packets ≡ true) ⊎ ((place move ≡ gateway) × (next_number peers (place move) ≡ number))
  has_before {peers} {move} (here {packet} {packets} open_yet is) has =
      search (arith, or_cases, copies_moved, in_before, or_left, or_right)
  has_before (beyond {packet} {packets} {after} one) has = elim (or_cases (sent_in packet) (has_in after) has) [
    | inl its ↦ inl (or_left (sent_in packet) (has_in packets) its)
    | inr later ↦ search (arith, (has_before one later), or_right)
  ]

  has_pushed : (packets : List PacketState) (new : ℕ) → has_in (packets ++ new_packet new ∷ []) ≡ has_in packets
  has_pushed packets new = list_any-append sent_in packets (new_packet new ∷ []) ∙ or-false (has_in packets)

  has_heard : (port : Port) (heard cause : ℕ) (numbers : List ℕ) (packets : List PacketState) →
      has_in (map (while_open (packet_hearing port heard cause numbers)) packets) ≡ has_in packets
  has_heard port heard cause numbers = search (arith, any_map, hearing_puts)

-- a new copy is there
new_has : {peers : List Peer} {gateway : ℕ} {packets after : List PacketState} → One peers (Copying gateway) packets after →
    has_in gateway (next_number peers gateway) after ≡ true
new_has {peers} {gateway} (here {packet} {packets} open_yet is) =
    search (arith, or_left, copies_moved, list_any-append, are_none, or_right, or-false, and_from, own_number)
new_has {peers} {gateway} (beyond {packet} {packets} {after} one) = search (arith, or_right, (new_has one))

-- ---- the law

-- open packets with a copy for which nothing was sent yet
abbrev lones : ℕ → List PacketState → ℕ
lones gateway packets = weights_by 0 gateway packets

abbrev SoonAt : List Peer → List PacketState → ℕ → ℕ → Type 0
SoonAt peers packets gateway number =
    (next_number peers gateway + lones gateway packets ≤ number + 65)
    ⊎ ((later : ℕ) × (has_in gateway later packets ≡ true) × (number < later) × (later ≤ number + 65))

record AllSoon (peers : List Peer) (packets : List PacketState) : Type 0 where
  pub few : opens packets ≤ 64
  pub first : (gateway : ℕ) → gateway < length peers → 65536 ≤ next_number peers gateway
  pub base : (gateway : ℕ) → gateway < length peers → SoonAt peers packets gateway 65535
  pub copies : (gateway number : ℕ) → gateway < length peers → has_in gateway number packets ≡ true → SoonAt peers packets gateway number

-- what follows where nothing is drawn, and as many packets or fewer wait
soon_on : (peers other : List Peer) (packets after : List PacketState) (gateway number : ℕ) → next_number other gateway ≡ next_number peers gateway →
    lones gateway after ≤ lones gateway packets → ((later : ℕ) → has_in gateway later packets ≡ true → has_in gateway later after ≡ true) →
    SoonAt peers packets gateway number → SoonAt other after gateway number
soon_on peers other packets after gateway number next less has h = grind (arith, has)

soon_same : (peers other : List Peer) (packets after : List PacketState) → length other ≡ length peers →
    ((gateway : ℕ) → next_number other gateway ≡ next_number peers gateway) → opens after ≤ 64 →
    ((gateway : ℕ) → lones gateway after ≤ lones gateway packets) →
    ((gateway number : ℕ) → has_in gateway number after ≡ has_in gateway number packets) → AllSoon peers packets →
    AllSoon other after
soon_same peers other packets after size next few less same is = search (arith, is.first, has, is.base, is.copies)

soon_there : (peers : List Peer) (move : Move) (packets after : List PacketState) (number : ℕ) → One peers move packets after →
    number < next_number peers (place move) → SoonAt peers packets (place move) number → SoonAt (peers_moved move peers) after (place move) number
soon_there peers move packets after number one below (inr at) = inr (at.0, has_moved (place move) at.0 one at.1, at.2, at.3)
soon_there peers (Copying gateway) packets after number one below (inl bound) = search (arith, new_has)
soon_there peers (Commanding gateway order) packets after number one below (inl bound) =
    inl (omega (
      arith,
      bound,
      total_moved (left_at 0 gateway) 1
          (λ copies is. omega (arith, weight_commanded 0 gateway order peers copies is.fits)) one,
      next_moved one,
    ))

soon_moved : (peers : List Peer) (move : Move) (packets after : List PacketState) (gateway number : ℕ) → One peers move packets after →
    number < next_number peers gateway → SoonAt peers packets gateway number → SoonAt (peers_moved move peers) after gateway number
soon_moved peers move packets after gateway number one =
    at_or_apart (λ (g : ℕ). number < next_number peers g → SoonAt peers packets g number
    → SoonAt (peers_moved move peers) after g number) (place move) gateway
    (soon_there peers move packets after number one)
    (λ apart below. soon_on peers (peers_moved move peers) packets after gateway number
    (next_elsewhere move gateway peers apart)
    (weights_moved_other 0 gateway apart one) (λ later has. has_moved gateway later one has))

all_soon_moved : (peers : List Peer) (move : Move) (packets after : List PacketState) → AllKept peers packets → One peers move packets after →
    AllSoon peers packets → AllSoon (peers_moved move peers) after
all_soon_moved peers move packets after kept one is = record {
  few = omega (arith, opens_moved one, is.few);
  first = λ gateway below. omega (arith, is.first gateway (within gateway below), (goes_on (one_is one).1).numbers gateway);
  base = λ gateway below.
      soon_moved peers move packets after gateway 65535 one (omega (arith, is.first gateway (within gateway below))) (is.base gateway (within gateway below));
  copies = λ gateway number below has. by gateway number below (has_before gateway number one has);
}
  where
    within : (gateway : ℕ) → gateway < length (peers_moved move peers) → gateway < length peers
    within gateway below = omega (arith, below, length_moved move peers)

    by : (gateway number : ℕ) → gateway < length (peers_moved move peers) →
        (has_in gateway number packets ≡ true) ⊎ ((place move ≡ gateway) × (next_number peers (place move) ≡ number)) → SoonAt (peers_moved move peers) after gateway number
    by gateway number below (inl has) =
        soon_moved peers move packets after gateway number one (below_has gateway number peers packets kept has) (is.copies gateway number (within gateway below) has)
    by gateway number below (inr new) =
        inl (subst (λ (g : ℕ). next_number (peers_moved move peers) g + lones g after ≤ number + 65) new.0
        (omega (
          arith,
          next_moved one,
          new.1,
          weights_few 0 1 (place move) after (omega arith) (omega arith),
          opens_moved one,
          is.few,
        )))

all_soon : Closed AllSoon
all_soon = record {
  anew = search (arith, anew_next, has);
  alike = search arith;
  pushed = λ peers packets new unrefused is. soon_same peers peers packets (packets ++ new_packet new ∷ []) refl
      (λ gateway. refl)
      (omega (arith, total_pushed (λ copies. 1) packets new, opens_are packets, unrefused.few))
      (λ gateway. omega (arith, total_pushed (left_at 0 gateway) packets new))
      (λ gateway number. has_pushed gateway number packets new) is;
  moved = all_soon_moved;
  heard = λ peers packets port heard cause numbers is.
      soon_same peers peers packets (map (while_open (packet_hearing port heard cause numbers)) packets) refl (λ gateway. refl)
      (omega (arith, opens_heard port heard cause numbers packets, is.few))
      (λ gateway. weights_heard 0 port heard cause numbers gateway packets)
      (λ gateway number. has_heard gateway number port heard cause numbers packets) is;
}

-- ---- of a copy that is there

pub comes_soon : (setup : NodeSetup) (calls : List NodeCall) (gateway number : ℕ) → 1 ≤ length setup.gateways → gateway < length setup.gateways →
    IsCopyOrBase (reached setup calls) gateway number → ComesSoon (reached setup calls) gateway number
comes_soon setup calls gateway number some within which = told (soon which)
  where
    peers : List Peer
    peers = (reached setup calls).gateways

    packets : List PacketState
    packets = (reached setup calls).packets

    soon : IsCopyOrBase (reached setup calls) gateway number → SoonAt peers packets gateway number
    soon which =
        let stands = all_stand setup some calls in
        let size : gateway < length peers = omega (arith, within, stands.size) in
        let law : AllSoon peers packets = all_closed setup some AllSoon all_soon calls in
        elim which [
          | inl base ↦ subst (λ (n : ℕ). SoonAt peers packets gateway n) (sym base) (law.base gateway size)
          | inr of ↦ law.copies gateway number size (has gateway number packets of)
        ]

    told : SoonAt peers packets gateway number → ComesSoon (reached setup calls) gateway number
    told (inl bound) = inl (omega (arith, bound))
    told (inr at) = inr (at.0, found gateway at.0 packets at.1, at.2, at.3)

-- all numbers, behind the last one of a packet that is done
pub done_near : (setup : NodeSetup) (calls : List NodeCall) (gateway number : ℕ) → 1 ≤ length setup.gateways → gateway < length setup.gateways →
    IsCopyOrBase (reached setup calls) gateway number →
    ((later : ℕ) → HasCopy (reached setup calls).packets gateway later → number < later → HasOpenCopy (reached setup calls).packets gateway later) →
    next_number (reached setup calls).gateways gateway ≤ number + 16576
done_near setup calls gateway number some within which all_open = by (comes_soon setup calls gateway number some within which)
  where
    by : ComesSoon (reached setup calls) gateway number → next_number (reached setup calls).gateways gateway ≤ number + 16576
    by (inl bound) = omega (arith, bound)
    by (inr at) = omega (arith, at.3, open_near setup calls gateway at.0 some within (all_open at.0 at.1 at.2))
