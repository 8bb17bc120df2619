-- Each number that is drawn is that of one copy, or of one release or cancel.
use Rattle.std.proofs.Common.{◌≡◌, ◌≢◌, ℕ, suc, ◌+◌, ◌<◌, ◌≤◌, List, [], ◌∷◌, ◌++◌, length, map, Some, None, refl, arith, inl, inr}
use Rattle.node_core.proofs.Names.{All-from_recursion, Command, commanded, copy_hearing, eq-eqb, eqb_tells, map_fixed, nat_tests, ne_eqb, next_number, NodeCall, NodeSetup, packet_hearing, PacketCopy, PacketState, Peer, Port, reached, while_open}
use Rattle.node_core.specs.Roles.{HasOneRole, use_of, uses, uses_by_command, uses_by_copies, uses_by_copy}
use Rattle.node_core.proofs.CaseLemmas.{at_or_apart, either_hears, either_open, each_weaker}
use Rattle.node_core.proofs.ChosenLemmas.{AreApart}
use Rattle.node_core.proofs.KeptLemmas.{AllKept}
use Rattle.node_core.proofs.Moves.{IsMove, Move, One, are_none, beyond, command_with, copies_moved, find_at, here, length_moved, next_elsewhere, next_moved, peers_moved, place}
use Rattle.node_core.proofs.ReachedLemmas.{Closed, all_closed, all_stand, anew_next}
use Rattle.node_core.proofs.WeightLemmas.{new_packet}

-- ---- a packet

uses_push : (gateway number : ℕ) (copies : List PacketCopy) (copy : PacketCopy) →
    uses_by_copies gateway number (copies ++ copy ∷ []) ≡ uses_by_copies gateway number copies + uses_by_copy gateway number copy
uses_push gateway number [] copy = omega arith
uses_push gateway number (first ∷ copies) copy = omega (arith, uses_push gateway number copies copy)

here_uses : (gateway number : ℕ) (copy : PacketCopy) → copy.gateway ≡ gateway →
    uses_by_copy gateway number copy ≡ use_of number copy.number + uses_by_command number copy.command
here_uses gateway number copy same = rw (eq-eqb copy.gateway gateway same) refl

there_uses : (gateway number : ℕ) (copy : PacketCopy) → copy.gateway ≢ gateway → uses_by_copy gateway number copy ≡ 0
there_uses gateway number copy apart = rw (ne_eqb copy.gateway gateway apart) refl

command_uses : (gateway number : ℕ) (command : Command) (copies : List PacketCopy) (copy : PacketCopy) → AreApart copies → find_at gateway copies ≡ Some copy →
    copy.command ≡ None →
    uses_by_copies gateway number (map (commanded gateway command) copies) ≡ uses_by_copies gateway number copies + use_of number command.number
command_uses gateway number command [] copy apart found fresh = absurd (cc)
command_uses gateway number command (first ∷ copies) copy apart found fresh =
    elim (eqb_tells first.gateway gateway) [
      | inl is ↦ search (arith, nat_tests, map_fixed, All-from_recursion, each_weaker, ne_eqb)
      | inr isnt ↦ rw (isnt.0, isnt.0)
          (omega (arith, command_uses gateway number command copies copy apart.1 (rw isnt.0 at found) fresh))
    ]

command_uses_other : (gateway other number : ℕ) (command : Command) (copies : List PacketCopy) → gateway ≢ other →
    uses_by_copies other number (map (commanded gateway command) copies) ≡ uses_by_copies other number copies
command_uses_other gateway other number command [] apart = refl
command_uses_other gateway other number command (copy ∷ copies) apart =
    search (arith, nat_tests, eqb_tells, ne_eqb, (command_uses_other gateway other number command copies apart))

copies_uses : (move : Move) (peers : List Peer) (copies : List PacketCopy) (number : ℕ) → AreApart copies → IsMove peers copies move →
    uses_by_copies (place move) number (copies_moved peers move copies)
    ≡ uses_by_copies (place move) number copies + use_of number (next_number peers (place move))
copies_uses move peers copies number apart is =
    grind (arith, are_none, uses_push, here_uses, command_uses, command_with)

copies_uses_other : (move : Move) (peers : List Peer) (copies : List PacketCopy) (gateway number : ℕ) → place move ≢ gateway →
    uses_by_copies gateway number (copies_moved peers move copies) ≡ uses_by_copies gateway number copies
copies_uses_other move peers copies gateway number apart =
    grind (arith, are_none, uses_push, there_uses, command_uses_other, command_with)

-- ---- all packets

uses_moved : {peers : List Peer} {move : Move} {packets after : List PacketState} (number : ℕ) → AllKept peers packets → One peers move packets after →
    uses (place move) number after ≡ uses (place move) number packets + use_of number (next_number peers (place move))
uses_moved {peers} {move} number kept (here {packet} {packets} open_yet is) = search (arith, copies_uses)
uses_moved number kept (beyond one) = omega (arith, uses_moved number kept.1 one)

uses_moved_other : {peers : List Peer} {move : Move} {packets after : List PacketState} (gateway number : ℕ) → place move ≢ gateway → One peers move packets after →
    uses gateway number after ≡ uses gateway number packets
uses_moved_other {peers} {move} gateway number apart (here {packet} {packets} open_yet is) =
    omega (arith, copies_uses_other move peers packet.copies gateway number apart)
uses_moved_other gateway number apart (beyond one) = omega (arith, uses_moved_other gateway number apart one)

uses_pushed : (gateway number : ℕ) (packets : List PacketState) (new : ℕ) → uses gateway number (packets ++ new_packet new ∷ []) ≡ uses gateway number packets
uses_pushed gateway number [] new = omega arith
uses_pushed gateway number (packet ∷ packets) new = omega (arith, uses_pushed gateway number packets new)

module _ (port : Port) (heard_gateway cause : ℕ) (numbers : List ℕ) (gateway number : ℕ) where
  copy_heard : (copy : PacketCopy) → uses_by_copy gateway number (copy_hearing port heard_gateway cause numbers copy) ≡ uses_by_copy gateway number copy
  copy_heard copy = search (arith, either_hears)

  copies_heard : (copies : List PacketCopy) → uses_by_copies gateway number (map (copy_hearing port heard_gateway cause numbers) copies) ≡ uses_by_copies gateway number copies
  copies_heard [] = refl
  copies_heard (copy ∷ copies) = omega (arith, copy_heard copy, copies_heard copies)

  uses_heard : (packets : List PacketState) →
      uses gateway number (map (while_open (packet_hearing port heard_gateway cause numbers)) packets) ≡ uses gateway number packets
  uses_heard [] = refl
  uses_heard (packet ∷ packets) = omega (
    arith,
    uses_heard packets,
    either_open (λ (p : PacketState). uses_by_copies gateway number p.copies ≡ uses_by_copies gateway number
        packet.copies)
        (packet_hearing port heard_gateway cause numbers) packet refl (λ _. copies_heard packet.copies),
  )

-- ---- one use each

pub record OneUse (peers : List Peer) (packets : List PacketState) (gateway number : ℕ) : Type 0 where
  pub first : 65536 ≤ next_number peers gateway
  pub before : number < 65536 → uses gateway number packets ≡ 0
  pub drawn : 65536 ≤ number → number < next_number peers gateway → uses gateway number packets ≡ 1
  pub behind : next_number peers gateway ≤ number → uses gateway number packets ≡ 0

abbrev pub OneUses : List Peer → List PacketState → Type 0
OneUses peers packets = (gateway number : ℕ) → gateway < length peers → OneUse peers packets gateway number

-- what follows where the next number stays, and as many uses
same_uses : {peers other : List Peer} {packets after : List PacketState} {gateway number : ℕ} →
    OneUse peers packets gateway number →
    next_number other gateway ≡ next_number peers gateway → uses gateway number after ≡ uses gateway number packets
    → OneUse other after gateway number
same_uses was next many = omega (arith, was, next, many)

one_moved : (peers : List Peer) (move : Move) (packets after : List PacketState) → AllKept peers packets → One peers move packets after →
    OneUses peers packets → OneUses (peers_moved move peers) after
one_moved peers move packets after kept one is gateway number below =
    at_or_apart (λ (g : ℕ). OneUse peers packets g number → OneUse (peers_moved move peers) after g number) (place move)
    gateway there
    (λ apart was. same_uses was (next_elsewhere move gateway peers apart) (uses_moved_other gateway number apart one))
    (is gateway number (omega (arith, below, length_moved move peers)))
  where
    there : OneUse peers packets (place move) number → OneUse (peers_moved move peers) after (place move) number
    there was =
        let next : next_number (peers_moved move peers) (place move) ≡ suc (next_number peers (place move)) = next_moved one in
        let many : uses (place move) number after ≡ uses (place move) number packets + use_of number (next_number peers (place move)) = uses_moved number kept one in
        search (arith, nat_tests, eqb_tells, place)

pub one_use : Closed OneUses
one_use = record {
  anew = λ addresses gateway number below. omega (arith, anew_next addresses gateway);
  alike = λ peers other packets alike is gateway number below.
      same_uses (is gateway number (omega (arith, below, alike.size))) (alike.numbers gateway) refl;
  pushed = λ peers packets new unrefused is gateway number below.
      same_uses (is gateway number below) refl (uses_pushed gateway number packets new);
  moved = one_moved;
  heard = λ peers packets port heard_gateway cause numbers is gateway number below.
      same_uses (is gateway number below) refl (uses_heard port heard_gateway cause numbers gateway number packets);
}

pub one_role : (setup : NodeSetup) (calls : List NodeCall) (gateway number : ℕ) → 1 ≤ length setup.gateways → gateway < length setup.gateways →
    HasOneRole (reached setup calls) gateway number
one_role setup calls gateway number some within =
    let size = (all_stand setup some calls).size in
    search (arith, all_closed, one_use)
