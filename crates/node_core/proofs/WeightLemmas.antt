-- How many numbers of a gateway an open packet may still draw: 2 before it has a copy there, 1 with a copy, none with a command.
-- Each move draws one of them.
use Rattle.std.proofs.Common.{◌≡◌, ◌≢◌, ℕ, suc, ◌+◌, ◌*◌, ◌<◌, ◌≤◌, Bool, true, false, List, [], ◌∷◌, ◌++◌, length, map, Option, Some, None, refl, ap, ◌∙◌, arith}
use Rattle.node_core.proofs.Names.{Command, command_hearing, commanded, copy_hearing, eq-eqb, find-append, is_done, nat_tests, ne_eqb, next_number, Order, packet_hearing, PacketCopy, PacketState, Peer, Port, while_open, with_command}
use Rattle.std.specs.Option.{option_map}
use Rattle.node_core.proofs.CaseLemmas.{at_or_apart, commanded_puts, either_hears, either_open, hearing_puts, find_is, find_map}
use Rattle.node_core.proofs.Moves.{Commanding, CommandsOne, Copying, IsMove, Move, Moves, One, are_none, beyond, command_with, copies_moved, find_at, find_commanded, here, length_moved, next_elsewhere, next_moved, onward, peers_moved, place, still}

-- ---- a sum over the open packets

abbrev pub weight_unless : Bool → ℕ → ℕ
weight_unless true n = 0
weight_unless false n = n

abbrev pub total : (List PacketCopy → ℕ) → List PacketState → ℕ
total left [] = 0
total left (packet ∷ packets) = weight_unless (is_done packet.copies) (left packet.copies) + total left packets

-- how many they are
abbrev pub opens : List PacketState → ℕ
opens packets = total (λ (copies : List PacketCopy). 1) packets

abbrev pub new_packet : ℕ → PacketState
new_packet number = record { number = number; copies = [] }

module _ (left : List PacketCopy → ℕ) where
  -- an open packet that changes adds less as its copies do
  adds_less : (less : ℕ) (packet after : PacketState) → is_done packet.copies ≡ false →
      less + left after.copies ≤ left packet.copies →
      less + weight_unless (is_done after.copies) (left after.copies)
      ≤ weight_unless (is_done packet.copies) (left packet.copies)
  adds_less less packet after open_yet is = search arith

  pub total_moved : (less : ℕ) {peers : List Peer} {move : Move} {packets after : List PacketState} →
      ((copies : List PacketCopy) → IsMove peers copies move →
      less + left (copies_moved peers move copies) ≤ left copies) →
      One peers move packets after → less + total left after ≤ total left packets
  total_moved less {peers} {move} step (here {packet} {packets} open_yet is) = search (arith, adds_less, copies_moved)
  total_moved less step (beyond one) = omega (arith, total_moved less step one)

  pub total_pushed : (packets : List PacketState) (number : ℕ) →
      total left (packets ++ new_packet number ∷ []) ≡ total left packets + left []
  total_pushed [] number = omega arith
  total_pushed (packet ∷ packets) number = omega (arith, total_pushed packets number)

  pub total_heard : (port : Port) (heard cause : ℕ) (numbers : List ℕ) →
      ((copies : List PacketCopy) → left (map (copy_hearing port heard cause numbers) copies) ≤ left copies) →
      (packets : List PacketState) → total left (map (while_open (packet_hearing port heard cause numbers)) packets) ≤ total left packets
  total_heard port heard cause numbers step [] = omega arith
  total_heard port heard cause numbers step (packet ∷ packets) =
      search (arith, (total_heard port heard cause numbers step packets), either_open, adds_less)

  pub total_most : (most : ℕ) → ((copies : List PacketCopy) → left copies ≤ most) → (packets : List PacketState) →
      total left packets ≤ most * opens packets
  total_most most each [] = omega arith
  total_most most each (packet ∷ packets) = search (arith, (total_most most each packets))

pub opens_moved : {peers : List Peer} {move : Move} {packets after : List PacketState} → One peers move packets after → opens after ≤ opens packets
opens_moved one = omega (arith, total_moved (λ copies. 1) 0 (λ copies is. omega arith) one)

pub opens_heard : (port : Port) (heard cause : ℕ) (numbers : List ℕ) (packets : List PacketState) →
    opens (map (while_open (packet_hearing port heard cause numbers)) packets) ≤ opens packets
opens_heard port heard cause numbers = total_heard (λ copies. 1) port heard cause numbers (λ copies. omega arith)

-- ---- what is left by the copy at a gateway; so much without one

abbrev pub weight_with : Option Command → ℕ
weight_with None = 1
weight_with (Some command) = 0

abbrev pub weight_by : ℕ → Option PacketCopy → ℕ
weight_by none None = none
weight_by none (Some copy) = weight_with copy.command

abbrev pub left_at : ℕ → ℕ → List PacketCopy → ℕ
left_at none gateway copies = weight_by none (find_at gateway copies)

abbrev pub weights_by : ℕ → ℕ → List PacketState → ℕ
weights_by none gateway packets = total (left_at none gateway) packets

abbrev pub weights : ℕ → List PacketState → ℕ
weights gateway packets = weights_by 2 gateway packets

pub weight_fresh : (none gateway : ℕ) (copies : List PacketCopy) (copy : PacketCopy) →
    find_at gateway copies ≡ Some copy → copy.command ≡ None → left_at none gateway copies ≡ 1
weight_fresh none gateway copies copy found fresh = ap (weight_by none) found ∙ ap weight_with fresh

pub weights_few : (none most gateway : ℕ) (packets : List PacketState) → none ≤ most → 1 ≤ most →
    weights_by none gateway packets ≤ most * opens packets
weights_few none most gateway packets few one = grind (arith, nat_tests, total_most, find_at)

-- ---- what a move makes of the copy at a gateway

find_pushed : (gateway : ℕ) (copies : List PacketCopy) (copy : PacketCopy) → find_at gateway copies ≡ None →
    copy.gateway ≡ gateway →
    find_at gateway (copies ++ copy ∷ []) ≡ Some copy
find_pushed gateway copies copy none same = search (arith, nat_tests, find-append, eq-eqb)

find_commanded_there : (gateway : ℕ) (command : Command) (copies : List PacketCopy) (copy : PacketCopy) →
    find_at gateway copies ≡ Some copy →
    find_at gateway (map (commanded gateway command) copies) ≡ Some (with_command command copy)
find_commanded_there gateway command copies copy found = search (arith, find_map, commanded_puts, find_is)

find_moved_other : (move : Move) (peers : List Peer) (copies : List PacketCopy) (gateway : ℕ) → place move ≢ gateway →
    find_at gateway (copies_moved peers move copies) ≡ find_at gateway copies
find_moved_other move peers copies gateway apart =
    grind (arith, nat_tests, find-append, are_none, ne_eqb, find_at, find_commanded, command_with)

-- the number that is drawn is one of those that were left
pub weight_commanded : (none gateway : ℕ) (order : Order) (peers : List Peer) (copies : List PacketCopy) →
    CommandsOne copies gateway order →
    suc (left_at none gateway (copies_moved peers (Commanding gateway order) copies)) ≤ left_at none gateway copies
weight_commanded none gateway order peers copies one =
    search (arith, command_with, weight_fresh, find_commanded_there)

weight_moved : (move : Move) (peers : List Peer) (copies : List PacketCopy) → IsMove peers copies move →
    suc (left_at 2 (place move) (copies_moved peers move copies)) ≤ left_at 2 (place move) copies
weight_moved (Copying gateway) peers copies is = search (arith, find_pushed, are_none)
weight_moved (Commanding gateway order) peers copies is = weight_commanded 2 gateway order peers copies is.fits

pub weights_moved_other : (none : ℕ) {peers : List Peer} {move : Move} {packets after : List PacketState} (gateway : ℕ) →
    place move ≢ gateway → One peers move packets after →
    weights_by none gateway after ≤ weights_by none gateway packets
weights_moved_other none {peers} {move} gateway apart one = omega (
  arith,
  total_moved (left_at none gateway) 0
      (λ copies is. omega (arith, ap (weight_by none) (find_moved_other move peers copies gateway apart))) one,
)

-- a response leaves as many, or none
pub weights_heard : (none : ℕ) (port : Port) (heard cause : ℕ) (numbers : List ℕ) (gateway : ℕ)
    (packets : List PacketState) →
    weights_by none gateway (map (while_open (packet_hearing port heard cause numbers)) packets)
    ≤ weights_by none gateway packets
weights_heard none port heard cause numbers gateway packets =
    total_heard (left_at none gateway) port heard cause numbers
    (λ copies. omega (arith, ap (weight_by none) (found copies), by (find_at gateway copies))) packets
  where
    found : (copies : List PacketCopy) → find_at gateway (map (copy_hearing port heard cause numbers) copies)
        ≡ option_map (copy_hearing port heard cause numbers) (find_at gateway copies)
    found = search (arith, find_map, hearing_puts)

    own : (command : Option Command) → weight_with (option_map (command_hearing cause numbers) command) ≡ weight_with command
    own None = refl
    own (Some command) = refl

    by : (there : Option PacketCopy) →
        weight_by none (option_map (copy_hearing port heard cause numbers) there) ≡ weight_by none there
    by None = refl
    by (Some copy) = search (arith, either_hears, own)

-- ---- the next numbers and what is left of them stay below a bound

abbrev pub Bounded : ℕ → List Peer → List PacketState → Type 0
Bounded most peers packets = (gateway : ℕ) → gateway < length peers → next_number peers gateway + weights gateway packets ≤ most

pub less_left : {peers : List Peer} {move : Move} {packets after : List PacketState} → One peers move packets after → (gateway : ℕ) →
    next_number (peers_moved move peers) gateway + weights gateway after ≤ next_number peers gateway + weights gateway
    packets
less_left {peers} {move} {packets} {after} one gateway =
    at_or_apart (λ (g : ℕ). next_number (peers_moved move peers) g + weights g after
    ≤ next_number peers g + weights g packets) (place move) gateway
    (omega (
      arith,
      next_moved one,
      total_moved (left_at 2 (place move)) 1 (λ copies is. omega (arith, weight_moved move peers copies is)) one,
    ))
    (λ apart. omega (arith, next_elsewhere move gateway peers apart, weights_moved_other 2 gateway apart one))

pub bounded_after : {most : ℕ} {peers after_peers : List Peer} {packets after : List PacketState} → Moves peers packets after_peers after → Bounded most peers packets →
    Bounded most after_peers after
bounded_after still bounded = bounded
bounded_after {most} {peers} (onward move one rest) bounded = bounded_after rest (λ gateway below.
    omega (arith, less_left one gateway, bounded gateway (omega (arith, below, length_moved move peers))))
