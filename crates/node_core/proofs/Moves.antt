-- The moves of a tick, one number each: a packet gets one more copy, or a release or a cancel for one of its copies.
use Rattle.std.proofs.Common.{◌≡◌, ℕ, zero, suc, min, ◌<◌, ◌==◌, Bool, true, false, List, [], ◌∷◌, ◌++◌, length, map, Option, Some, None, refl, sym, ap, ◌∙◌, arith, ◌≢◌}
use Rattle.node_core.proofs.Names.{at_place, Cancel, chosen, Command, commanded, eqb_tells, Filed, find, Held, is_chosen, is_done, length-map, list_any, nat_tests, ne_eqb, new_copy, next_number, number_drawn, Order, PacketCopy, PacketState, Peer, Release, Sealed, Verdict}

pub data Move : Type 0 where
  Copying : (gateway : ℕ) → Move
  Commanding : (gateway : ℕ) (order : Order) → Move

abbrev pub place : Move → ℕ
place (Copying gateway) = gateway
place (Commanding gateway order) = gateway

-- the copy at a gateway
abbrev pub find_at : ℕ → List PacketCopy → Option PacketCopy
find_at gateway copies = find (λ (copy : PacketCopy). copy.gateway == gateway) copies

abbrev pub are_none : List PacketCopy → Bool
are_none [] = true
are_none (copy ∷ copies) = false

abbrev pub command_with : Order → ℕ → Command
command_with order number = record { order = order; number = number; is_answered = false }

-- the copies after a move, and the gateways after the number was drawn
abbrev pub copies_moved : List Peer → Move → List PacketCopy → List PacketCopy
copies_moved peers (Copying gateway) copies = copies ++ new_copy gateway (next_number peers gateway) (are_none copies) ∷ []
copies_moved peers (Commanding gateway order) copies = map (commanded gateway (command_with order (next_number peers gateway))) copies

abbrev pub peers_moved : Move → List Peer → List Peer
peers_moved move peers = number_drawn (place move) (next_number peers (place move)) peers

-- the packet waits for its first copy, which isn't known to be filed
abbrev pub is_waiting : Verdict → Bool
is_waiting Filed = false
is_waiting Held = false
is_waiting _ = true

abbrev pub waiting : List PacketCopy → Bool
waiting [] = true
waiting (plain ∷ duplicates) = is_waiting plain.verdict

-- while it waits, a duplicate is cancelled beside one that is released
abbrev pub MayCancel : List PacketCopy → Type 0
MayCancel copies = waiting copies ≡ true → list_any is_chosen copies ≡ true

abbrev pub IsRight : Order → List PacketCopy → PacketCopy → Type 0
IsRight Release [] copy = ⊥
IsRight Release (plain ∷ duplicates) copy = (plain.verdict ≡ Sealed) × (chosen duplicates ≡ Some copy)
IsRight Cancel copies copy = MayCancel copies

-- there is one copy at the gateway, for which nothing was sent yet, and a release is of the choice
pub record CommandsOne (copies : List PacketCopy) (gateway : ℕ) (order : Order) : Type 0 where
  pub copy : PacketCopy
  pub found : find_at gateway copies ≡ Some copy
  pub fresh : copy.command ≡ None
  pub right : IsRight order copies copy

abbrev pub Fits : List PacketCopy → Move → Type 0
Fits copies (Copying gateway) = find_at gateway copies ≡ None
Fits copies (Commanding gateway order) = CommandsOne copies gateway order

pub record IsMove (peers : List Peer) (copies : List PacketCopy) (move : Move) : Type 0 where
  pub within : place move < length peers
  pub room : next_number peers (place move) < 9223372036854775808
  pub fits : Fits copies move

-- one packet, which is open, makes the move
pub data One (peers : List Peer) (move : Move) : List PacketState → List PacketState → Type 0 where
  here : {packet : PacketState} {packets : List PacketState} → is_done packet.copies ≡ false → IsMove peers packet.copies move →
      One peers move (packet ∷ packets) (record packet { copies = copies_moved peers move packet.copies } ∷ packets)
  beyond : {packet : PacketState} {packets after : List PacketState} → One peers move packets after → One peers move (packet ∷ packets) (packet ∷ after)

-- some moves in their order
pub data Moves : List Peer → List PacketState → List Peer → List PacketState → Type 0 where
  still : {peers : List Peer} {packets : List PacketState} → Moves peers packets peers packets
  onward : {peers after_peers : List Peer} {packets between after : List PacketState} (move : Move) → One peers move packets between →
      Moves (peers_moved move peers) between after_peers after → Moves peers packets after_peers after

-- ---- one of the gateways is changed

abbrev changed : ℕ → (Peer → Peer) → List Peer → List Peer
changed i f [] = []
changed zero f (peer ∷ peers) = f peer ∷ peers
changed (suc i) f (peer ∷ peers) = peer ∷ changed i f peers

placed : (i : ℕ) (f : Peer → Peer) (peers : List Peer) → at_place i f peers ≡ changed i f peers
placed i f [] = refl
placed zero f (peer ∷ peers) = refl
placed (suc i) f (peer ∷ peers) = search (arith, (placed i f peers))

-- what the change leaves of each stays of all
pub place_keeps : {B : Type 0} (g : Peer → B) (f : Peer → Peer) → ((peer : Peer) → g (f peer) ≡ g peer) →
    (i : ℕ) (peers : List Peer) →
    map g (at_place i f peers) ≡ map g peers
place_keeps {B} g f same i peers = ap (λ (ps : List Peer). map g ps) (placed i f peers) ∙ by i peers
  where
    by : (i : ℕ) (peers : List Peer) → map g (changed i f peers) ≡ map g peers
    by i [] = refl
    by zero (peer ∷ peers) = ap (λ (b : B). b ∷ map g peers) (same peer)
    by (suc i) (peer ∷ peers) = ap (λ (bs : List B). g peer ∷ bs) (by i peers)

pub length_placed : (i : ℕ) (f : Peer → Peer) (peers : List Peer) → length (at_place i f peers) ≡ length peers
length_placed i f peers =
    let one : Peer → ℕ = λ peer. 1 in
    sym (length-map (at_place i f peers) one)
    ∙ ap (λ (ns : List ℕ). length ns) (place_keeps one f (λ peer. refl) i peers) ∙ length-map peers one

-- another's number stays, and all do where the change leaves them
pub next_placed : (i other : ℕ) (f : Peer → Peer) → (i ≡ other → (peer : Peer) → (f peer).next ≡ peer.next) →
    (peers : List Peer) →
    next_number (at_place i f peers) other ≡ next_number peers other
next_placed i other f same peers = ap (λ (ps : List Peer). next_number ps other) (placed i f peers)
    ∙ by i other same peers
  where
    by : (i other : ℕ) → (i ≡ other → (peer : Peer) → (f peer).next ≡ peer.next) → (peers : List Peer) →
        next_number (changed i f peers) other ≡ next_number peers other
    by i other same [] = refl
    by zero zero same (peer ∷ peers) = same refl peer
    by zero (suc other) same (peer ∷ peers) = refl
    by (suc i) zero same (peer ∷ peers) = refl
    by (suc i) (suc other) same (peer ∷ peers) = by i other (λ e. same (ap suc e)) peers

next_set : (i n : ℕ) (f : Peer → Peer) → ((peer : Peer) → (f peer).next ≡ n) → (peers : List Peer) → i < length peers →
    next_number (at_place i f peers) i ≡ n
next_set i n f is peers below = ap (λ (ps : List Peer). next_number ps i) (placed i f peers) ∙ by i peers below
  where
    by : (i : ℕ) (peers : List Peer) → i < length peers → next_number (changed i f peers) i ≡ n
    by i [] below = absurd (omega (arith, below))
    by zero (peer ∷ peers) below = is peer
    by (suc i) (peer ∷ peers) below = by i peers (omega (arith, below))

-- the next number of the one that a move draws for
abbrev raised : ℕ → Peer → Peer
raised number peer = record peer { next = min (suc number) 9223372036854775808 }

pub length_moved : (move : Move) (peers : List Peer) → length (peers_moved move peers) ≡ length peers
length_moved move peers = length_placed (place move) (raised (next_number peers (place move))) peers

pub next_elsewhere : (move : Move) (gateway : ℕ) (peers : List Peer) → place move ≢ gateway →
    next_number (peers_moved move peers) gateway ≡ next_number peers gateway
next_elsewhere move gateway peers apart = search (arith, next_placed)

pub next_is : {peers : List Peer} {copies : List PacketCopy} {move : Move} → IsMove peers copies move →
    next_number (peers_moved move peers) (place move) ≡ suc (next_number peers (place move))
next_is {peers} {copies} {move} is =
    let next : ℕ = next_number peers (place move) in
    next_set (place move) (suc next) (raised next) (λ peer. omega (arith, is.room)) peers is.within

pub one_is : {peers : List Peer} {move : Move} {packets after : List PacketState} → One peers move packets after →
    (copies : List PacketCopy) × IsMove peers copies move
one_is (here {packet} open_yet is) = (packet.copies, is)
one_is (beyond one) = one_is one

pub next_moved : {peers : List Peer} {move : Move} {packets after : List PacketState} → One peers move packets after →
    next_number (peers_moved move peers) (place move) ≡ suc (next_number peers (place move))
next_moved one = next_is (one_is one).1

-- ---- the copy at a gateway

pub find_commanded : (gateway other : ℕ) (command : Command) (copies : List PacketCopy) → gateway ≢ other →
    find_at other (map (commanded gateway command) copies) ≡ find_at other copies
find_commanded gateway other command [] apart = refl
find_commanded gateway other command (copy ∷ copies) apart =
    search (arith, nat_tests, (find_commanded gateway other command copies apart), eqb_tells, ne_eqb)
