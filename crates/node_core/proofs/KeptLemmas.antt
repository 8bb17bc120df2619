-- What each move and each response leaves of a packet's copies: they are at as many gateways, the first alone is plain,
-- their numbers are below the next ones, and what was sent for them rests on the choice.
use Rattle.std.proofs.Common.{◌≡◌, ◌≢◌, ℕ, suc, ◌<◌, ◌≤◌, ◌==◌, false, List, [], ◌∷◌, ◌++◌, length, map, None, refl, sym, ◌∙◌, arith}
use Rattle.node_core.proofs.Names.{All-map, All-nil, All-push, All-weaker, AllByRecursion, Command, command_hearing, commanded, copy_hearing, eqb-false, eqb_tells, IfSome, IfSome_then, nat_tests, new_copy, next_number, PacketCopy, PacketState, Peer, Port}
use Rattle.node_core.specs.Roles.{IsPlainFirst}
use Rattle.node_core.proofs.CaseLemmas.{StaysPut, commanded_puts, either_hears, hearing_puts, if_mapped, if_or, each_map, each_push, each_weaker, find_none}
use Rattle.node_core.proofs.ChosenLemmas.{AreApart, Chosen, Waits, chosen_map, hearing_keeps, chosen_moved, waits_hearing, waits_moved}
use Rattle.node_core.proofs.Moves.{Copying, Commanding, IsMove, Move, Moves, One, are_none, beyond, command_with, copies_moved, find_at, here, length_moved, next_elsewhere, next_is, one_is, onward, peers_moved, place, still}

-- ---- the gateways go on

pub record GoOn (peers later : List Peer) : Type 0 where
  pub size : length later ≡ length peers
  pub numbers : (gateway : ℕ) → next_number peers gateway ≤ next_number later gateway

pub goes_on : {peers : List Peer} {copies : List PacketCopy} {move : Move} → IsMove peers copies move →
    GoOn peers (peers_moved move peers)
goes_on {peers} {copies} {move} is = search (arith, length_moved, peers_moved, place, next_is, next_elsewhere)

-- ---- what holds of a packet's copies

abbrev pub IsBetween : ℕ → ℕ → Command → Type 0
IsBetween number next command = (number < command.number) × (command.number < next)

pub record IsBelow (peers : List Peer) (copy : PacketCopy) : Type 0 where
  pub number : copy.number < next_number peers copy.gateway
  pub command : IfSome copy.command (IsBetween copy.number (next_number peers copy.gateway))

abbrev pub IsPlaced : List Peer → PacketCopy → Type 0
IsPlaced peers copy = copy.gateway < length peers

pub record IsKept (peers : List Peer) (copies : List PacketCopy) : Type 0 where
  pub apart : AreApart copies
  pub places : AllByRecursion (IsPlaced peers) copies
  pub plain : IsPlainFirst copies
  pub below : AllByRecursion (IsBelow peers) copies
  pub chosen : Chosen copies
  pub waits : Waits copies

abbrev pub AllKept : List Peer → List PacketState → Type 0
AllKept peers packets = AllByRecursion (λ (packet : PacketState). IsKept peers packet.copies) packets

pub kept_on : (peers later : List Peer) (copies : List PacketCopy) → GoOn peers later → IsKept peers copies → IsKept later copies
kept_on peers later copies on kept = search (arith, each_weaker, on.numbers, IfSome_then)

pub all_kept_on : (peers later : List Peer) (packets : List PacketState) → GoOn peers later → AllKept peers packets → AllKept later packets
all_kept_on peers later packets on kept = search (arith, each_weaker)

-- ---- copies that stay where they are

module _ (f : PacketCopy → PacketCopy) (puts : (copy : PacketCopy) → StaysPut copy (f copy)) where
  apart_map : (copies : List PacketCopy) → AreApart copies → AreApart (map f copies)
  apart_map [] apart = tt
  apart_map (copy ∷ copies) apart = (
    each_map (λ (other : PacketCopy). copy.gateway ≢ other.gateway) (λ (other : PacketCopy). (f copy).gateway ≢ other.gateway) f
        (λ other differs same. differs (sym (puts copy).gateway ∙ same ∙ (puts other).gateway)) copies apart.0,
    apart_map copies apart.1,
  )

  plain_map : (copies : List PacketCopy) → IsPlainFirst copies → IsPlainFirst (map f copies)
  plain_map [] plain = tt
  plain_map (copy ∷ copies) plain = (
    (puts copy).is_plain ∙ plain.0,
    All-map (λ (c : PacketCopy). c.is_plain ≡ false) f copies
        (All-weaker (λ (c : PacketCopy). c.is_plain ≡ false) (λ (c : PacketCopy). (f c).is_plain ≡ false)
        (λ c is. (puts c).is_plain ∙ is) copies plain.1),
  )

  kept_map : (peers later : List Peer) → GoOn peers later →
      ((copy : PacketCopy) → IsBelow peers copy → IsBelow later (f copy)) → (copies : List PacketCopy) →
      IsKept peers copies → Chosen (map f copies) → Waits (map f copies) → IsKept later (map f copies)
  kept_map peers later on below copies kept chosen waits = record {
    apart = apart_map copies kept.apart;
    places = each_map (IsPlaced peers) (IsPlaced later) f
        (λ copy is. omega (arith, (puts copy).gateway, is, on.size)) copies kept.places;
    plain = plain_map copies kept.plain;
    below = each_map (IsBelow peers) (IsBelow later) f below copies kept.below;
    chosen = chosen;
    waits = waits;
  }

-- ---- one more copy

absent : (gateway : ℕ) (copies : List PacketCopy) → find_at gateway copies ≡ None → AllByRecursion (λ (copy : PacketCopy). copy.gateway ≢ gateway) copies
absent gateway copies none =
    each_weaker (λ (c : PacketCopy). (c.gateway == gateway) ≡ false) (λ (c : PacketCopy). c.gateway ≢ gateway)
    (λ c. eqb-false c.gateway gateway) copies (find_none (λ (c : PacketCopy). c.gateway == gateway) copies none)

apart_push : (copies : List PacketCopy) (copy : PacketCopy) → AreApart copies → AllByRecursion (λ (other : PacketCopy). other.gateway ≢ copy.gateway) copies →
    AreApart (copies ++ copy ∷ [])
apart_push [] copy apart differ = (tt, tt)
apart_push (first ∷ copies) copy apart differ = search (arith, each_push, (apart_push copies copy apart.1 differ.1))

plain_push : (copies : List PacketCopy) (gateway number : ℕ) → IsPlainFirst copies → IsPlainFirst (copies ++ new_copy gateway number (are_none copies) ∷ [])
plain_push [] gateway number plain = (refl, All-nil (λ (c : PacketCopy). c.is_plain ≡ false))
plain_push (first ∷ copies) gateway number plain =
    (plain.0, All-push (λ (c : PacketCopy). c.is_plain ≡ false) copies (new_copy gateway number false) plain.1 refl)

-- ---- a release or a cancel: the number of the command is the next one at the gateway

commanded_below : (gateway : ℕ) (command : Command) (peers later : List Peer) → GoOn peers later →
    next_number later gateway ≡ suc (next_number peers gateway) → command.number ≡ next_number peers gateway → (copy : PacketCopy) → IsBelow peers copy →
    IsBelow later (commanded gateway command copy)
commanded_below gateway command peers later on next is_next copy below =
    search (arith, nat_tests, on.numbers, IfSome_then, eqb_tells, if_or)

-- ---- a move

pub kept_moved : (move : Move) (peers : List Peer) (copies : List PacketCopy) → IsMove peers copies move → IsKept peers copies →
    IsKept (peers_moved move peers) (copies_moved peers move copies)
kept_moved (Copying gateway) peers copies is kept =
    let later : List Peer = peers_moved (Copying gateway) peers in
    let carried : IsKept later copies = kept_on peers later copies (goes_on is) kept in
    record {
      apart = apart_push copies _ kept.apart (absent gateway copies is.fits);
      places = each_push (IsPlaced later) copies _ carried.places (omega (arith, (goes_on is).size, is.within));
      plain = plain_push copies gateway (next_number peers gateway) kept.plain;
      below = each_push (IsBelow later) copies _ carried.below (record { number = omega (arith, next_is is); command = tt });
      chosen = chosen_moved (Copying gateway) peers copies kept.apart is kept.chosen;
      waits = waits_moved (Copying gateway) peers copies is kept.waits;
    }
kept_moved (Commanding gateway order) peers copies is kept =
    let command : Command = command_with order (next_number peers gateway) in
    kept_map (commanded gateway command) (commanded_puts gateway command) peers _ (goes_on is)
    (commanded_below gateway command peers _ (goes_on is) (next_is is) refl) copies kept
    (chosen_moved (Commanding gateway order) peers copies kept.apart is kept.chosen)
    (waits_moved (Commanding gateway order) peers copies is kept.waits)

pub all_kept_moved : {peers : List Peer} {move : Move} {packets after : List PacketState} → One peers move packets after → AllKept peers packets →
    AllKept (peers_moved move peers) after
all_kept_moved {peers} {move} (here {packet} {packets} open_yet is) kept =
    search (arith, kept_moved, all_kept_on, peers_moved, goes_on)
all_kept_moved {peers} {move} (beyond {packet} one) kept =
    (kept_on peers (peers_moved move peers) packet.copies (goes_on (one_is one).1) kept.0, all_kept_moved one kept.1)

pub all_kept_after : {peers after_peers : List Peer} {packets after : List PacketState} → Moves peers packets after_peers after → AllKept peers packets →
    AllKept after_peers after
all_kept_after still kept = kept
all_kept_after (onward move one rest) kept = all_kept_after rest (all_kept_moved one kept)

-- ---- a response

pub kept_hearing : (peers : List Peer) (port : Port) (gateway cause : ℕ) (numbers : List ℕ) (copies : List PacketCopy) → IsKept peers copies →
    IsKept peers (map (copy_hearing port gateway cause numbers) copies)
kept_hearing peers port gateway cause numbers copies kept =
    kept_map (copy_hearing port gateway cause numbers) (hearing_puts port gateway cause numbers)
    peers peers (record { size = refl; numbers = λ place. omega arith })
    (λ copy below. either_hears (IsBelow peers) port gateway cause numbers copy (record {
      number = below.number;
      command = if_mapped (IsBetween copy.number (next_number peers copy.gateway)) (command_hearing cause numbers) copy.command below.command;
    }) below) copies kept
    (chosen_map (copy_hearing port gateway cause numbers) (hearing_keeps port gateway cause numbers) copies kept.chosen)
    (waits_hearing port gateway cause numbers copies kept.waits)
