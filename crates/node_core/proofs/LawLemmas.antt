-- What stands of each packet, number and request of every node.
use Rattle.std.proofs.Common.{◌≡◌, ◌≢◌, ◌≤◌, true, List, [], ◌∷◌, length, refl, arith, ℕ, min, ◌==◌, Bool, if◌then◌else◌, ◌++◌, map, Option, Some, sym, ap, ◌∙◌, append_assoc, inl, inr, subst}
use Rattle.node_core.proofs.Names.{All, All-from_recursion, all_numbers_of, all_unsettled_at, AllByRecursion, AllPairs, Command, cond_both, due, eqb_tells, filter, flat_map, HasCopyOf, IfSome, IfSome_then, is_chosen, IsChoice, IsSent, least, log_of, LogEntry, logged, nat_tests, next_number, NodeCall, NodeSetup, numbers_at, option_to_list, PacketCopy, packets_of, PacketState, Peer, peers_of, reached, ReleasesChoice, Sending, Tick, tick_entries, unsettled_at}
use Rattle.std.proofs.lemmas.List.Kept.{AllPairs-cons}
use Rattle.node_core.specs.Roles.{IsSingle, DrawsBetween}
use Rattle.node_core.specs.declared.sending.Sending.TheVariants as send
use Rattle.node_core.proofs.ChosenLemmas.{AreApart, Chosen, found_chosen}
use Rattle.node_core.proofs.KeptLemmas.{IsBelow, IsKept, AllKept, IsBetween}
use Rattle.node_core.proofs.CaseLemmas.{each_both, each_weaker, each_contains}
use Rattle.node_core.proofs.ReachedLemmas.{all_stand, next_tick}
use Rattle.node_core.proofs.TickMoves.{DrawsNext}

-- ---- of each packet: it has one copy at a gateway, its releases and cancels have greater numbers than their copies,
-- and a copy for which a release was sent is its choice

apart_pairs : (copies : List PacketCopy) → AreApart copies → AllPairs (λ (one other : PacketCopy). one.gateway ≢ other.gateway) copies
apart_pairs [] apart = λ i j d before below. absurd (omega (arith, below))
apart_pairs (copy ∷ copies) apart = search (arith, AllPairs-cons, All-from_recursion, (apart_pairs copies apart.1))

single : (peers : List Peer) (packet : PacketState) → IsKept peers packet.copies → IsSingle peers packet
single peers packet kept = search (arith, apart_pairs, All-from_recursion, each_both, IfSome_then)

released_is_choice : (peers : List Peer) (packet : PacketState) → IsKept peers packet.copies → ReleasesChoice packet
released_is_choice peers packet kept =
    All-from_recursion (λ (copy : PacketCopy). is_chosen copy ≡ true → IsChoice packet.copies copy.gateway copy.number) packet.copies
    (by packet.copies refl kept.chosen)
  where
    by : (copies : List PacketCopy) → packet.copies ≡ copies → Chosen copies →
        AllByRecursion (λ (copy : PacketCopy). is_chosen copy ≡ true → IsChoice packet.copies copy.gateway copy.number) copies
    by [] whole is = tt
    by (plain ∷ duplicates) whole is = search (arith, each_weaker, found_chosen)

module _ (P : List Peer → PacketState → Type 0)
    (of_kept : (peers : List Peer) (packet : PacketState) → IsKept peers packet.copies → P peers packet)
    (setup : NodeSetup) (calls : List NodeCall) (some : 1 ≤ length setup.gateways) where
  each_packet : All (P (reached setup calls).gateways) (reached setup calls).packets
  each_packet =
      let peers : List Peer = (reached setup calls).gateways in
      All-from_recursion (P peers) (reached setup calls).packets
      (each_weaker (λ (p : PacketState). IsKept peers p.copies) (P peers) (of_kept peers) (reached setup calls).packets
      (all_stand setup some calls).kept)

pub all_single : (setup : NodeSetup) (calls : List NodeCall) → 1 ≤ length setup.gateways →
    All (IsSingle (reached setup calls).gateways) (reached setup calls).packets
all_single = each_packet IsSingle single

pub all_released_chosen : (setup : NodeSetup) (calls : List NodeCall) → 1 ≤ length setup.gateways → All ReleasesChoice (reached setup calls).packets
all_released_chosen = each_packet (λ peers. ReleasesChoice) released_is_choice

-- ---- the least number of the open packets' copies at a gateway is the least of all their numbers

-- the same least number, whichever one more is
abbrev SameLeast : List ℕ → List ℕ → Type 0
SameLeast ones others = (number : ℕ) → least number ones ≡ least number others

-- the number of a command is above its copy's
command_adds : (copy next number : ℕ) (command : Option Command) (rest : List ℕ) →
    IfSome command (IsBetween copy next) →
    least (min number copy) rest ≡ least (min number copy) (map (λ (c : Command). c.number) (option_to_list command) ++ rest)
command_adds copy next number command rest below = grind arith

copies_least : (peers : List Peer) (gateway : ℕ) (copies : List PacketCopy) (ones others : List ℕ) → AllByRecursion (IsBelow peers) copies → SameLeast ones others →
    SameLeast (numbers_at gateway copies ++ ones) (flat_map all_numbers_of (filter (λ copy. copy.gateway == gateway) copies) ++ others)
copies_least peers gateway [] ones others below same = same
copies_least peers gateway (copy ∷ copies) ones others below same =
    λ number. elim (eqb_tells copy.gateway gateway) [
      | inl is ↦
          let numbers : List ℕ = map (λ (c : Command). c.number) (option_to_list copy.command) in
          let behind : List ℕ = flat_map all_numbers_of (filter (λ c. c.gateway == gateway) copies) in
          rw is.0 (
          copies_least peers gateway copies ones others below.1 same (min number copy.number)
          ∙ command_adds copy.number (next_number peers copy.gateway) number copy.command (behind ++ others) below.0.command
          ∙ ap (least (min number copy.number)) (sym (append_assoc numbers behind others)))
      | inr isnt ↦ rw isnt.0 (copies_least peers gateway copies ones others below.1 same number)
    ]

packets_least : (peers : List Peer) (gateway : ℕ) (packets : List PacketState) → AllKept peers packets →
    SameLeast (flat_map (unsettled_at gateway) packets) (flat_map (all_unsettled_at gateway) packets)
packets_least peers gateway [] kept number = refl
packets_least peers gateway (packet ∷ packets) kept number =
    grind (arith, nat_tests, (packets_least peers gateway packets kept.1), copies_least)

pub least_of_copies : (setup : NodeSetup) (calls : List NodeCall) (gateway number : ℕ) → 1 ≤ length setup.gateways →
    least number (flat_map (unsettled_at gateway) (reached setup calls).packets) ≡ least number (flat_map (all_unsettled_at gateway) (reached setup calls).packets)
least_of_copies setup calls gateway number some =
    packets_least (reached setup calls).gateways gateway (reached setup calls).packets
    (all_stand setup some calls).kept number

-- ---- each request of a tick is of a copy that the packets have after it, and what it draws lies between the next
-- numbers

pub all_requests_sent : (setup : NodeSetup) (calls : List NodeCall) → 1 ≤ length setup.gateways → (reached setup calls).is_running ≡ true →
    All (IsSent (reached setup (Tick ∷ calls)).packets) (due (reached setup calls))
all_requests_sent setup calls some running =
    All-from_recursion (IsSent (reached setup (Tick ∷ calls)).packets) (due (reached setup calls))
    (subst (λ (b : Bool). AllByRecursion (IsSent (packets_of
    (logged (if b then tick_entries (reached setup calls) else []) (log_of setup calls)))) (due (reached setup calls)))
    (sym running) (next_tick setup some calls).sent)

-- the copy that is sent has a number below the next one, and so has its release or cancel
module _ (peers : List Peer) (packets : List PacketState) (kept : AllKept peers packets) where
  of_below : {packet gateway number : ℕ} → (of : HasCopyOf packets packet gateway number) → IsBelow peers of.holds.copy
  of_below of =
      let its = each_contains (λ (p : PacketState). IsKept peers p.copies) packets of.state kept of.kept in
      each_contains (IsBelow peers) of.state.copies of.holds.copy its.below of.holds.among

  between : (before : List Peer) (sending : Sending) → DrawsNext before sending → IsSent packets sending → DrawsBetween before peers sending
  between before (send.Data packet gateway number is_plain is_new) draws sent =
      let below : IsBelow peers sent.0.holds.copy = of_below sent.0 in
      λ new. (draws new, omega (arith, below.number, sent.0.holds.number_is, ap (next_number peers) sent.0.holds.gateway_is))
  between before (send.Command packet gateway named number order is_new) draws sent =
      let copy : PacketCopy = sent.0.holds.copy in
      let its : IfSome (Some sent.1.command) (IsBetween copy.number (next_number peers copy.gateway)) =
      subst (λ (o : Option Command). IfSome o (IsBetween copy.number (next_number peers copy.gateway))) sent.1.sent
      (of_below sent.0).command in
      λ new. (draws new, omega (arith, its.1, sent.1.number_is, ap (next_number peers) sent.0.holds.gateway_is))
  between before _ draws sent = tt

pub all_draw_between : (setup : NodeSetup) (calls : List NodeCall) → 1 ≤ length setup.gateways → (reached setup calls).is_running ≡ true →
    All (DrawsBetween (reached setup calls).gateways (reached setup (Tick ∷ calls)).gateways) (due (reached setup calls))
all_draw_between setup calls some running =
    let now : List Peer = (reached setup calls).gateways in
    let draws : All (DrawsNext now) (due (reached setup calls)) =
    All-from_recursion (DrawsNext now) (due (reached setup calls)) (next_tick setup some calls).draws in
    λ i default below. between (reached setup (Tick ∷ calls)).gateways (reached setup (Tick ∷ calls)).packets
    (all_stand setup some (Tick ∷ calls)).kept now _ (draws i default below)
    (all_requests_sent setup calls some running i default below)

pub next_goes_on : (setup : NodeSetup) (calls : List NodeCall) (gateway : ℕ) → 1 ≤ length setup.gateways →
    next_number (reached setup calls).gateways gateway ≤ next_number (reached setup (Tick ∷ calls)).gateways gateway
next_goes_on setup calls gateway some =
    cond_both (reached setup calls).is_running (tick_entries (reached setup calls)) []
    (λ (entries : List LogEntry). next_number (reached setup calls).gateways gateway
    ≤ next_number (peers_of setup.gateways (logged entries (log_of setup calls))) gateway)
    (λ _. (next_tick setup some calls).on.numbers gateway) (λ _. omega arith)
