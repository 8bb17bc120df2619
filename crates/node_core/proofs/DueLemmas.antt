-- What holds of each message that may be due for a packet holds of all that are due for it.
use Rattle.std.proofs.Common.{◌≡◌, ℕ, suc, Bool, true, List, [], ◌∷◌, Option, Some, None, refl, subst, arith}
use Rattle.node_core.proofs.Names.{again, all_drawn, AllByRecursion, appointing, befallen, Cancel, chosen, command_of, cond_both, Contains, copy_to, due, due_by_copies, due_by_verdict, due_for, due_for_all, due_now, flat_map, is_done, IsChoice, IsChoiceOf, moved, moved_at_tick, nat_tests, next_number, NodeValue, Order, PacketCopy, PacketState, PathsOfNode, Peer, probes_from, Release, releasing, Sealed, Sending, settling, settling_beside, settling_by, test_of, Verdict}
use Rattle.node_core.specs.declared.sending.Sending.TheVariants as send
use Rattle.node_core.proofs.CaseLemmas.{contains_more, each_append, each_contains, in_head}

-- a copy that is new or sent again, the test of one, a release or a cancel
pub record EachMay (P : Sending → Type 0) (number : ℕ) (peers : List Peer) (copies : List PacketCopy) : Type 0 where
  pub copied : (gateway : ℕ) (is_plain : Bool) → P (send.Data number gateway (next_number peers gateway) is_plain true)
  pub repeated : (copy : PacketCopy) → P (again number copy)
  pub tested : (copy : PacketCopy) → P (test_of number copy)
  pub commanded : (order : Order) (copy : PacketCopy) (drawn : ℕ) (is_new : Bool) →
      (is_new ≡ true → drawn ≡ next_number peers copy.gateway) →
      (order ≡ Release → IsChoice copies copy.gateway copy.number) →
      P (send.Command number copy.gateway copy.number drawn order is_new)

module _ (P : Sending → Type 0) (number : ℕ) (peers : List Peer) (copies : List PacketCopy)
    (may : EachMay P number peers copies) where
  abbrev Each : List Sending → Type 0
  Each sendings = AllByRecursion P sendings

  command_each : (order : Order) (copy : PacketCopy) → (order ≡ Release → IsChoice copies copy.gateway copy.number) →
      Each (command_of peers number order copy)
  command_each order copy choice = search (arith, nat_tests, may.commanded)

  settling_each : (verdict : Verdict) (copy : PacketCopy) → Each (settling_by verdict peers number copy)
  settling_each verdict copy = grind (arith, may.tested, command_each)

  all_settle : (duplicates : List PacketCopy) → Each (flat_map (settling peers number) duplicates)
  all_settle [] = tt
  all_settle (copy ∷ duplicates) = each_append P _ _ (settling_each copy.verdict copy) (all_settle duplicates)

  others_settle : (choice : PacketCopy) (duplicates : List PacketCopy) →
      Each (flat_map (settling_beside choice peers number) duplicates)
  others_settle choice [] = tt
  others_settle choice (copy ∷ duplicates) = search (arith, each_append, cond_both, (others_settle choice duplicates))

  copy_each : (favourite : ℕ) (up is_plain : Bool) → Each (copy_to favourite up peers number is_plain)
  copy_each favourite up is_plain = grind (arith, may.copied)

  releasing_each : (plain : PacketCopy) (duplicates : List PacketCopy) (choice : Option PacketCopy) →
      copies ≡ plain ∷ duplicates → plain.verdict ≡ Sealed →
      chosen duplicates ≡ choice → Each (releasing choice peers number duplicates)
  releasing_each plain duplicates choice whole sealed is =
      grind (arith, all_settle, each_append, command_each, others_settle)

  verdict_each : (verdict : Verdict) (favourite : ℕ) (up : Bool) (plain : PacketCopy) (duplicates : List PacketCopy) →
      copies ≡ plain ∷ duplicates →
      plain.verdict ≡ verdict → Each (due_by_verdict verdict favourite up peers number plain duplicates)
  verdict_each verdict favourite up plain duplicates whole is =
      grind (arith, cond_both, may.tested, releasing_each, all_settle)

  copies_each : (favourite : ℕ) (up : Bool) (those : List PacketCopy) → copies ≡ those →
      Each (due_by_copies favourite up peers number those)
  copies_each favourite up those whole = grind (arith, copy_each, verdict_each)

pub due_each : (P : Sending → Type 0) (favourite : ℕ) (up : Bool) (peers : List Peer) (packet : PacketState) →
    EachMay P packet.number peers packet.copies → AllByRecursion P (due_for favourite up peers packet)
due_each P favourite up peers packet may =
    cond_both (is_done packet.copies) [] (due_by_copies favourite up peers
    packet.number packet.copies) (λ (sendings : List Sending). AllByRecursion P sendings)
    (λ _. tt) (λ _. copies_each P packet.number peers packet.copies may favourite up packet.copies refl)

-- the same of the Node Alive Requests
pub probes_each : (P : Sending → Type 0) → ((gateway path : ℕ) → P (send.Probe gateway path)) →
    (gateway : ℕ) (paths : PathsOfNode) (peers : List Peer) →
    AllByRecursion P (probes_from gateway paths peers)
probes_each P is gateway paths [] = tt
probes_each P is gateway paths (peer ∷ peers) =
    grind (arith, nat_tests, each_append, (probes_each P is (suc gateway) paths peers))

-- ---- a release that is due names the chosen duplicate of a packet whose first copy is sealed

abbrev NamesBy : List PacketState → ℕ → ℕ → ℕ → Order → Type 0
NamesBy packets packet gateway named Release = IsChoiceOf packets packet gateway named
NamesBy packets packet gateway named Cancel = Unit {0}

abbrev Names : List PacketState → Sending → Type 0
Names packets (send.Command packet gateway named drawn order is_new) = NamesBy packets packet gateway named order
Names packets _ = Unit {0}

due_names : (packets : List PacketState) (favourite : ℕ) (up : Bool) (peers : List Peer) (packet : PacketState) →
    Contains packets packet →
    AllByRecursion (Names packets) (due_for favourite up peers packet)
due_names packets favourite up peers packet there = grind (arith, nat_tests, due_each)

all_names : (packets : List PacketState) (favourite : ℕ) (up : Bool) (peers : List Peer) (those : List PacketState) →
    ((packet : PacketState) → Contains those packet → Contains packets packet) →
    AllByRecursion (Names packets) (due_for_all favourite up peers those)
all_names packets favourite up peers [] there = tt
all_names packets favourite up peers (packet ∷ those) there =
    each_append (Names packets) _ _ (due_names packets favourite up peers packet (there packet (in_head packet those)))
    (all_names packets favourite up (all_drawn (due_for favourite up peers packet) peers) those
    (λ later at. there later (contains_more those packet later at)))

now_names : (node : NodeValue) → AllByRecursion (Names node.packets) (due_now node)
now_names node = search (arith, each_append, probes_each, all_names)

pub release_is_of_choice : (node : NodeValue) (packet gateway named number : ℕ) (is_new : Bool) →
    Contains (due node) (send.Command packet gateway named number Release is_new) → IsChoiceOf node.packets packet gateway named
release_is_of_choice node packet gateway named number is_new =
    each_contains (Names node.packets) (due node) _
    (subst (λ (packets : List PacketState). AllByRecursion (Names packets) (due node)) (stay (moved_at_tick node)) (now_names (moved node)))
  where
    stay : (to : Option ℕ) → (befallen (appointing to) node).packets ≡ node.packets
    stay None = refl
    stay (Some gateway) = refl
