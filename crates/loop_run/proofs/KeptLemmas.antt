-- A node of a loop that ran keeps all its packets; where it counts all as done, none is open.
use Rattle.std.proofs.Common.{◌≡◌, ◌∙◌, ℕ, zero, suc, ◌+◌, ◌<◌, ◌≤◌, ◌^◌, ◌==◌, Bool, true, false, not, if◌then◌else◌, IsTrue, List, [], ◌∷◌, length, map, refl, sym, ap, arith}
use Rattle.loop_run.proofs.Names.{Addr, All, All-cons, All-head, All-nil, All-tail, All-weaker, all_done, counts_of, filter, gateway_at, gateways_of, is_done, IsLoop, KeepsAll, length-map, length-map-range_with_len, length-range_with_len, LoopSetup, node_after, node_made, node_of, node_setup, NodeValue, open_numbers, phase_among, phase_of, phase_of_copies, slice_index_or, Turn}
use Rattle.std.proofs.lemmas.Bool.{eqb-true, eqb-false}
use Rattle.std.proofs.lemmas.List.Sums.{count_by-le-length, sum_by-cons}
use Rattle.node_core.specs.Log.{Began, LogEntry, NodeSetup, done_among, peers_of}
use Rattle.node_core.specs.Packets.{PacketState, is_done as are_done}
use Rattle.node_core.specs.Reached.{NodeCall, log_of, reached}
use Rattle.node_core.specs.Roles.{IsSingle}
use Rattle.node_core.specs.declared.copy.PacketCopy.{PacketCopy}
use Rattle.node_core.specs.declared.counts.Phase.TheVariants as phase
use Rattle.node_core.specs.declared.counts.Tally.{Tally}
use Rattle.node_run.specs.Keeping.{KeepsPackets}
use Rattle.loop_run.proofs.PigeonLemmas.{pigeonhole}

-- Copies.

-- a packet has no more copies than there are gateways
few_copies : {peers packet : _} → IsSingle peers packet → length packet.copies ≤ length peers
few_copies {peers} {packet} single = by_copies packet.copies refl
  where
    by_copies : (copies : List PacketCopy) → packet.copies ≡ copies → length packet.copies ≤ length peers
    by_copies [] e = let none : length packet.copies ≡ 0 = cc in omega arith
    by_copies (copy ∷ copies) e = pigeonhole _ _ _ into one
      where
        gateway : ℕ → ℕ
        gateway k = (slice_index_or packet.copies k copy).gateway

        into : (i : ℕ) → i < length packet.copies → gateway i < length peers
        into i less = (single.rising i copy less).place

        one : (i j : ℕ) → i < length packet.copies → j < length packet.copies → gateway i ≡ gateway j → i ≡ j
        one i j less less' same = omega (
          arith,
          (λ (l : i < j). single.apart i j copy l less' same),
          (λ (l : j < i). single.apart j i copy l less (sym same)),
        )

-- what the laws of nodes say
abbrev pub AreCalled : Type 0
AreCalled = (setup : NodeSetup) (packets : ℕ) (turns : List Turn) → packets < 2 ^ 32
    → (calls : List NodeCall) × (node_after packets (node_of setup (Began ∷ [])) turns ≡ reached setup calls)

abbrev pub AreSingle : Type 0
AreSingle = (setup : NodeSetup) (calls : List NodeCall) → 1 ≤ length setup.gateways
    → All (IsSingle (reached setup calls).gateways) (reached setup calls).packets

abbrev pub AreKept : Type 0
AreKept = (setup : NodeSetup) (packets : ℕ) (turns : List Turn) → packets < 2 ^ 32
    → KeepsPackets packets (node_after packets (node_of setup (Began ∷ [])) turns)

abbrev pub KeepGateways : Type 0
KeepGateways = (gateways : List Addr) (log : List LogEntry) → length (peers_of gateways log) ≡ length gateways

module _ (called : AreCalled) (single : AreSingle) (kept : AreKept) (keep : KeepGateways) (setup : LoopSetup) (place : ℕ)
    (turns : List Turn) (within : IsLoop setup) where
  abbrev pub ran : NodeValue
  ran = node_after setup.packets (node_made setup place) turns

  few_packets : setup.packets < 2 ^ 32
  few_packets = omega (arith, within.most_packets)

  at_some : length (gateways_of setup.gateways) ≡ setup.gateways
  at_some = length-map-range_with_len gateway_at 0 setup.gateways

  abbrev calls : List NodeCall
  calls = (called (node_setup setup place) setup.packets turns few_packets).0

  ran_is : ran ≡ reached (node_setup setup place) calls
  ran_is = (called (node_setup setup place) setup.packets turns few_packets).1

  few_peers : length (reached (node_setup setup place) calls).gateways ≤ 255
  few_peers =
      let same = keep (gateways_of setup.gateways) (log_of (node_setup setup place) calls) in
      omega (arith, within.most_gateways, at_some)

  all_few : All (λ (packet : PacketState). length packet.copies ≤ 255) (reached (node_setup setup place) calls).packets
  all_few =
      All-weaker (IsSingle (reached (node_setup setup place) calls).gateways)
      (λ (packet : PacketState). length packet.copies ≤ 255) (λ packet one.
      let few = few_copies one in
      omega (arith, few_peers)) (reached (node_setup setup place) calls).packets
      (single (node_setup setup place) calls (omega (arith, within.some_gateways, at_some)))

  pub keeps_all : KeepsAll ran
  keeps_all = record {
    numbers = (kept (node_setup setup place) setup.packets turns few_packets).numbers;
    few = rw ran_is all_few;
  }

-- Packets that are done.

abbrev IsDone : PacketState → Type 0
IsDone packet = are_done packet.copies ≡ true

-- where as many are done as there are, each is
each_done : (packets : List PacketState) → done_among packets ≡ length packets → All IsDone packets
each_done [] all = All-nil IsDone
each_done (p ∷ packets) all = by_first (are_done p.copies) refl
    (count_by-le-length (λ (packet : PacketState). are_done packet.copies) packets) (λ e. each_done packets e)
    (sym (sum_by-cons (λ (packet : PacketState). if are_done packet.copies then 1 else 0) p packets) ∙ all)
  where
    by_first : (b : Bool) → are_done p.copies ≡ b → done_among packets ≤ length packets
        → (done_among packets ≡ length packets → All IsDone packets)
        → (if b then 1 else 0) + done_among packets ≡ suc (length packets) → All IsDone (p ∷ packets)
    by_first true is most rest e = All-cons IsDone p packets is (rest (omega arith))
    by_first false is most rest e = absurd (omega arith)

done_phase : (packet : PacketState) → IsDone packet → phase_of_copies packet.copies ≡ phase.Done
done_phase packet is = cc

-- each number of a packet among these, all of which are done, is that of one that is done
found_done : (packets : List PacketState) → All IsDone packets → (k : ℕ) (d : ℕ) → k < length packets
    → is_done (phase_among packets (slice_index_or (map (λ (packet : PacketState). packet.number) packets) k d)) ≡ true
found_done [] all k d less = absurd (omega arith)
found_done (p ∷ packets) all zero d less = by_same (p.number == p.number) refl
  where
    by_same : (b : Bool) → (p.number == p.number) ≡ b → is_done (phase_among (p ∷ packets) p.number) ≡ true
    by_same true same = cc (done_phase p (All-head IsDone p packets all))
    by_same false other = absurd (eqb-false p.number p.number other refl)
found_done (p ∷ packets) all (suc k) d less =
    by_same (p.number == n) refl (found_done packets (All-tail IsDone p packets all) k d (omega arith))
  where
    n : ℕ
    n = slice_index_or (map (λ (packet : PacketState). packet.number) packets) k d

    by_same : (b : Bool) → (p.number == n) ≡ b → is_done (phase_among packets n) ≡ true
        → is_done (phase_among (p ∷ packets) n) ≡ true
    by_same true same rest = cc (done_phase p (All-head IsDone p packets all))
    by_same false other rest = cc

filter_none : (test : ℕ → Bool) (xs : List ℕ) → All (λ x. test x ≡ false) xs → filter test xs ≡ []
filter_none test [] none = refl
filter_none test (x ∷ xs) none = by_first (test x) (All-head (λ y. test y ≡ false) x xs none)
    (filter_none test xs (All-tail (λ y. test y ≡ false) x xs none))
  where
    by_first : (b : Bool) → b ≡ false → filter test xs ≡ [] → (if b then x ∷ filter test xs else filter test xs) ≡ []
    by_first true is rest = cc
    by_first false is rest = rest

-- Where a node counts as many packets done as it may have, none is open.
pub none_open : (packets : ℕ) (node : NodeValue) → KeepsPackets packets node → IsTrue (all_done packets node)
    → open_numbers packets node ≡ []
none_open packets node kept all =
    rw submitted at
    (rw kept.numbers at
    (filter_none (λ number. not (is_done (phase_of node number)))
    (map (λ (packet : PacketState). packet.number) node.packets)
    (λ k d less. ap not
    (found_done _ each k d (omega (arith, (length-map node.packets (λ (packet : PacketState). packet.number))))))))
  where
    long : length node.packets ≡ node.submissions
    long = sym (length-map node.packets (λ (packet : PacketState). packet.number))
        ∙ ap length kept.numbers ∙ length-range_with_len 1 node.submissions

    counted : (counts_of node).done ≡ packets
    counted = eqb-true (counts_of node).done packets all

    among : done_among node.packets ≡ packets
    among = omega (arith, (ap (λ (t : Tally). t.done) kept.anew), counted)

    submitted : node.submissions ≡ packets
    submitted =
        let most = count_by-le-length (λ (packet : PacketState). are_done packet.copies) node.packets in
        omega (arith, kept.within, among, long)

    each : All IsDone node.packets
    each = each_done _ (omega (arith, among, long, submitted))
