-- A tick, step by step: what is due for the packets, and the Node Alive Requests, from a place on: what is there, and
-- then from the next place on.
use Rattle.std.proofs.Common.{◌≡◌, ℕ, suc, ◌+◌, ◌<◌, min, Bool, List, [], ◌∷◌, ◌++◌, length, map, drop, get_or, Option, None, refl, sym, ap, ◌∙◌, append_assoc, add-one, arith}
use Rattle.node_core.proofs.Names.{all_drawn, at_drop_all, at_drop_more, befallen, drawn, due_by, due_for, due_for_all, favourite_by, is_alive, most_quiet, moved_at_tick, nat_tests, NodeValue, numbers_out, option_or, out_at, packet_after, packet_after_all, PacketState, PathsOfNode, Peer, planned, probe_of, probes, probes_from, quiet_by, Sending, tick_entries, while_open}
use Rattle.std.specs.Prelude.{IfSome}
use Rattle.node_core.proofs.NodeLemmas.{all_drawn_keeps, length-anew}

pub after_more : (sendings : List Sending) (packet : PacketState) (i : ℕ) (d : Sending) → i < length sendings →
    packet_after_all (drop i sendings) packet ≡ packet_after_all (drop (i + 1) sendings) (packet_after (get_or sendings i d) packet)
after_more sendings packet i d below = at_drop_more (λ xs. packet_after_all xs packet) sendings i d below

pub after_none : (sendings : List Sending) (packet : PacketState) → packet_after_all (drop (length sendings) sendings) packet ≡ packet
after_none sendings packet = at_drop_all (λ xs. packet_after_all xs packet) sendings (length sendings) (omega arith)

pub drawn_more : (sendings : List Sending) (peers : List Peer) (i : ℕ) (d : Sending) → i < length sendings →
    all_drawn (drop i sendings) peers ≡ all_drawn (drop (i + 1) sendings) (drawn (get_or sendings i d) peers)
drawn_more sendings peers i d below = at_drop_more (λ xs. all_drawn xs peers) sendings i d below

pub drawn_none : (sendings : List Sending) (peers : List Peer) → all_drawn (drop (length sendings) sendings) peers ≡ peers
drawn_none sendings peers = at_drop_all (λ xs. all_drawn xs peers) sendings (length sendings) (omega arith)

pub all_drawn_append : (one two : List Sending) (peers : List Peer) → all_drawn (one ++ two) peers ≡ all_drawn two (all_drawn one peers)
all_drawn_append [] two peers = refl
all_drawn_append (sending ∷ one) two peers = all_drawn_append one two (drawn sending peers)

module _ (favourite : ℕ) (up : Bool) where
  pub planned_more : (peers : List Peer) (packets : List PacketState) (i : ℕ) (d : PacketState) → i < length packets →
      planned favourite up peers (drop i packets)
      ≡ packet_after_all (due_for favourite up peers (get_or packets i d)) (get_or packets i d)
      ∷ planned favourite up (all_drawn (due_for favourite up peers (get_or packets i d)) peers) (drop (i + 1) packets)
  planned_more peers packets i d below = at_drop_more (planned favourite up peers) packets i d below

  pub due_more : (peers : List Peer) (packets : List PacketState) (i : ℕ) (d : PacketState) → i < length packets →
      due_for_all favourite up peers (drop i packets)
      ≡ due_for favourite up peers (get_or packets i d)
      ++ due_for_all favourite up (all_drawn (due_for favourite up peers (get_or packets i d)) peers) (drop (i + 1) packets)
  due_more peers packets i d below = at_drop_more (due_for_all favourite up peers) packets i d below

  pub planned_none : (peers : List Peer) (packets : List PacketState) → planned favourite up peers (drop (length packets) packets) ≡ []
  planned_none peers packets = at_drop_all (planned favourite up peers) packets (length packets) (omega arith)

  pub due_none : (peers : List Peer) (packets : List PacketState) → due_for_all favourite up peers (drop (length packets) packets) ≡ []
  due_none peers packets = at_drop_all (due_for_all favourite up peers) packets (length packets) (omega arith)

  -- so much is planned: these packets, sendings and numbers, and what follows from a place on, are all
  abbrev pub AreSoFar : List PacketState → List PacketState → List Sending → List Peer → List PacketState → List Sending → List Peer → ℕ → Type 0
  AreSoFar packets after₀ sendings₀ peers₀ after sendings peers i =
      (after ++ planned favourite up peers (drop i packets) ≡ after₀ ++ planned favourite up peers₀ packets)
      × (sendings ++ due_for_all favourite up peers (drop i packets) ≡ sendings₀ ++ due_for_all favourite up peers₀ packets)
      × (all_drawn (due_for_all favourite up peers (drop i packets)) peers ≡ all_drawn (due_for_all favourite up peers₀ packets) peers₀)

  pub plan_step : (packets after₀ : List PacketState) (sendings₀ : List Sending) (peers₀ : List Peer)
      (after after₁ : List PacketState) (sendings sendings₁ : List Sending) (peers peers₁ : List Peer) (i : ℕ) (packet copied : PacketState) →
      i < length packets → packet ≡ get_or packets i packet → copied ≡ packet →
      after₁ ≡ after ++ packet_after_all (due_for favourite up peers copied) copied ∷ [] →
      sendings₁ ≡ sendings ++ due_for favourite up peers copied →
      peers₁ ≡ all_drawn (due_for favourite up peers copied) peers →
      AreSoFar packets after₀ sendings₀ peers₀ after sendings peers i →
      AreSoFar packets after₀ sendings₀ peers₀ after₁ sendings₁ peers₁ (i + 1)
  plan_step packets after₀ sendings₀ peers₀ after after₁ sendings sendings₁ peers peers₁ i packet copied below here same grown sent numbered so_far =
      let at : copied ≡ get_or packets i packet = same ∙ here in
      let due : List Sending = due_for favourite up peers (get_or packets i packet) in
      let later : List PacketState = planned favourite up (all_drawn due peers) (drop (i + 1) packets) in
      let sent_later : List Sending = due_for_all favourite up (all_drawn due peers) (drop (i + 1) packets) in
      rw (grown, sent, numbered, at) (
        append_assoc after (packet_after_all due (get_or packets i packet) ∷ []) later
            ∙ ap (λ (xs : List PacketState). after ++ xs) (sym (planned_more peers packets i packet below)) ∙ so_far.0,
        append_assoc sendings due sent_later
            ∙ ap (λ (xs : List Sending). sendings ++ xs) (sym (due_more peers packets i packet below)) ∙ so_far.1,
        sym (all_drawn_append due sent_later peers)
            ∙ ap (λ (xs : List Sending). all_drawn xs peers) (sym (due_more peers packets i packet below)) ∙ so_far.2,
      )

-- ---- the Node Alive Requests

pub probes_more : (paths : PathsOfNode) (gateways : List Peer) (i : ℕ) (d : Peer) → i < length gateways →
    probes_from i paths (drop i gateways)
    ≡ probe_of (is_alive paths i) i (get_or gateways i d) ++ probes_from (i + 1) paths (drop (i + 1) gateways)
probes_more paths gateways i d below = cc (at_drop_more (probes_from i paths) gateways i d below, add-one i)

-- so much is probed
abbrev pub AreProbed : PathsOfNode → List Peer → List Sending → List Peer → List Sending → List Peer → ℕ → Type 0
AreProbed paths gateways sendings₀ peers₀ sendings peers i =
    (sendings ++ probes_from i paths (drop i gateways) ≡ sendings₀ ++ probes paths gateways)
    × (all_drawn (probes_from i paths (drop i gateways)) peers ≡ all_drawn (probes paths gateways) peers₀)

pub probe_step : (paths : PathsOfNode) (gateways : List Peer) (sendings₀ : List Sending) (peers₀ : List Peer)
    (sendings sendings₁ : List Sending) (peers peers₁ : List Peer) (i : ℕ) (d : Peer) → i < length gateways →
    sendings₁ ≡ sendings ++ probe_of (is_alive paths i) i (get_or gateways i d) →
    peers₁ ≡ all_drawn (probe_of (is_alive paths i) i (get_or gateways i d)) peers →
    AreProbed paths gateways sendings₀ peers₀ sendings peers i → AreProbed paths gateways sendings₀ peers₀ sendings₁ peers₁ (i + 1)
probe_step paths gateways sendings₀ peers₀ sendings sendings₁ peers peers₁ i d below sent numbered so_far =
    let here : List Sending = probe_of (is_alive paths i) i (get_or gateways i d) in
    let later : List Sending = probes_from (i + 1) paths (drop (i + 1) gateways) in (
      search (arith, append_assoc, probes_more),
      ap (all_drawn later) numbered ∙ sym (all_drawn_append here later peers)
          ∙ ap (λ (xs : List Sending). all_drawn xs peers) (sym (probes_more paths gateways i d below)) ∙ so_far.1,
    )

-- ---- whether the numbers of a gateway are used up

pub out_more : (gateways : List Peer) (packets : List PacketState) (i : ℕ) (d : Peer) → i < length gateways →
    numbers_out i (drop i gateways) packets
    ≡ option_or (out_at i (get_or gateways i d).next packets) (numbers_out (i + 1) (drop (i + 1) gateways) packets)
out_more gateways packets i d below =
    cc (at_drop_more (λ (peers : List Peer). numbers_out i peers packets) gateways i d below, add-one i)

pub out_none : (gateways : List Peer) (packets : List PacketState) → numbers_out (length gateways) (drop (length gateways) gateways) packets ≡ None
out_none gateways packets =
    at_drop_all (λ (peers : List Peer). numbers_out (length gateways) peers packets) gateways (length gateways)
    (omega arith)

-- ---- the whole tick, once the favourite has moved or not

abbrev due_if : NodeValue → Option ℕ → List Sending
due_if node moved =
    due_by (favourite_by moved node.favourite_place) (is_alive node.paths (favourite_by moved node.favourite_place))
    node.paths node.gateways node.packets

abbrev after_tick : NodeValue → Option ℕ → NodeValue
after_tick node moved = record node {
  favourite_place = favourite_by moved node.favourite_place;
  quiet = min most_quiet (suc (quiet_by moved node.quiet));
  gateways = all_drawn (due_if node moved) node.gateways;
  packets = map (while_open (packet_after_all (due_if node moved))) node.packets;
}

tick_is : (node : NodeValue) → befallen (tick_entries node) node ≡ after_tick node (moved_at_tick node)
tick_is node = grind (arith, nat_tests)

pub tick_result : (node : NodeValue) (moved : Option ℕ) (favourite : ℕ) (up : Bool) (quiet : ℕ) (peers : List Peer) (packets : List PacketState) →
    moved ≡ moved_at_tick node → favourite ≡ favourite_by moved node.favourite_place → up ≡ is_alive node.paths favourite →
    quiet ≡ min most_quiet (suc (quiet_by moved node.quiet)) →
    peers ≡ all_drawn (due_by favourite up node.paths node.gateways node.packets) node.gateways →
    packets ≡ map (while_open (packet_after_all (due_by favourite up node.paths node.gateways node.packets))) node.packets →
    record node { favourite_place = favourite; quiet = quiet; gateways = peers; packets = packets } ≡ befallen (tick_entries node) node
tick_result node moved favourite up quiet peers packets is_moved is_favourite is_up is_quiet is_peers is_packets =
    let due_is : due_by favourite up node.paths node.gateways node.packets ≡ due_if node moved = cc in
    search (arith, tick_is)

-- the favourite is one of the gateways
pub within_by : (moved : Option ℕ) (favourite size : ℕ) → IfSome moved (λ place. place < size) → favourite < size → favourite_by moved favourite < size
within_by moved favourite size moves stays = grind arith

pub length-all_drawn : (sendings : List Sending) (peers : List Peer) → length (all_drawn sendings peers) ≡ length peers
length-all_drawn sendings peers =
    sym (length-anew (all_drawn sendings peers)) ∙ ap (λ (ps : List Peer). length ps) (all_drawn_keeps sendings peers) ∙ length-anew peers
