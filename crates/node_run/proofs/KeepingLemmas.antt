-- A node that runs keeps its packets under their numbers.
use Rattle.std.proofs.Common.{◌≡◌, ◌∙◌, ℕ, zero, suc, ◌+◌, ◌-◌, ◌<◌, ◌^◌, Bool, true, false, if◌then◌else◌, List, [], ◌∷◌, ◌++◌, None, Some, refl, sym, ap, arith}
use Rattle.std.specs.List.{range_with_len}
use Rattle.node_core.specs.Log.{Began, NodeSetup}
use Rattle.node_core.specs.Packets.{PacketState}
use Rattle.node_core.specs.Value.{NodeValue, node_of}
use Rattle.node_core.specs.declared.counts.Tally.{Tally}
use Rattle.node_core.specs.declared.port.Port.{Port}
use Rattle.node_run.specs.Keeping.{KeepsPackets}
use Rattle.node_run.specs.Packets.{filled, filled_by, takes_next, with_next}
use Rattle.node_run.specs.Running.{Turn, after_turn, node_after, port_after, ticked}
use Rattle.node_run.proofs.CallLemmas.{EachGoesOn, after_all_turns}
use Rattle.node_run.proofs.StayingLemmas.{StaysUp, hears_on, numbers_of, ticks_on}

abbrev no_tally : Tally
no_tally = record { resolved = 0; done = 0 }

record Keeps (node : NodeValue) : Type 0 where
  numbers : numbers_of node.packets ≡ range_with_len 1 node.submissions
  anew : node.before ≡ no_tally

numbers_more : (packets : List PacketState) (packet : PacketState)
    → numbers_of (packets ++ packet ∷ []) ≡ numbers_of packets ++ packet.number ∷ []
numbers_more [] packet = refl
numbers_more (p ∷ packets) packet = ap (λ (ns : List ℕ). p.number ∷ ns) (numbers_more packets packet)

range_more : (a n k : ℕ) → k ≡ a + n → range_with_len a n ++ k ∷ [] ≡ range_with_len a (suc n)
range_more a zero k e = ap (λ (m : ℕ). m ∷ []) (omega (arith, e))
range_more a (suc n) k e = ap (λ (ns : List ℕ). a ∷ ns) (range_more (a + 1) n k (omega (arith, e)))

keeps_next : (node : NodeValue) → Keeps node → Keeps (with_next node)
keeps_next node was = record {
  numbers = numbers_more node.packets (record { number = suc node.submissions; copies = [] })
      ∙ ap (λ (ns : List ℕ). ns ++ suc node.submissions ∷ []) was.numbers
      ∙ range_more 1 node.submissions (suc node.submissions) (omega arith);
  anew = was.anew;
}

keeps_filled : (left : ℕ) (node : NodeValue) → Keeps node → Keeps (filled_by left node)
keeps_filled zero node was = was
keeps_filled (suc left) node was = by_taking (takes_next node) (keeps_filled left (with_next node) (keeps_next node was))
  where
    by_taking : (b : Bool) → Keeps (filled_by left (with_next node))
        → Keeps (if b then filled_by left (with_next node) else node)
    by_taking true next = next
    by_taking false next = was

keeps_on : (old new : NodeValue) → StaysUp old new → Keeps old → Keeps new
keeps_on old new stays was = record {
  numbers = stays.numbers ∙ was.numbers ∙ ap (λ (n : ℕ). range_with_len 1 n) (sym stays.submissions);
  anew = stays.before ∙ was.anew;
}

keeps_ticked : (packets : ℕ) (node : NodeValue) → Keeps node → Keeps (ticked (filled packets node))
keeps_ticked packets node was = keeps_on (filled packets node) (ticked (filled packets node))
    (ticks_on (filled packets node)) (keeps_filled (packets - node.submissions) node was)

keeps_turn : (packets : ℕ) (port : Port) (turn : Turn) (node : NodeValue) → Keeps node
    → Keeps (after_turn packets port turn node)
keeps_turn packets port None node was = keeps_ticked packets node was
keeps_turn packets port (Some d) node was = keeps_on node (after_turn packets port (Some d) node)
    (hears_on node port d.peer d.octets) was

keeps_turns : (packets : ℕ) (first : NodeValue) (turns : List Turn) → Keeps first → Keeps (node_after packets first turns)
keeps_turns packets first [] was = keeps_ticked packets first was
keeps_turns packets first (turn ∷ turns) was = keeps_turn packets (port_after turns) turn
    (node_after packets first turns) (keeps_turns packets first turns was)

pub ran_keeps : EachGoesOn → (setup : NodeSetup) (packets : ℕ) (turns : List Turn) → packets < 2 ^ 32
    → KeepsPackets packets (node_after packets (node_of setup (Began ∷ [])) turns)
ran_keeps goes setup packets turns few =
    let kept = keeps_turns packets (node_of setup (Began ∷ [])) turns (record { numbers = refl; anew = refl }) in
    let called = after_all_turns goes setup packets (node_of setup (Began ∷ [])) turns few
    (record { called = record { calls = []; is = refl; runs = refl }; within = omega arith }) in
    record { numbers = kept.numbers; within = called.within; anew = kept.anew }
