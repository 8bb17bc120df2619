-- What stays of a node that ticks, or hears something: it runs, and its packets bear their numbers.
use Rattle.std.proofs.Common.{◌≡◌, ℕ, Bool, true, false, if◌then◌else◌, List, [], ◌∷◌, ◌++◌, map, Option, None, Some, refl, ◌∙◌}
use Rattle.gw_base.specs.declared.address.Addr.{Addr}
use Rattle.node_core.specs.Hearing.{Dropped, Says, Taken, entries_from, heard_entries, taken, taken_entries}
use Rattle.node_core.specs.Log.{Heard, Responds, Saying, Ticked, packets_hearing}
use Rattle.node_core.specs.Moving.{appointing, moved_at_tick, moved_by}
use Rattle.node_core.specs.Packets.{PacketState, copies_after, is_done, is_of, packet_after, packet_after_all, packet_hearing, while_open}
use Rattle.node_core.specs.Peers.{place_of}
use Rattle.node_core.specs.Ticks.{due, tick_entries}
use Rattle.node_core.specs.Value.{NodeValue, befallen, befell}
use Rattle.node_core.specs.declared.port.Port.{Port}
use Rattle.node_core.specs.declared.sending.Sending.{Sending}

abbrev pub numbers_of : List PacketState → List ℕ
numbers_of packets = map (λ (packet : PacketState). packet.number) packets

pub record StaysUp (old new : NodeValue) : Type 0 where
  pub runs : new.is_running ≡ old.is_running
  pub submissions : new.submissions ≡ old.submissions
  pub before : new.before ≡ old.before
  pub numbers : numbers_of new.packets ≡ numbers_of old.packets

stays_then : (a b c : NodeValue) → StaysUp a b → StaysUp b c → StaysUp a c
stays_then a b c first next = record {
  runs = next.runs ∙ first.runs;
  submissions = next.submissions ∙ first.submissions;
  before = next.before ∙ first.before;
  numbers = next.numbers ∙ first.numbers;
}

-- Numbers.

numbered_as : (f : PacketState → PacketState) → ((p : PacketState) → (f p).number ≡ p.number)
    → (packets : List PacketState)
    → numbers_of (map f packets) ≡ numbers_of packets
numbered_as f same [] = refl
numbered_as f same (p ∷ packets) = λ i. same p i ∷ numbered_as f same packets i

while_numbered : (f : PacketState → PacketState) → ((p : PacketState) → (f p).number ≡ p.number) → (p : PacketState)
    → (while_open f p).number ≡ p.number
while_numbered f same p = by_done (is_done p.copies)
  where
    by_done : (b : Bool) → (if b then p else f p).number ≡ p.number
    by_done true = refl
    by_done false = same p

after_one : (sending : Sending) (p : PacketState) → (packet_after sending p).number ≡ p.number
after_one sending p = by_packet (is_of p.number sending)
  where
    by_packet : (b : Bool) → (if b then record p { copies = copies_after sending p.copies } else p).number ≡ p.number
    by_packet true = refl
    by_packet false = refl

after_all : (sendings : List Sending) (p : PacketState) → (packet_after_all sendings p).number ≡ p.number
after_all [] p = refl
after_all (sending ∷ sendings) p = after_all sendings (packet_after sending p) ∙ after_one sending p

hearing_numbered : (port : Port) (gateway : ℕ) (saying : Saying) (packets : List PacketState)
    → numbers_of (packets_hearing port gateway saying packets) ≡ numbers_of packets
hearing_numbered port gateway (Responds cause numbers) packets =
    numbered_as (while_open (packet_hearing port gateway cause numbers))
    (while_numbered (packet_hearing port gateway cause numbers) (λ p. refl)) packets
hearing_numbered port gateway _ packets = refl

-- What befalls it.

appoints : (node : NodeValue) (moved : Option ℕ) → StaysUp node (befallen (appointing moved) node)
appoints node None = record { runs = refl; submissions = refl; before = refl; numbers = refl }
appoints node (Some gateway) = record { runs = refl; submissions = refl; before = refl; numbers = refl }

hears_saying : (node : NodeValue) (port : Port) (gateway : ℕ) (saying : Saying)
    → StaysUp node (befell (Heard port gateway saying) node)
hears_saying node port gateway saying =
    record {
      runs = refl;
      submissions = refl;
      before = refl;
      numbers = hearing_numbered port gateway saying node.packets;
    }

takes : (node : NodeValue) (port : Port) (gateway : ℕ) (t : Taken)
    → StaysUp node (befallen (taken_entries node port gateway t) node)
takes node port gateway (Dropped why) = record { runs = refl; submissions = refl; before = refl; numbers = refl }
takes node port gateway (Says saying reply) =
    let heard : NodeValue = befell (Heard port gateway saying) node in
    let moved : Option ℕ = moved_by node port gateway saying in
    stays_then node heard (befallen (appointing moved) heard) (hears_saying node port gateway saying)
    (appoints heard moved)

hears_from : (node : NodeValue) (port : Port) (place : Option ℕ) (octets : List ℕ)
    → StaysUp node (befallen (entries_from node port place octets) node)
hears_from node port None octets = record { runs = refl; submissions = refl; before = refl; numbers = refl }
hears_from node port (Some gateway) octets = takes node port gateway (taken node gateway octets)

pub hears_on : (node : NodeValue) (port : Port) (from : Addr) (octets : List ℕ)
    → StaysUp node (befallen (heard_entries node port from octets) node)
hears_on node port from octets = hears_from node port (place_of node.gateways from.ip) octets

ticks : (node : NodeValue) (moved : Option ℕ) (sendings : List Sending)
    → StaysUp node (befallen (appointing moved ++ Ticked sendings ∷ []) node)
ticks node None sendings = record {
  runs = refl;
  submissions = refl;
  before = refl;
  numbers = numbered_as (while_open (packet_after_all sendings)) (while_numbered (packet_after_all sendings)
      (after_all sendings)) node.packets;
}
ticks node (Some gateway) sendings = record {
  runs = refl;
  submissions = refl;
  before = refl;
  numbers = numbered_as (while_open (packet_after_all sendings)) (while_numbered (packet_after_all sendings)
      (after_all sendings)) node.packets;
}

pub ticks_on : (node : NodeValue) → StaysUp node (befallen (tick_entries node) node)
ticks_on node = ticks node (moved_at_tick node) (due node)
