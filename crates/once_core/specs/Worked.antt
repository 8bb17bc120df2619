-- Worked values: what a world comes to by some events, and what is seen of it.
use Rattle.std.specs.Prelude.{ℕ, pos, Bool, true, List, [], ◌∷◌, ◌++◌, length, map, None}
use Rattle.std.specs.List.{flat_map}
use Rattle.file_writer.specs.Streams.{Settings}
use Rattle.gateway_answer.specs.Value.{Gone}
use Rattle.node_core.specs.Packets.{is_resolved}
use Rattle.once_core.specs.Addresses.{node_ip}
use Rattle.once_core.specs.Beginning.{default_rules, world_of}
use Rattle.once_core.specs.FiledOnce.{filing_count}
use Rattle.once_core.specs.FilePlaces.{placed}
use Rattle.once_core.specs.Followed.{Followed, all_followed}
use Rattle.once_core.specs.Gateway.{Gateway}
use Rattle.once_core.specs.Once.{firm_in}
use Rattle.once_core.specs.Turn.{Turn, calm, turns}
use Rattle.once_core.specs.World.{World, log_at}
use Rattle.once_core.specs.declared.event.Event.{Event}
use Rattle.once_core.specs.declared.event.Event.TheVariants.{Submit, Tick, Deliver, Commit, Halt, Start, Redirect, Moment}

-- a world of so many gateways and one node after these turns, or these events with which no device fails
abbrev pub after_turns : ℕ → List Turn → World
after_turns gateways later = turns default_rules (world_of default_rules gateways 1) later

abbrev pub after : ℕ → List Event → World
after gateways events = after_turns gateways (map calm events)

-- the octets of its messages
abbrev pub octets_sent : World → List (List ℕ)
octets_sent w = map (λ m. m.octets) w.messages

-- how many entries of each gateway's history are firm, and how many wait
abbrev pub entries : World → List (ℕ × ℕ)
entries w = map (λ (g : Gateway). (length g.book.firm, length g.book.rest)) w.gateways

-- of each packet that the node ever followed: whether it is resolved, and how often its first record is filed
abbrev pub packets : World → List (Bool × ℕ)
packets w = map (λ (p : Followed). (is_resolved p.state.copies, filing_count (firm_in w) (node_ip 0) p.start p.state.copies 0)) (all_followed (log_at w 0))

-- where records stand in the files of the first two gateways: the gateway, the stream, the number of the file there, and
-- how many records stand before it
abbrev pub some_files : Settings
some_files = record {
  rules = [];
  limits = record { size = 4096; count = 1; open_time = 3600 };
  profile = 1;
  file = record { offset = pos 0; address = 0 };
}

abbrev pub standing : World → List (ℕ × ℕ × ℕ × ℕ)
standing w =
    flat_map (λ gateway. map (λ x. (gateway, x.0.stream, x.0.sequence, x.0.index)) (placed some_files (firm_in w gateway)))
    (0 ∷ 1 ∷ [])

-- a packet of one record, of format 1 and version 0x0600
abbrev pub a_packet : List ℕ
a_packet = 1 ∷ 1 ∷ 6 ∷ 0 ∷ 0 ∷ 5 ∷ 0xA0 ∷ 3 ∷ 0x80 ∷ 1 ∷ 5 ∷ []

-- these messages are delivered, one after the other
abbrev pub deliveries : List ℕ → List Event
deliveries ks = map (λ k. Deliver k) ks

-- the node becomes alive at two gateways, by eight messages
abbrev pub alive_at_two : List Event
alive_at_two = Moment 1709164800 ∷ Tick 1 ∷ deliveries (1 ∷ 2 ∷ 3 ∷ 4 ∷ 5 ∷ 6 ∷ []) ++ Commit 1 ∷ Commit 2 ∷ deliveries (7 ∷ 8 ∷ [])

-- The answer to the plain copy is lost, and a duplicate goes to the second gateway: the test finds the plain copy filed,
-- and the duplicate is cancelled.
abbrev pub answer_lost : List Event
answer_lost =
    alive_at_two ++ Submit 1 a_packet ∷ Tick 1 ∷ Deliver 9 ∷ Commit 1 ∷ Redirect 1 63 None ∷ Deliver 11 ∷ Tick 1 ∷ Deliver 13
    ∷ Commit 2 ∷ Deliver 14 ∷ Tick 1 ∷ Deliver 15 ∷ Deliver 16 ∷ Tick 1 ∷ Deliver 17 ∷ Commit 2 ∷ Deliver 18 ∷ []

-- The plain copy itself is late: the test seals its number, the duplicate is released, and then the plain copy comes.
abbrev pub copy_late : List Event
copy_late =
    alive_at_two ++ Submit 1 a_packet ∷ Tick 1 ∷ Redirect 1 63 None ∷ Deliver 10 ∷ Tick 1 ∷ Deliver 12 ∷ Commit 2 ∷ Deliver 13
    ∷ Tick 1 ∷ Deliver 14 ∷ Commit 1 ∷ Deliver 15 ∷ Tick 1 ∷ Deliver 16 ∷ Commit 2 ∷ Deliver 17 ∷ Deliver 9 ∷ []

-- A node is halted and starts again while its plain copy is under way: the copy outlives its start.
abbrev pub started_again : List Event
started_again =
    alive_at_two ++ Submit 1 a_packet ∷ Tick 1 ∷ Redirect 1 63 None ∷ Deliver 10 ∷ Tick 1 ∷ Deliver 12 ∷ Commit 2 ∷ Halt 1
    ∷ Start 1 ∷ Tick 1 ∷ deliveries (14 ∷ 15 ∷ 16 ∷ 17 ∷ 18 ∷ 19 ∷ []) ++ Commit 1 ∷ Commit 2 ∷ Deliver 20 ∷ Deliver 21
    ∷ Submit 1 a_packet ∷ Tick 1 ∷ Deliver 22 ∷ Commit 1 ∷ Deliver 9 ∷ Deliver 23 ∷ []

-- a turn in which the commit fails, and one in which the torn entries are found whole
abbrev pub failing : Event → Turn
failing e = record (calm e) { fortune = record { fails = true; reopening = Gone } }

-- The node's new start reaches the gateway, whose commit then fails; the old plain copy opens the journal again, which
-- holds the new start.
abbrev pub opened_by_a_copy : List Turn
opened_by_a_copy =
    map calm (Tick 1 ∷ deliveries (1 ∷ 2 ∷ 3 ∷ []) ++ Commit 1 ∷ Deliver 4 ∷ Submit 1 a_packet ∷ Tick 1 ∷ Halt 1 ∷ Start 1 ∷ Tick 1
    ∷ deliveries (6 ∷ 7 ∷ 8 ∷ []))
    ++ failing (Commit 1) ∷ calm (Deliver 5) ∷ []
