-- What a node that ran over two links is, and what it sent, by what it heard turn by turn. A turn is one wait for a
-- datagram, at the first port and at the second alternately: one came, or none. Before the first turn, and after each
-- turn in which none came, the node takes packets as long as it takes more, and then it ticks. So all that it does
-- follows from what it heard. What the turns heard is listed with the newest first.
use Rattle.std.specs.Prelude.{ℕ, suc, ◌==◌, Bool, IsFalse, List, [], ◌∷◌, ◌++◌, Option, Some, None, map, ⊤}
use Rattle.gw_base.specs.declared.address.Addr.{Addr}
use Rattle.net_link.specs.Datagrams.{Datagram}
use Rattle.node_core.specs.Counting.{counts_of}
use Rattle.node_core.specs.Hearing.{heard_entries, heeds}
use Rattle.node_core.specs.Octets.{outgoing}
use Rattle.node_core.specs.Ticks.{due, tick_entries}
use Rattle.node_core.specs.Value.{NodeValue, befallen}
use Rattle.node_core.specs.declared.message.Outgoing.{Outgoing}
use Rattle.node_core.specs.declared.port.Port.{Port}
use Rattle.node_core.specs.declared.port.Port.TheVariants.{First, Second}
use Rattle.node_run.specs.Packets.{filled}

-- Turns.

-- what a turn heard
abbrev pub Turn : Type 0
Turn = Option Datagram

abbrev pub other_port : Port → Port
other_port First = Second
other_port Second = First

-- the port of the turn after these
abbrev pub port_after : List Turn → Port
port_after [] = First
port_after (turn ∷ turns) = other_port (port_after turns)

-- what concerns one port, asked at another or at the same
abbrev pub only_at : {X : Type 0} → Port → Port → List X → List X
only_at First First xs = xs
only_at First Second xs = []
only_at Second First xs = []
only_at Second Second xs = xs

-- one more, where a turn was at this port
abbrev pub counted_at : Port → Port → ℕ → ℕ
counted_at First First n = suc n
counted_at First Second n = n
counted_at Second First n = n
counted_at Second Second n = suc n

-- how many of these turns were at a port
abbrev pub turns_at : Port → List Turn → ℕ
turns_at port [] = 0
turns_at port (turn ∷ turns) = counted_at port (port_after turns) (turns_at port turns)

abbrev pub datagrams_of : Turn → List Datagram
datagrams_of None = []
datagrams_of (Some d) = d ∷ []

-- what came at a port in these turns, in its order
abbrev pub heard_at : Port → List Turn → List Datagram
heard_at port [] = []
heard_at port (turn ∷ turns) = heard_at port turns ++ only_at port (port_after turns) (datagrams_of turn)

-- The node. Of so many packets in all it takes one after the other.

-- after a tick
abbrev pub ticked : NodeValue → NodeValue
ticked node = befallen (tick_entries node) node

-- after a turn at a port
abbrev pub after_turn : ℕ → Port → Turn → NodeValue → NodeValue
after_turn packets port None node = ticked (filled packets node)
after_turn packets port (Some d) node = befallen (heard_entries node port d.peer d.octets) node

-- after these turns, by what it was at first
abbrev pub node_after : ℕ → NodeValue → List Turn → NodeValue
node_after packets first [] = ticked (filled packets first)
node_after packets first (turn ∷ turns) =
    after_turn packets (port_after turns) turn (node_after packets first turns)

-- all its packets are done
abbrev pub all_done : ℕ → NodeValue → Bool
all_done packets node = (counts_of node).done == packets

-- a packet wasn't done before each of these turns
abbrev pub HadMoreToDo : ℕ → NodeValue → List Turn → Type 0
HadMoreToDo packets first [] = ⊤
HadMoreToDo packets first (turn ∷ turns) =
    IsFalse (all_done packets (node_after packets first turns)) × HadMoreToDo packets first turns

-- What it sent.

-- those of these that go from a port, in their order
abbrev pub sent_among : Port → List Outgoing → List Datagram
sent_among port [] = []
sent_among port (o ∷ sent) =
    only_at port o.port (record { peer = o.to; octets = o.octets } ∷ []) ++ sent_among port sent

-- what a tick sends from a port
abbrev pub sent_by_tick : Port → NodeValue → List Datagram
sent_by_tick port node = sent_among port (map (outgoing node) (due node))

-- the reply to a sender, where there is one
abbrev pub reply_to : Addr → Option (List ℕ) → List Datagram
reply_to peer None = []
reply_to peer (Some octets) = record { peer = peer; octets = octets } ∷ []

-- what it sends from a port in a turn at another or the same, by what it was before: a tick's datagrams, or its reply,
-- which goes from the port that heard
abbrev pub sent_in_turn : ℕ → Port → Port → Turn → NodeValue → List Datagram
sent_in_turn packets port at None node = sent_by_tick port (filled packets node)
sent_in_turn packets port at (Some d) node =
    only_at port at (reply_to d.peer (heeds node at d.peer d.octets).reply)

-- what it sent from a port up to the end of these turns, in its order
abbrev pub sent_from : ℕ → NodeValue → Port → List Turn → List Datagram
sent_from packets first port [] = sent_by_tick port (filled packets first)
sent_from packets first port (turn ∷ turns) = sent_from packets first port turns
    ++ sent_in_turn packets port (port_after turns) turn (node_after packets first turns)
