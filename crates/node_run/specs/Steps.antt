-- The steps of a run: what a tick and a turn do to a node and its links. No contract of a public call cites them.
use Rattle.std.specs.Prelude.{◌≡◌, ℕ, ◌+◌, ◌<◌, ◌^◌, true, IsFalse, IsTrue, List, ◌++◌, Option, option_map, Result, Err, ⊤}
use Rattle.gw_base.specs.declared.fault.Failed.{Failed}
use Rattle.net_link.specs.Datagrams.{Datagram, LinkState}
use Rattle.net_link.specs.Steps.{Receives}
use Rattle.net_link.specs.declared.link.Heard.{Heard}
use Rattle.net_link.specs.declared.link.Link.{Ghosts}
use Rattle.net_link.specs.declared.link.LinkStop.{LinkStop}
use Rattle.net_link.specs.declared.link.LinkStop.TheVariants as stop
use Rattle.node_core.specs.Hearing.{heard_entries, heeds}
use Rattle.node_core.specs.Value.{NodeValue, befallen}
use Rattle.node_core.specs.declared.port.Port.{Port}
use Rattle.node_core.specs.declared.port.Port.TheVariants.{First, Second}
use Rattle.node_run.specs.Outcomes.{HasFailed, HasRun, turns_of}
use Rattle.node_run.specs.Packets.{filled}
use Rattle.node_run.specs.Running.{Turn, after_turn, all_done, counted_at, datagrams_of, only_at, port_after, reply_to, sent_by_tick, sent_in_turn, ticked}
use Rattle.node_run.specs.declared.linked.LinkedNode.{LinkedNode}
use Rattle.node_run.specs.declared.linked.NodeEnd.{NodeEnd}
use Rattle.node_run.specs.declared.linked.NodeEnd.TheVariants as end
use Rattle.node_run.specs.declared.running.NodeRun.{NodeRun}

-- a list that is told, with these at its end
abbrev pub with_all : List Datagram → Option (List Datagram) → Option (List Datagram)
with_all more told = option_map (λ list. list ++ more) told

-- these datagrams were sent, and nothing else was done
abbrev pub HasSent : List Datagram → LinkState → LinkState → Type 0
HasSent more old new = new ≡ record old { sent = with_all more old.sent }

-- how a run ends whose link stopped
abbrev pub end_by : LinkStop → NodeEnd
end_by stop.Failed = end.Link
end_by stop.NoMemory = end.NoMemory

-- what a turn at one port does to the link of a port, by what the node was before
pub record TurnsLink (packets : ℕ) (node : NodeValue) (turn : Turn) (at port : Port)
    (old new : LinkState) : Type 0 where
  pub turns : new.turns ≡ counted_at port at old.turns
  pub received : new.received ≡ with_all (only_at port at (datagrams_of turn)) old.received
  pub sent : new.sent ≡ with_all (sent_in_turn packets port at turn node) old.sent
  pub address : new.address ≡ old.address

module _ {L : Type 0} (tells : Ghosts L) where
  -- the node runs, and each link took few enough turns
  pub record CanRun (linked : LinkedNode L) : Type 0 where
    pub runs : linked.node.is_running ≡ true
    pub few : turns_of tells linked < 2 ^ 63

  -- from each port these were sent, and the links did nothing else
  pub record HaveSent (first second : List Datagram) (old new : LinkedNode L) : Type 0 where
    pub by_first : HasSent first (tells.state old.first) (tells.state new.first)
    pub by_second : HasSent second (tells.state old.second) (tells.state new.second)

  -- A tick, once the node took the packets that it takes: what is due was sent, from its port each.
  pub record HasTicked (packets : ℕ) (old new : LinkedNode L) : Type 0 where
    pub node_is : new.node ≡ ticked (filled packets old.node)
    pub sent : HaveSent (sent_by_tick First (filled packets old.node)) (sent_by_tick Second (filled packets old.node))
        old new

  -- Waiting at a port came to this; the other link did nothing.
  abbrev pub HasReceived : Port → List ℕ → Result Heard Failed → LinkedNode L → LinkedNode L → Type 0
  HasReceived First into result old new = Receives (tells.state old.first) into result (tells.state new.first)
      × (tells.state new.second ≡ tells.state old.second)
  HasReceived Second into result old new = Receives (tells.state old.second) into result (tells.state new.second)
      × (tells.state new.first ≡ tells.state old.first)

  -- The node heard a datagram at a port, and its reply was sent from there.
  pub record HasHeard (at : Port) (d : Datagram) (old new : LinkedNode L) : Type 0 where
    pub node_is : new.node ≡ befallen (heard_entries old.node at d.peer d.octets) old.node
    pub sent : HaveSent (only_at First at (reply_to d.peer (heeds old.node at d.peer d.octets).reply))
        (only_at Second at (reply_to d.peer (heeds old.node at d.peer d.octets).reply)) old new

  -- A turn at a port.
  pub record HasTurned (packets : ℕ) (at : Port) (turn : Turn) (old new : LinkedNode L) : Type 0 where
    pub node_is : new.node ≡ after_turn packets at turn old.node
    pub by_first : TurnsLink packets old.node turn at First (tells.state old.first) (tells.state new.first)
    pub by_second : TurnsLink packets old.node turn at Second (tells.state old.second) (tells.state new.second)

  -- So far the node has run: what comes next is a turn at this port, and of so many turns these are left.
  pub record RunsOn (packets : ℕ) (first : NodeValue) (n : ℕ) (run : NodeRun L) : Type 0 where
    pub turns : List Turn
    pub has_run : HasRun tells packets first turns run.linked
    pub port_is : run.port ≡ port_after turns
    pub left_are : turns_of tells run.linked + run.left ≡ n

  -- how the turns of a run ended
  abbrev pub TurnsEnd : ℕ → NodeValue → ℕ → NodeRun L → NodeEnd → Type 0
  TurnsEnd packets first n run end.Done = RunsOn packets first n run × IsTrue (all_done packets run.linked.node)
  TurnsEnd packets first n run end.Spent =
      RunsOn packets first n run × IsFalse (all_done packets run.linked.node) × (run.left ≡ 0)
  TurnsEnd packets first n run end.Link = HasFailed tells run.linked
  TurnsEnd packets first n run end.NoMemory = ⊤

  -- why a step stopped: a link failed, or there was no memory
  abbrev pub StopsBy : {X : Type 0} → Result X LinkStop → LinkedNode L → Type 0
  StopsBy result linked = result ≡ Err stop.Failed → HasFailed tells linked
