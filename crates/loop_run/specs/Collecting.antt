-- What a loop leaves that is taken apart. No contract of a public call cites these.
use Rattle.std.specs.Prelude.{◌≡◌, ◌≢◌, ◌⊎◌, ◌≤◌, [], ◌∷◌, ◌++◌, All, IfSome, Option, None, Some, ⊤}
use Rattle.gw_base.specs.Faults.{Rose}
use Rattle.gw_base.specs.declared.address.Addr.{Addr}
use Rattle.loop_audit.specs.Standing.{AllKeepAll}
use Rattle.net_link.specs.Datagrams.{LinkState, added}
use Rattle.net_link.specs.Making.{GrowsBy, LinksState}
use Rattle.net_link.specs.declared.link.Link as paths
use Rattle.node_run.specs.Outcomes as outcomes
use Rattle.node_run.specs.declared.linked.LinkedNode.{LinkedNode}
use Rattle.node_run.specs.declared.linked.NodeEnd.{NodeEnd}
use Rattle.node_run.specs.declared.linked.NodeEnd.TheVariants as end
use Rattle.session_run.specs.Links.{received_with}
use Rattle.session_run.specs.Running.{AnyOf, HasFailed, HasStopCause, sent_by}
use Rattle.session_run.specs.declared.stop.Stop.{Stop}
use Rattle.session_run.specs.declared.stop.Stop.TheVariants as stop
use Rattle.loop_run.specs.Ending.{AreAllFirm, HandsOut, HasTakenAll}
use Rattle.loop_run.specs.Making.{GrowsOn}
use Rattle.loop_run.specs.Seats.{HasCommitted, LoopBook, LoopGateway}
use Rattle.loop_run.specs.declared.collecting.Collected.{Collected}
use Rattle.loop_run.specs.declared.looped.Looped.{Looped}
use Rattle.loop_run.specs.declared.seat.Seat.{Seat}
use Rattle.loop_run.specs.declared.seat.Seat.TheVariants as seat
use Rattle.loop_run.specs.declared.setup.LoopSetup.{LoopSetup}

-- of an address no more is told
pub record StillAt (at : Addr) (old new : LinksState) : Type 0 where
  pub turns : new.turns at ≡ old.turns at
  pub received : IfSome (new.received at) (λ list. old.received at ≡ Some list)
  pub sent : IfSome (new.sent at) (λ list. old.sent at ≡ Some list)

-- what is told of an address grew by what a link tells
pub record GrewAt (at : Addr) (link : LinkState) (old new : LinksState) : Type 0 where
  pub turns : new.turns at ≡ added (old.turns at) link.turns
  pub received : GrowsBy (old.received at) link.received (new.received at)
  pub sent : GrowsBy (old.sent at) link.sent (new.sent at)

-- Links of these addresses were given back, and no others.
pub record GivesOnly (IsOne : Addr → Type 0) (old new : LinksState) : Type 0 where
  pub on : GrowsOn old new
  pub others : (a : Addr) → (IsOne a → ⊥) → StillAt a old new

-- why a loop stops, by the end of a node
abbrev pub stop_of_node : NodeEnd → Option Stop
stop_of_node end.Done = None
stop_of_node end.Spent = None
stop_of_node end.Link = Some stop.Link
stop_of_node end.NoMemory = Some stop.NoMemory

module _ {L : Type 0} (tells : paths.Ghosts L) where
  abbrev pub first_at : LinkedNode L → Addr
  first_at linked = (tells.state linked.first).address

  abbrev pub second_at : LinkedNode L → Addr
  second_at linked = (tells.state linked.second).address

  -- A node was taken apart: its links were given back, and it is handed out, unless there was no memory.
  pub record LeavesNode (linked : LinkedNode L) (ended : NodeEnd) (old new : LinksState) (was now : Looped)
      (why : Option Stop) : Type 0 where
    pub only : GivesOnly (λ a. (a ≡ first_at linked) ⊎ (a ≡ second_at linked)) old new
    pub first : first_at linked ≢ second_at linked → GrewAt (first_at linked) (tells.state linked.first) old new
    pub second : first_at linked ≢ second_at linked → GrewAt (second_at linked) (tells.state linked.second) old new
    pub failed : outcomes.HasFailed tells linked → Rose old.faults new.faults
    pub nodes : why ≡ None → now.nodes.items ≡ was.nodes.items ++ linked.node ∷ []
    pub books : now.books.items ≡ was.books.items
    pub stops : why ≡ None → stop_of_node ended ≡ None
    pub link : why ≡ Some stop.Link → ended ≡ end.Link
    pub no_clock : why ≢ Some stop.Clock

  -- A gateway was taken apart: its links were given back, and its book is committed and handed out, unless there was no
  -- memory.
  pub record LeavesGateway (g : LoopGateway L) (stops : Option Stop) (old new : LinksState) (was now : Looped)
      (why : Option Stop) : Type 0 where
    pub only : GivesOnly (λ a. a ≡ g.address) old new
    pub received : IfSome (new.received g.address)
        (λ list. received_with tells (old.received g.address) g.links.items ≡ Some list)
    pub sent : GrowsBy (old.sent g.address) (sent_by tells g.links.items) (new.sent g.address)
    pub failed : AnyOf (HasFailed tells) g.links.items → Rose old.faults new.faults
    pub books : why ≡ None →
        (book : LoopBook) × HasCommitted g.book book × (now.books.items ≡ was.books.items ++ book ∷ [])
    pub nodes : now.nodes.items ≡ was.nodes.items
    pub stops_is : why ≡ None → stops ≡ None
    pub link : why ≡ Some stop.Link → stops ≡ Some stop.Link
    pub clock : why ≡ Some stop.Clock → stops ≡ Some stop.Clock

  -- one who took part was taken apart, or never ran
  abbrev pub Leaves : Seat L → LinksState → LinksState → Looped → Looped → Option Stop → Type 0
  Leaves (seat.Node linked) old new was now why = LeavesNode linked end.Done old new was now why
  Leaves (seat.RanNode ended linked) old new was now why = LeavesNode linked ended old new was now why
  Leaves (seat.Gateway g) old new was now why = LeavesGateway g None old new was now why
  Leaves (seat.RanGateway stops g) old new was now why = LeavesGateway g stops old new was now why
  Leaves seat.Empty old new was now why = GivesOnly (λ a. ⊥) old new × (now ≡ was) × (why ≡ None)

  -- the addresses of the links of a node, and of a gateway, were made
  abbrev pub IsKnownNode : LinksState → LinkedNode L → Type 0
  IsKnownNode s linked = s.IsMade (first_at linked) × s.IsMade (second_at linked)

  abbrev pub IsKnownGateway : LinksState → LoopGateway L → Type 0
  IsKnownGateway s g = All (λ link. (tells.state link).address ≡ g.address) g.links.items × s.IsMade g.address

  -- One who took part can be taken apart; where a link is said to have stopped it, one of its links failed, and no
  -- clock did.
  abbrev pub CanLeave : LinksState → Seat L → Type 0
  CanLeave s (seat.Node linked) = IsKnownNode s linked
  CanLeave s (seat.RanNode ended linked) =
      IsKnownNode s linked × (ended ≡ end.Link → outcomes.HasFailed tells linked)
  CanLeave s (seat.Gateway g) = IsKnownGateway s g
  CanLeave s (seat.RanGateway stops g) = IsKnownGateway s g × HasStopCause tells 0 0 g.links.items stops
  CanLeave s seat.Empty = ⊤

-- All have run, and nothing stopped one: the books and the nodes are those of the loop. Each book is firm, no node
-- forgot a packet, and each that has a packet that isn't done took all its turns.
pub record HasCollected (setup : LoopSetup) (old new : LinksState) (collected : Collected) : Type 0 where
  pub hands : HandsOut setup old new collected.looped
  pub firm : AreAllFirm collected.looped.books.items
  pub kept : AllKeepAll collected.looped.nodes.items
  pub taken : HasTakenAll setup old new collected.looped.nodes.items

-- Why it stopped, whether all have run or not.
pub record StoppedBy (old new : LinksState) (collected : Collected) : Type 0 where
  pub later : old.faults ≤ new.faults
  pub link : collected.stop ≡ Some stop.Link → Rose old.faults new.faults
  pub no_clock : collected.stop ≢ Some stop.Clock
