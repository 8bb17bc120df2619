-- What comes of letting a node run over two links.
use Rattle.std.specs.Prelude.{◌≡◌, ◌⊎◌, ℕ, ◌+◌, ◌≤◌, IsFalse, IsTrue, List, IfSome, ⊤}
use Rattle.gw_base.specs.Faults.{Rose}
use Rattle.net_link.specs.Datagrams.{IsNewAt, LinkState}
use Rattle.net_link.specs.declared.link.Link.{Ghosts}
use Rattle.node_core.specs.Value.{NodeValue}
use Rattle.node_core.specs.declared.port.Port.{Port}
use Rattle.node_core.specs.declared.port.Port.TheVariants.{First, Second}
use Rattle.node_run.specs.Running.{HadMoreToDo, Turn, all_done, heard_at, node_after, sent_from, turns_at}
use Rattle.node_run.specs.declared.linked.LinkedNode.{LinkedNode}
use Rattle.node_run.specs.declared.linked.NodeEnd.{NodeEnd}
use Rattle.node_run.specs.declared.linked.NodeEnd.TheVariants as end
use Rattle.node_run.specs.declared.linked.Work.{Work}

-- A link carried what a node heard at its port in these turns and what it sent from there, where it tells that; it took
-- just the turns at its port.
pub record Carried (packets : ℕ) (first : NodeValue) (turns : List Turn) (port : Port) (link : LinkState) : Type 0 where
  pub turns_are : link.turns ≡ turns_at port turns
  pub received : IfSome link.received (λ list. list ≡ heard_at port turns)
  pub sent : IfSome link.sent (λ list. list ≡ sent_from packets first port turns)

module _ {L : Type 0} (tells : Ghosts L) where
  -- each link is as it was made
  pub record AreNewLinks (linked : LinkedNode L) : Type 0 where
    pub first : IsNewAt (tells.state linked.first).address (tells.state linked.first)
    pub second : IsNewAt (tells.state linked.second).address (tells.state linked.second)

  -- The node is what it is by what it heard in these turns, and its links carried that and what it sent. It took each
  -- turn because a packet wasn't done.
  pub record HasRun (packets : ℕ) (first : NodeValue) (turns : List Turn) (linked : LinkedNode L) : Type 0 where
    pub node_is : linked.node ≡ node_after packets first turns
    pub by_first : Carried packets first turns First (tells.state linked.first)
    pub by_second : Carried packets first turns Second (tells.state linked.second)
    pub had_more : HadMoreToDo packets first turns

  -- for some turns
  abbrev pub RanSo : ℕ → NodeValue → LinkedNode L → Type 0
  RanSo packets first linked = (turns : List Turn) × HasRun packets first turns linked

  -- the links took so many turns together
  abbrev pub turns_of : LinkedNode L → ℕ
  turns_of linked = (tells.state linked.first).turns + (tells.state linked.second).turns

  -- the count of faults of one of the links rose since it was made
  abbrev pub HasFailed : LinkedNode L → Type 0
  HasFailed linked = Rose 0 (tells.state linked.first).faults ⊎ Rose 0 (tells.state linked.second).faults

  -- How the run ended: all packets are done; or one isn't, and all turns were taken; or a link failed; or there was no
  -- memory.
  abbrev pub EndsSo : Work → NodeValue → LinkedNode L → NodeEnd → Type 0
  EndsSo work first linked end.Done =
      RanSo work.packets first linked × IsTrue (all_done work.packets linked.node) × (turns_of linked ≤ work.turns)
  EndsSo work first linked end.Spent =
      RanSo work.packets first linked × IsFalse (all_done work.packets linked.node) × (turns_of linked ≡ work.turns)
  EndsSo work first linked end.Link = HasFailed linked
  EndsSo work first linked end.NoMemory = ⊤

  -- the links stay at their addresses
  pub record StaysAt (old new : LinkedNode L) : Type 0 where
    pub first : (tells.state new.first).address ≡ (tells.state old.first).address
    pub second : (tells.state new.second).address ≡ (tells.state old.second).address
