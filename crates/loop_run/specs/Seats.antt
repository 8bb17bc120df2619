-- The seats of a loop: nodes and gateways before they run, and after. No contract of a public call cites these.
use Rattle.std.specs.Prelude.{◌≡◌, ℕ, ◌-◌, ◌<◌, ◌≤◌, true, false, List, [], ◌∷◌, ◌++◌, Option, Some, slice_get}
use Rattle.area_disk.specs.contracts.quiet.QuietAreaArea.TheImpl.{ghosts as quiet_area}
use Rattle.area_disk.specs.declared.quiet.QuietArea.{QuietArea}
use Rattle.cdr_shelf.specs.contracts.quiet.QuietShelfShelf.TheImpl.{ghosts as quiet_shelf}
use Rattle.cdr_shelf.specs.declared.quiet.QuietShelf.{QuietShelf}
use Rattle.gate_journal.specs.Format.{header}
use Rattle.gateway_answer.specs.Answered.{entry_by, no_caller}
use Rattle.gateway_book.specs.Book.{header_of, size_of, value_of}
use Rattle.gateway_book.specs.Turning.{facts_of}
use Rattle.gateway_answer.specs.Value.{BookValue, history_of, standing_for, torn_of}
use Rattle.gateway_book.specs.declared.book.Book.{Book}
use Rattle.gw_base.specs.Owes.{Begins}
use Rattle.gw_base.specs.declared.history.HistoryAct.TheVariants as act
use Rattle.gw_base.specs.declared.history.HistoryEntry.{HistoryEntry}
use Rattle.net_link.specs.Datagrams.{IsNewAt}
use Rattle.net_link.specs.declared.link.Link as paths
use Rattle.node_core.specs.declared.port.Port.TheVariants.{First, Second}
use Rattle.node_run.specs.Outcomes.{EndsSo}
use Rattle.node_run.specs.declared.linked.LinkedNode.{LinkedNode}
use Rattle.node_run.specs.declared.linked.NodeEnd.{NodeEnd}
use Rattle.node_run.specs.declared.linked.Work.{Work}
use Rattle.node_session.specs.Writing.{IsWriterOf}
use Rattle.session_run.specs.History.{GoesOnUntil}
use Rattle.session_run.specs.Running.{AreFiveOf, AreNewAt, HasStopCause, HaveReplied, StaysAs, heard_by}
use Rattle.session_run.specs.declared.gateway.Gateway.{Gateway}
use Rattle.session_run.specs.declared.stop.Stop.{Stop}
use Rattle.loop_run.specs.Addresses.{gateway_at, node_at}
use Rattle.loop_run.specs.Looped.{area_length, node_made}
use Rattle.loop_run.specs.declared.seat.Seat.{Seat}
use Rattle.loop_run.specs.declared.seat.Seat.TheVariants as seat
use Rattle.loop_run.specs.declared.setup.LoopSetup.{LoopSetup}

-- a book, and a gateway, of a loop
abbrev pub LoopBook : Type 0
LoopBook = Book QuietArea quiet_area

abbrev pub LoopGateway : Type 0 → Type 0
LoopGateway L = Gateway QuietArea QuietShelf L quiet_area quiet_shelf

abbrev pub work_of : LoopSetup → Work
work_of setup = record { packets = setup.packets; turns = setup.turns }

-- the history of a book that was just opened
abbrev pub begun : List HistoryEntry
begun = entry_by [] 0 no_caller act.Start ∷ []

-- A book on an area of zeros whose Start is firm.
pub record IsBegun (place : ℕ) (book : LoopBook) : Type 0 where
  pub value : value_of book ≡ standing_for begun
  pub size : size_of book ≡ area_length
  pub name : header_of book ≡ header area_length (gateway_at place).ip 0

-- A commit left this of what a book stood for: a history, all of it firm, that begins with what was firm, and of which
-- all stood; the whole, where the book wasn't broken.
pub record IsCommitted (old new : BookValue) : Type 0 where
  pub history : List HistoryEntry
  pub value : new ≡ standing_for history
  pub more : Begins old.firm history
  pub within : Begins history (history_of old ++ torn_of old)
  pub whole : old.is_broken ≡ false → history ≡ old.firm ++ old.rest

pub record HasCommitted (old new : LoopBook) : Type 0 where
  pub value : IsCommitted (value_of old) (value_of new)
  pub size : size_of new ≡ size_of old
  pub name : header_of new ≡ header_of old

module _ {L : Type 0} (tells : paths.Ghosts L) where
  -- The node in a place, with a new link at the address of each of its ports.
  pub record IsNodeAt (setup : LoopSetup) (place : ℕ) (linked : LinkedNode L) : Type 0 where
    pub node_is : linked.node ≡ node_made setup place
    pub first : IsNewAt (node_at place First) (tells.state linked.first)
    pub second : IsNewAt (node_at place Second) (tells.state linked.second)

  -- The gateway in a place, with five new links of its address.
  pub record IsGatewayAt (place : ℕ) (g : LoopGateway L) : Type 0 where
    pub book : IsBegun place g.book
    pub address : g.address ≡ gateway_at place
    pub links : AreNewAt tells g.address g.links.items
    pub writer : IsWriterOf true (value_of g.book).firm g.writer

  -- A node that ran in a place.
  pub record HasRunAt (setup : LoopSetup) (place : ℕ) (ended : NodeEnd) (linked : LinkedNode L) : Type 0 where
    pub ends : EndsSo tells (work_of setup) (node_made setup place) linked ended
    pub first : (tells.state linked.first).address ≡ node_at place First
    pub second : (tells.state linked.second).address ≡ node_at place Second

  -- A gateway that served in a place.
  pub record HasServedAt (place : ℕ) (stops : Option Stop) (g : LoopGateway L) : Type 0 where
    pub start : LoopBook
    pub begun : IsBegun place start
    pub address : g.address ≡ gateway_at place
    pub last : Option ℕ
    pub history : GoesOnUntil (heard_by tells g.links.items) (facts_of start) (facts_of g.book) last
    pub replies : HaveReplied tells (heard_by tells g.links.items) (facts_of start) (facts_of g.book) g.links.items
    pub stays : StaysAs (facts_of start) (facts_of g.book)
    pub links : AreFiveOf tells (gateway_at place) g.links.items
    pub cause : HasStopCause tells 0 0 g.links.items stops

  -- who sits in a place: the nodes first, and then the gateways
  abbrev pub SitsAt : LoopSetup → ℕ → Seat L → Type 0
  SitsAt setup place (seat.Node linked) = (place < setup.nodes) × IsNodeAt setup place linked
  SitsAt setup place (seat.Gateway g) = (setup.nodes ≤ place) × IsGatewayAt (place - setup.nodes) g
  SitsAt setup place (seat.RanNode ended linked) = ⊥
  SitsAt setup place (seat.RanGateway stops g) = ⊥
  SitsAt setup place seat.Empty = ⊥

  -- who sat in a place, once all have run
  abbrev pub RanAt : LoopSetup → ℕ → Seat L → Type 0
  RanAt setup place (seat.RanNode ended linked) = (place < setup.nodes) × HasRunAt setup place ended linked
  RanAt setup place (seat.RanGateway stops g) = (setup.nodes ≤ place) × HasServedAt (place - setup.nodes) stops g
  RanAt setup place (seat.Node linked) = ⊥
  RanAt setup place (seat.Gateway g) = ⊥
  RanAt setup place seat.Empty = ⊥

  -- each of a list, by its place
  abbrev pub AllSit : LoopSetup → List (Seat L) → Type 0
  AllSit setup seats = (place : ℕ) (s : Seat L) → slice_get seats place ≡ Some s → SitsAt setup place s

  abbrev pub AllRan : LoopSetup → List (Seat L) → Type 0
  AllRan setup seats = (place : ℕ) (s : Seat L) → slice_get seats place ≡ Some s → RanAt setup place s
