-- What a loop hands out: its nodes, each of which did and is what it is by what it heard, and the books of its
-- gateways, the history of each of which is a Start and answers to what it heard, each datagram answered once at most.
-- What was heard and sent is what the links carried, where they tell that.
use Rattle.std.specs.Prelude.{◌≡◌, ℕ, ◌+◌, ◌≤◌, List, [], ◌∷◌, Option, Some, length, slice_get}
use Rattle.area_disk.specs.declared.area.Area as areas
use Rattle.gate_journal.specs.Format.{header}
use Rattle.gateway_answer.specs.Answered.{entry_by, no_caller}
use Rattle.gateway_book.specs.Book.{header_of, size_of, value_of}
use Rattle.gateway_answer.specs.Value.{standing_for}
use Rattle.gateway_book.specs.declared.book.Book.{Book}
use Rattle.gw_base.specs.declared.history.HistoryAct.TheVariants as act
use Rattle.gw_base.specs.declared.history.HistoryEntry.{HistoryEntry}
use Rattle.net_link.specs.Datagrams.{Datagram}
use Rattle.net_link.specs.Making.{GrowsBy, LinksState}
use Rattle.node_core.specs.Log.{Began}
use Rattle.node_core.specs.Value.{NodeValue, node_of}
use Rattle.node_core.specs.declared.port.Port.{Port}
use Rattle.node_core.specs.declared.port.Port.TheVariants.{First, Second}
use Rattle.node_run.specs.Running.{HadMoreToDo, Turn, heard_at, node_after, sent_from, turns_at}
use Rattle.session_run.specs.History.{AnswerInTurn, ReplyInTurn}
use Rattle.session_run.specs.Latest.{Jobs}
use Rattle.turn_cell.specs.Placed.{placed}
use Rattle.loop_run.specs.Addresses.{gateway_at, node_at, node_setup}
use Rattle.loop_run.specs.declared.setup.LoopSetup.{LoopSetup}

-- the length of a gateway's area
abbrev pub area_length : ℕ
area_length = 16777216

-- Nodes.

-- the node in this place as it is made: it runs, and nothing has befallen it but its start
abbrev pub node_made : LoopSetup → ℕ → NodeValue
node_made setup place = node_of (node_setup setup place) (Began ∷ [])

-- At the address of a node's port just this was received and sent in these turns, and no more turns were taken.
pub record CarriedAt (setup : LoopSetup) (links links' : LinksState) (place : ℕ) (turns : List Turn) (port : Port)
    : Type 0 where
  pub turns_are : links'.turns (node_at place port) ≡ links.turns (node_at place port) + turns_at port turns
  pub received : GrowsBy (links.received (node_at place port)) (Some (heard_at port turns))
      (links'.received (node_at place port))
  pub sent : GrowsBy (links.sent (node_at place port))
      (Some (sent_from setup.packets (node_made setup place) port turns)) (links'.sent (node_at place port))

-- The node in a place is what it is by what it heard, turn by turn. It ticked once, and once more after each turn in
-- which nothing came; it submitted the packets of a sample, of which all nodes have the same, in their order. It took
-- each turn because a packet wasn't done.
pub record IsLoopNode (setup : LoopSetup) (links links' : LinksState) (place : ℕ) (node : NodeValue) : Type 0 where
  pub turns : List Turn
  pub node_is : node ≡ node_after setup.packets (node_made setup place) turns
  pub most : length turns ≤ setup.turns
  pub had_more : HadMoreToDo setup.packets (node_made setup place) turns
  pub by_first : CarriedAt setup links links' place turns First
  pub by_second : CarriedAt setup links links' place turns Second

-- Gateways.

module _ {A : Type 0} {tells : areas.Ghosts A} where
  -- The book of the gateway in a place: all its history is firm, and nothing ever failed. The history is the Start of
  -- the opening, and entries that answer in turn what was heard at the gateway's address in the loop; what was sent from
  -- there are replies to that, in turn, which rest on the history.
  pub record IsLoopBook (links links' : LinksState) (place : ℕ) (book : Book A tells) : Type 0 where
    pub history : List HistoryEntry
    pub value : value_of book ≡ standing_for (entry_by [] 0 no_caller act.Start ∷ history)
    pub heard : Option (List Datagram)
    pub was_heard : GrowsBy (links.received (gateway_at place)) heard (links'.received (gateway_at place))
    pub jobs : Jobs
    pub answers : AnswerInTurn area_length heard jobs (placed (entry_by [] 0 no_caller act.Start ∷ []) history)
    pub sent : Option (List Datagram)
    pub was_sent : GrowsBy (links.sent (gateway_at place)) sent (links'.sent (gateway_at place))
    pub replies : ReplyInTurn area_length (entry_by [] 0 no_caller act.Start ∷ history) 0 0 heard sent
    pub size : size_of book ≡ area_length
    pub name : header_of book ≡ header area_length (gateway_at place).ip 0

  -- There is a book for each gateway of the loop, and a node for each of its nodes, in their order.
  pub record IsLooped (setup : LoopSetup) (links links' : LinksState) (books : List (Book A tells))
      (nodes : List NodeValue) : Type 0 where
    pub book_count : length books ≡ setup.gateways
    pub node_count : length nodes ≡ setup.nodes
    pub each_book : (place : ℕ) (book : Book A tells) → slice_get books place ≡ Some book →
        IsLoopBook links links' place book
    pub each_node : (place : ℕ) (node : NodeValue) → slice_get nodes place ≡ Some node →
        IsLoopNode setup links links' place node
