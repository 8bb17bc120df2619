-- The steps of an end. No contract of a public call cites these.
use Rattle.std.specs.Prelude.{◌≡◌, ℕ, ◌≤◌, suc, if◌then◌else◌, List, [], ◌∷◌, length, map, Option, None, Some, IfSome}
use Rattle.gateway_book.specs.Book.{header_of, size_of, value_of}
use Rattle.gateway_answer.specs.Value.{BookValue}
use Rattle.gw_base.specs.declared.packet.PacketId.{PacketId}
use Rattle.loop_audit.specs.Audit.{id_of}
use Rattle.node_core.specs.Counting.{phase_of}
use Rattle.node_core.specs.Value.{NodeValue}
use Rattle.session_run.specs.declared.stop.Stop.{Stop}
use Rattle.session_run.specs.declared.stop.Stop.TheVariants as stop
use Rattle.loop_run.specs.Ending.{CountsAs, is_done}
use Rattle.loop_run.specs.Seats.{LoopBook}
use Rattle.loop_run.specs.declared.end.LoopEnd.{LoopEnd}
use Rattle.loop_run.specs.declared.end.LoopEnd.TheVariants as end
use Rattle.loop_run.specs.declared.ending.Open.{Open}
use Rattle.loop_run.specs.declared.looped.Looped.{Looped}
use Rattle.loop_run.specs.declared.setup.LoopSetup.{LoopSetup}

-- the first of some packets, and how many they are
abbrev pub open_of : List PacketId → Option Open
open_of [] = None
open_of (packet ∷ packets) = Some (record { first = packet; count = suc (length packets) })

-- the packet of a node with this number, where it isn't done
abbrev pub open_at : NodeValue → ℕ → List PacketId
open_at node number =
    if is_done (phase_of node number) then [] else record { node = id_of node; number = number } ∷ []

-- at most so many were found
abbrev pub UpTo : ℕ → Option Open → Type 0
UpTo n found = IfSome found (λ open_ones. open_ones.count ≤ n)

-- what is told of a book
abbrev pub shown : LoopBook → BookValue × (ℕ × List ℕ)
shown book = (value_of book, (size_of book, header_of book))

-- the same is told of each of these books as of those
abbrev pub AreAlike : List LoopBook → List LoopBook → Type 0
AreAlike old new = map shown new ≡ map shown old

-- how a loop ends that stopped
abbrev pub end_by : Stop → LoopEnd
end_by stop.Link = end.Link
end_by stop.Clock = end.Link
end_by stop.NoMemory = end.NoMemory

-- What was collected is handed out with its end; nothing is where there was no memory.
abbrev pub Finishes : LoopSetup → Looped → Looped → LoopEnd → Type 0
Finishes setup was now end.NoMemory = (now.books.items ≡ []) × (now.nodes.items ≡ [])
Finishes setup was now other = CountsAs setup was.books.items was.nodes.items other
    × AreAlike was.books.items now.books.items × (now.nodes.items ≡ was.nodes.items)
