-- How a loop ends: by what its nodes count, and else by the audit.
use Rattle.std.specs.Prelude.{◌≡◌, ℕ, ◌+◌, ◌<◌, not, Bool, true, false, List, [], All, Some, filter, length, map, slice_get, ⊤}
use Rattle.std.specs.List.{flat_map, range_with_len}
use Rattle.area_disk.specs.contracts.quiet.QuietAreaArea.TheImpl.{ghosts as quiet_area}
use Rattle.area_disk.specs.declared.quiet.QuietArea.{QuietArea}
use Rattle.gateway_book.specs.Book.{value_of}
use Rattle.gateway_book.specs.Calls.{gateway_counts_of}
use Rattle.gateway_answer.specs.Value.{standing_for}
use Rattle.gateway_book.specs.declared.book.Book.{Book}
use Rattle.gw_base.specs.Faults.{Rose}
use Rattle.gw_base.specs.declared.packet.PacketId.{PacketId}
use Rattle.loop_audit.specs.Audit.{audit_of, id_of}
use Rattle.loop_audit.specs.Standing.{histories_of}
use Rattle.loop_audit.specs.declared.audited.Audited.{Audited}
use Rattle.loop_audit.specs.declared.audited.Audited.TheVariants as audited
use Rattle.net_link.specs.Making.{LinksState}
use Rattle.node_core.specs.Counting.{counts_of, phase_of}
use Rattle.node_core.specs.Value.{NodeValue}
use Rattle.node_core.specs.declared.counts.Phase.{Phase}
use Rattle.node_core.specs.declared.counts.Phase.TheVariants as phase
use Rattle.node_core.specs.declared.port.Port.TheVariants.{First, Second}
use Rattle.loop_run.specs.Addresses.{node_at}
use Rattle.loop_run.specs.Looped.{IsLooped}
use Rattle.loop_run.specs.declared.end.LoopEnd.{LoopEnd}
use Rattle.loop_run.specs.declared.end.LoopEnd.TheVariants as end
use Rattle.loop_run.specs.declared.looped.Looped.{Looped}
use Rattle.loop_run.specs.declared.setup.LoopSetup.{LoopSetup}

-- Packets that aren't done, those too that their node hasn't submitted yet.

abbrev pub is_done : Phase → Bool
is_done phase.Unknown = false
is_done phase.Open = false
is_done phase.Resolved = false
is_done phase.Done = true

-- of so many packets of a node, from 1 on, the numbers of those that aren't done
abbrev pub open_numbers : ℕ → NodeValue → List ℕ
open_numbers packets node =
    filter (λ number. not (is_done (phase_of node number))) (range_with_len 1 packets)

abbrev pub packets_open : ℕ → NodeValue → List PacketId
packets_open packets node = map (λ number. record { node = id_of node; number = number }) (open_numbers packets node)

-- those of all nodes, by node and number
abbrev pub open_packets : ℕ → List NodeValue → List PacketId
open_packets packets nodes = flat_map (packets_open packets) nodes

-- the turns that were taken at the two addresses of the node in a place
abbrev pub turns_of : LinksState → ℕ → ℕ
turns_of links place = links.turns (node_at place First) + links.turns (node_at place Second)

-- Each node with a packet that isn't done took all its turns.
abbrev pub HasTakenAll : LoopSetup → LinksState → LinksState → List NodeValue → Type 0
HasTakenAll setup links links' nodes = (place : ℕ) (node : NodeValue) → slice_get nodes place ≡ Some node →
    0 < length (open_numbers setup.packets node) → turns_of links' place ≡ turns_of links place + setup.turns

-- The end.

-- each of these books stands for a history, all of it firm
abbrev pub AreAllFirm : List (Book QuietArea quiet_area) → Type 0
AreAllFirm books = All (λ book. value_of book ≡ standing_for (value_of book).firm) books

module _ (books : List (Book QuietArea quiet_area)) (nodes : List NodeValue) where
  -- these are the counts of all nodes and gateways, in their order
  abbrev pub TellsCounts : LoopEnd → Type 0
  TellsCounts (end.Fine node_counts gateway_counts) = (node_counts.items ≡ map counts_of nodes)
      × (gateway_counts.items ≡ map (λ book. gateway_counts_of (value_of book)) books)
  TellsCounts (end.Wrong packet places wanted) = ⊥
  TellsCounts (end.Unfinished turns packet count) = ⊥
  TellsCounts end.Link = ⊥
  TellsCounts end.NoMemory = ⊤

  -- what the audit finds of them
  abbrev pub verdict : Audited
  verdict = audit_of (histories_of books) nodes

module _ (setup : LoopSetup) (books : List (Book QuietArea quiet_area)) (nodes : List NodeValue) where
  -- the packets that aren't done
  abbrev pub still_open : List PacketId
  still_open = open_packets setup.packets nodes

  -- Packets that aren't done decide first, then the audit.
  abbrev pub CountsAs : LoopEnd → Type 0
  CountsAs (end.Fine node_counts gateway_counts) = (still_open ≡ []) × (verdict books nodes ≡ audited.Fine)
      × TellsCounts books nodes (end.Fine node_counts gateway_counts)
  CountsAs (end.Wrong packet places wanted) =
      (still_open ≡ []) × (verdict books nodes ≡ audited.Wrong packet places wanted)
  CountsAs (end.Unfinished turns packet count) = (turns ≡ setup.turns)
      × (slice_get still_open 0 ≡ Some packet) × (count ≡ length still_open)
  CountsAs end.Link = ⊥
  CountsAs end.NoMemory = ⊤

module _ (setup : LoopSetup) (links links' : LinksState) (looped : Looped) where
  -- the books and the nodes of the loop are handed out
  abbrev pub HandsOut : Type 0
  HandsOut = IsLooped setup links links' looped.books.items looped.nodes.items

  -- nothing is handed out
  abbrev pub HandsNone : Type 0
  HandsNone = (looped.books.items ≡ []) × (looped.nodes.items ≡ [])

  -- What is handed out decides the end, and a node with a packet that isn't done took all its turns. A link that
  -- failed, and want of memory, end a loop that hands out nothing.
  abbrev pub EndsAs : LoopEnd → Type 0
  EndsAs (end.Fine node_counts gateway_counts) = HandsOut
      × CountsAs setup looped.books.items looped.nodes.items (end.Fine node_counts gateway_counts)
  EndsAs (end.Wrong packet places wanted) = HandsOut
      × CountsAs setup looped.books.items looped.nodes.items (end.Wrong packet places wanted)
  EndsAs (end.Unfinished turns packet count) = HandsOut
      × CountsAs setup looped.books.items looped.nodes.items (end.Unfinished turns packet count)
      × HasTakenAll setup links links' looped.nodes.items
  EndsAs end.Link = HandsNone × Rose links.faults links'.faults
  EndsAs end.NoMemory = HandsNone
