-- What is asked of books and nodes that are audited.
use Rattle.std.specs.Prelude.{◌≡◌, ◌≤◌, List, All, length, map}
use Rattle.std.specs.List.{range_with_len}
use Rattle.gateway_book.specs.Book.{value_of}
use Rattle.gateway_answer.specs.Value.{history_of}
use Rattle.gateway_book.specs.declared.book.Book.{Book}
use Rattle.area_disk.specs.declared.area.Area.{Ghosts}
use Rattle.gw_base.specs.declared.history.HistoryEntry.{HistoryEntry}
use Rattle.node_core.specs.Packets.{PacketState}
use Rattle.node_core.specs.Value.{NodeValue}

-- the histories that books stand for
abbrev pub histories_of : {A : Type 0} {tells : Ghosts A} → List (Book A tells) → List (List HistoryEntry)
histories_of books = map (λ book. history_of (value_of book)) books

-- A node keeps each packet that was ever submitted to it, under its number, as one does that was never halted. And none
-- has more copies than a node may have gateways.
pub record KeepsAll (node : NodeValue) : Type 0 where
  pub numbers : map (λ (packet : PacketState). packet.number) node.packets ≡ range_with_len 1 node.submissions
  pub few : All (λ (packet : PacketState). length packet.copies ≤ 255) node.packets

abbrev pub AllKeepAll : List NodeValue → Type 0
AllKeepAll nodes = All KeepsAll nodes
