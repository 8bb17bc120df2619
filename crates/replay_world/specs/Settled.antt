-- A replay in which nothing is left to be made firm or to be written, and what it hands out.
use Rattle.std.specs.Prelude.{◌≡◌, ℕ, suc, Contains, List, [], ◌∷◌, length, Some, slice_get}
use Rattle.area_disk.specs.declared.memory.MemoryArea.{MemoryArea}
use Rattle.cdr_shelf.specs.declared.memory.MemoryShelf.{MemoryShelf}
use Rattle.file_rotate.specs.Items.{Filed}
use Rattle.file_writer.specs.Places.{FilePlace, record_at}
use Rattle.file_writer.specs.Streams.{Settings, stream_record}
use Rattle.gateway_answer.specs.Items.{items_of}
use Rattle.gateway_answer.specs.declared.filing.FiledRecord.{FiledRecord}
use Rattle.once_core.specs.FilePlaces.{placed}
use Rattle.once_core.specs.Gateway.{Gateway}
use Rattle.once_core.specs.Once.{firm_in}
use Rattle.once_core.specs.World.{World}
use Rattle.replay_gateway.specs.AtRest.{IsAllWritten, IsAtRest, IsRead}
use Rattle.replay_gateway.specs.Machine.{Machine}
use Rattle.replay_gateway.specs.Setup.{Setup, files_in}
use Rattle.replay_world.specs.Stands.{nodes_from}
use Rattle.replay_world.specs.Value.{ReplayValue}
use Rattle.replay_world.specs.declared.replay.Played.{Played}

-- Each gateway has a machine.
abbrev pub HaveMachines : ReplayValue → Type 0
HaveMachines v = length v.machines ≡ length v.world.gateways

-- The gateway in a place, if there is one, has all firm and written; and so has each.
abbrev pub IsWritten : ReplayValue → ℕ → Type 0
IsWritten v place = (g : Gateway) (m : Machine) → slice_get v.world.gateways place ≡ Some g →
    slice_get v.machines place ≡ Some m → IsAllWritten (files_in v.setup place) g m

abbrev pub AreWritten : ReplayValue → Type 0
AreWritten v = (place : ℕ) → IsWritten v place

-- Each gateway from a place on is at rest, in order.
abbrev pub EachAtRest : Setup → ℕ → List Gateway → List MemoryArea → List MemoryShelf → Type 0
EachAtRest setup place [] [] [] = Unit {0}
EachAtRest setup place (g ∷ gs) (a ∷ areas) (shelf ∷ shelves) =
    IsAtRest setup place g a shelf × EachAtRest setup (suc place) gs areas shelves
EachAtRest setup place _ _ _ = ⊥

-- All gateways' areas and shelves, and all nodes, of a replay that has nothing left to do.
pub record HasPlayedOut (v : ReplayValue) (played : Played) : Type 0 where
  pub gateways : EachAtRest v.setup 0 v.world.gateways played.areas.items played.shelves.items
  pub nodes : played.nodes.items ≡ nodes_from (length v.world.gateways) 0 v.world.nodes

-- The places of gateways' firm histories are those of the files of these histories' items, of which the shelves' are made:
-- what stands at a place stands there in them, with its octets and in the form of their profile, and they have no other
-- record.
pub record StandInFiles (settings : ℕ → Settings) (w : World) : Type 0 where
  pub there : (gateway : ℕ) (place : FilePlace) (filing : FiledRecord) →
      Contains (placed (settings gateway) (firm_in w gateway)) (place, filing) →
      record_at (settings gateway) (items_of (firm_in w gateway)) place
      ≡ Some (stream_record (settings gateway).profile filing.kind filing.octets filing.moment)
  pub all : (gateway : ℕ) (place : FilePlace) (found : Filed (List ℕ)) →
      record_at (settings gateway) (items_of (firm_in w gateway)) place ≡ Some found →
      (filing : FiledRecord) × Contains (placed (settings gateway) (firm_in w gateway)) (place, filing)

-- What each gateway filed is read in the files of its shelf.
abbrev pub AreRead : (ℕ → Settings) → World → List MemoryShelf → Type 0
AreRead settings w shelves =
    (gateway : ℕ) (shelf : MemoryShelf) → slice_get shelves gateway ≡ Some shelf →
    IsRead (settings gateway) (firm_in w gateway) shelf
