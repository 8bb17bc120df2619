-- What is made before a loop runs. No contract of a public call cites these.
use Rattle.std.specs.Prelude.{◌≡◌, ◌≢◌, ℕ, ◌+◌, ◌<◌, ◌≤◌, List, [], ◌∷◌, Option, None, Some, length}
use Rattle.gw_base.specs.Faults.{Rose}
use Rattle.gw_base.specs.declared.address.Addr.{Addr}
use Rattle.net_link.specs.Datagrams.{IsNewAt}
use Rattle.net_link.specs.Making.{Keeps, LinksState}
use Rattle.net_link.specs.declared.link.Link as paths
use Rattle.node_core.specs.Log.{Began}
use Rattle.node_core.specs.Value.{node_of}
use Rattle.node_core.specs.declared.port.Port.TheVariants.{First, Second}
use Rattle.node_run.specs.declared.linked.LinkedNode.{LinkedNode}
use Rattle.session_run.specs.declared.stop.Stop.{Stop}
use Rattle.session_run.specs.declared.stop.Stop.TheVariants as stop
use Rattle.loop_run.specs.Addresses.{gateway_at, node_at, node_ip}
use Rattle.loop_run.specs.Seats.{AllSit, IsGatewayAt, LoopGateway}
use Rattle.loop_run.specs.declared.seat.Seat.{Seat}
use Rattle.loop_run.specs.declared.setup.LoopSetup.{LoopSetup}

-- addresses that were made are made still, and the count of faults doesn't fall
pub record GrowsOn (old new : LinksState) : Type 0 where
  pub made : (a : Addr) → old.IsMade a → new.IsMade a
  pub later : old.faults ≤ new.faults

-- Nothing was made, and what was made on the way was given back. The count of faults rose where a link failed.
pub record FailsToMake (old new : LinksState) (why : Stop) : Type 0 where
  pub on : GrowsOn old new
  pub cause : why ≡ stop.Link → Rose old.faults new.faults
  pub no_clock : why ≢ stop.Clock

-- something was made, and of no address is more told
pub record MakesOn (old new : LinksState) : Type 0 where
  pub keeps : Keeps old new
  pub later : old.faults ≤ new.faults

-- the addresses of those who sit in so many places are made
pub record AreKnown (setup : LoopSetup) (count : ℕ) (now : LinksState) : Type 0 where
  pub nodes : (place : ℕ) → place < count → place < setup.nodes →
      now.IsMade (node_at place First) × now.IsMade (node_at place Second)
  pub gateways : (place : ℕ) → setup.nodes + place < count → now.IsMade (gateway_at place)

module _ {L : Type 0} (tells : paths.Ghosts L) where
  -- A node was made with its links.
  pub record HasMadeNode (gateways : List Addr) (place : ℕ) (old new : LinksState) (linked : LinkedNode L)
      : Type 0 where
    pub node_is : linked.node
        ≡ node_of (record { address = node_ip place; gateways = gateways; counter = 1 }) (Began ∷ [])
    pub first : IsNewAt (node_at place First) (tells.state linked.first)
    pub second : IsNewAt (node_at place Second) (tells.state linked.second)
    pub known : new.IsMade (node_at place First) × new.IsMade (node_at place Second)
    pub on : MakesOn old new

  -- A gateway was made with its links.
  pub record HasMadeGateway (place : ℕ) (old new : LinksState) (g : LoopGateway L) : Type 0 where
    pub is : IsGatewayAt tells place g
    pub known : new.IsMade (gateway_at place)
    pub on : MakesOn old new

  -- Those who sit in these seats were made, one after the other.
  pub record HasMadeSeats (setup : LoopSetup) (old new : LinksState) (seats : List (Seat L)) : Type 0 where
    pub sit : AllSit tells setup seats
    pub known : AreKnown setup (length seats) new
    pub on : GrowsOn old new

  -- The same up to so many seats, unless something stopped.
  pub record MakesSeats (setup : LoopSetup) (count : ℕ) (old new : LinksState) (seats : List (Seat L))
      (why : Option Stop) : Type 0 where
    pub has : HasMadeSeats setup old new seats
    pub all : why ≡ None → (length seats ≡ count) × Keeps old new
    pub cause : why ≡ Some stop.Link → Rose old.faults new.faults
    pub no_clock : why ≢ Some stop.Clock
