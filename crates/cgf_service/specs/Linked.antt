-- What a gateway that served did with its links, and that neither these failed nor the clock.
use Rattle.std.specs.Prelude.{◌≡◌, ◌≢◌, ℕ, ◌+◌, ◌≤◌, List, Some}
use Rattle.gw_base.specs.declared.address.Addr.{Addr}
use Rattle.net_link.specs.Datagrams.{Datagram}
use Rattle.net_link.specs.Making.{LinksState}
use Rattle.cgf_service.specs.Serving.{address_in}
use Rattle.cgf_service.specs.declared.serving.Serving.{Serving}

-- No more turns were taken at the gateway's address than were asked for, and what is told of other addresses stays.
pub record UsesLinks (of : Serving) (links links' : LinksState) : Type 0 where
  pub most : links'.turns (address_in of) ≤ links.turns (address_in of) + of.turns
  pub others_turns : (a : Addr) → a ≢ address_in of → links'.turns a ≡ links.turns a
  pub others_received : (a : Addr) → a ≢ address_in of →
      (list : List Datagram) → links'.received a ≡ Some list → links.received a ≡ Some list
  pub others_sent : (a : Addr) → a ≢ address_in of →
      (list : List Datagram) → links'.sent a ≡ Some list → links.sent a ≡ Some list

-- A gateway took all its turns of its link, and neither a link failed nor the clock.
pub record TakesAllTurns (of : Serving) (links links' : LinksState) (clock clock' : ℕ) : Type 0 where
  pub turns : links'.turns (address_in of) ≡ links.turns (address_in of) + of.turns
  pub link : links'.faults ≡ links.faults
  pub time : clock' ≡ clock

-- Neither a link failed nor the clock.
abbrev pub StandStill : LinksState → LinksState → ℕ → ℕ → Type 0
StandStill links links' clock clock' = (links'.faults ≡ links.faults) × (clock' ≡ clock)
