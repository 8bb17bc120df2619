-- Links of one address that are made for a gateway, and given back.
use Rattle.std.specs.Prelude.{◌≡◌, ◌≢◌, ◌⊎◌, ℕ, ◌≤◌, ◌<◌, List, [], ◌∷◌, All, length, Option, None, Some, IfSome}
use Rattle.gw_base.specs.Faults.{Rose}
use Rattle.gw_base.specs.declared.address.Addr.{Addr}
use Rattle.net_link.specs.Datagrams.{Datagram, IsEmpty, LinkState, added, joined}
use Rattle.net_link.specs.Making.{Keeps, LinksState}
use Rattle.net_link.specs.declared.link.Link as paths
use Rattle.net_link.specs.declared.link.LinkStop.{LinkStop}
use Rattle.net_link.specs.declared.link.LinkStop.TheVariants as of_link
use Rattle.session_run.specs.Running.{AnyOf, HasFailed, NoneFailed}
use Rattle.session_run.specs.declared.stop.Stop.{Stop}
use Rattle.session_run.specs.declared.stop.Stop.TheVariants as stop

-- why a gateway stops whose link stopped
abbrev pub stopped_by : LinkStop → Stop
stopped_by of_link.Failed = stop.Link
stopped_by of_link.NoMemory = stop.NoMemory

-- a link of an address that has done nothing, but that a call of it may have failed
pub record IsIdleAt (at : Addr) (link : LinkState) : Type 0 where
  pub address : link.address ≡ at
  pub turns : link.turns ≡ 0
  pub received : IsEmpty link.received
  pub sent : IsEmpty link.sent

module _ {L : Type 0} (tells : paths.Ghosts L) where
  -- Links of an address were made, and what made them keeps the rest. Where a link stopped it, the count of what makes
  -- them rose, or that of a link; where nothing did, it stands.
  pub record HasMade (at : Addr) (old new : LinksState) (made : List L) (stops : Option Stop) : Type 0 where
    pub idle : All (λ link. IsIdleAt at (tells.state link)) made
    pub keeps : Keeps old new
    pub known : 0 < length made → new.IsMade at
    pub later : old.faults ≤ new.faults
    pub cause : stops ≡ Some stop.Link → Rose old.faults new.faults ⊎ AnyOf (HasFailed tells) made
    pub calm : stops ≡ None → new.faults ≡ old.faults
    pub no_clock : stops ≢ Some stop.Clock

  -- what was told of an address, with what these links tell, the last of which was given back first
  abbrev pub turns_with : ℕ → List L → ℕ
  turns_with n [] = n
  turns_with n (link ∷ links) = added (turns_with n links) (tells.state link).turns

  abbrev pub received_with : Option (List Datagram) → List L → Option (List Datagram)
  received_with told [] = told
  received_with told (link ∷ links) = joined (received_with told links) (tells.state link).received

  abbrev pub sent_with : Option (List Datagram) → List L → Option (List Datagram)
  sent_with told [] = told
  sent_with told (link ∷ links) = joined (sent_with told links) (tells.state link).sent

  -- These links of an address were given back, and what is told of the others stays.
  pub record GivesBack (at : Addr) (old new : LinksState) (links : List L) : Type 0 where
    pub turns : new.turns at ≡ turns_with (old.turns at) links
    pub received : IfSome (new.received at) (λ list. received_with (old.received at) links ≡ Some list)
    pub sent : IfSome (new.sent at) (λ list. sent_with (old.sent at) links ≡ Some list)
    pub later : old.faults ≤ new.faults
    pub failed : AnyOf (HasFailed tells) links → Rose old.faults new.faults
    pub calm : NoneFailed tells links → new.faults ≡ old.faults
    pub made : (a : Addr) → old.IsMade a → new.IsMade a
    pub others_turns : (a : Addr) → a ≢ at → new.turns a ≡ old.turns a
    pub others_received : (a : Addr) → a ≢ at → IfSome (new.received a) (λ list. old.received a ≡ Some list)
    pub others_sent : (a : Addr) → a ≢ at → IfSome (new.sent a) (λ list. old.sent a ≡ Some list)
