-- What makes links and takes them back does.
use Rattle.std.specs.Prelude.{ℕ, ◌+◌, ◌-◌, ◌^◌, ◌≡◌, ◌≢◌, ◌≤◌, ◌⊎◌, List, Option, Some, IfSome, Result, Ok, Err}
use Rattle.gw_base.specs.Faults.{Rose}
use Rattle.gw_base.specs.declared.address.Addr.{Addr}
use Rattle.net_link.specs.declared.link.LinkStop.{LinkStop}
use Rattle.net_link.specs.declared.link.LinkStop.TheVariants as stop
use Rattle.net_link.specs.Datagrams.{Datagram, LinkState, added, joined}

-- What all links of an address did that were taken back: their turns, and what they received and sent, where it is
-- told. A link may be taken back where its address was made. The faults are those of all links.
pub record LinksState : Type 1 where
  pub faults : ℕ
  pub IsMade : Addr → Type 0
  pub turns : Addr → ℕ
  pub received : Addr → Option (List Datagram)
  pub sent : Addr → Option (List Datagram)

-- the turns and the lists stay, and an address that was made
pub record Keeps (old new : LinksState) : Type 0 where
  pub made : (a : Addr) → old.IsMade a → new.IsMade a
  pub turns : (a : Addr) → new.turns a ≡ old.turns a
  pub received : (a : Addr) → new.received a ≡ old.received a
  pub sent : (a : Addr) → new.sent a ≡ old.sent a

-- A link is made at an address, or not.
pub record Makes (R : Type 0) (old : LinksState) (at : Addr) (result : Result R LinkStop) (new : LinksState) :
    Type 0 where
  pub keeps : Keeps old new
  pub made : (link : R) → result ≡ Ok link → new.IsMade at × (new.faults ≡ old.faults)
  pub failed : result ≡ Err stop.Failed → (old.faults ≤ new.faults) × Rose old.faults new.faults
  pub no_memory : result ≡ Err stop.NoMemory → new.faults ≡ old.faults

-- a list grows by another, where it is told afterwards
abbrev pub GrowsBy : Option (List Datagram) → Option (List Datagram) → Option (List Datagram) → Type 0
GrowsBy old more new = IfSome new (λ list. joined old more ≡ Some list)

-- a count rose by at least so much, or to its last value, which counts as risen
abbrev pub RoseBy : ℕ → ℕ → ℕ → Type 0
RoseBy before more after = (before + more ≤ after) ⊎ (after ≡ 2 ^ 64 - 1)

-- A link is taken back: what is told at its address grows by the link's, and the faults by at least its faults. One
-- that never failed adds none.
pub record TakesBack (old : LinksState) (link : LinkState) (new : LinksState) : Type 0 where
  pub never_falls : old.faults ≤ new.faults
  pub faults : RoseBy old.faults link.faults new.faults
  pub stood : link.faults ≡ 0 → new.faults ≡ old.faults
  pub made : (a : Addr) → old.IsMade a → new.IsMade a
  pub turns : new.turns link.address ≡ added (old.turns link.address) link.turns
  pub received : GrowsBy (old.received link.address) link.received (new.received link.address)
  pub sent : GrowsBy (old.sent link.address) link.sent (new.sent link.address)
  pub others_turns : (a : Addr) → a ≢ link.address → new.turns a ≡ old.turns a
  pub others_received : (a : Addr) → a ≢ link.address → IfSome (new.received a) (λ list. old.received a ≡ Some list)
  pub others_sent : (a : Addr) → a ≢ link.address → IfSome (new.sent a) (λ list. old.sent a ≡ Some list)
