-- What links over UDP hear, and what makes them.
use Rattle.std.specs.Prelude.{ℕ, ◌≡◌, ◌≤◌, List, None, Ok, Result}
use Rattle.gw_base.specs.declared.address.Addr.{Addr}
use Rattle.gw_base.specs.declared.fault.Failed.{Failed}
use Rattle.net_link.specs.declared.link.Heard.{Heard}
use Rattle.net_link.specs.declared.link.Heard.TheVariants.{Datagram}
use Rattle.net_link.specs.declared.turns.Tally.{Tally}
use Rattle.net_link.specs.Making.{LinksState}
use Rattle.net_link.specs.Steps.{most_octets}
use Rattle.net_link.specs.Turns.{IsListed, turns_at}

-- a datagram that is heard is no longer than one may be
abbrev pub HearsShort : Result Heard Failed → Type 0
HearsShort result = (from : Addr) (n : ℕ) → result ≡ Ok (Datagram from n) → n ≤ most_octets

-- The addresses that links were made at, with the turns of the links taken back, and the faults.
pub record UdpNet : Type 0 where
  pub tallies : List Tally
  pub faults : ℕ

-- what it tells
abbrev pub told_by : UdpNet → LinksState
told_by net = record {
  faults = net.faults;
  IsMade = λ at. IsListed at net.tallies;
  turns = λ at. turns_at at net.tallies;
  received = λ at. None;
  sent = λ at. None;
}
