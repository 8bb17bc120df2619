-- What one call on a link does.
use Rattle.std.specs.Prelude.{ℕ, ◌≡◌, ◌≤◌, List, take, Result, Ok, Err, OnOk, OnErr}
use Rattle.gw_base.specs.Faults.{Rose, next_count}
use Rattle.gw_base.specs.declared.address.Addr.{Addr}
use Rattle.gw_base.specs.declared.fault.Failed.{Failed}
use Rattle.net_link.specs.declared.link.Heard.{Heard}
use Rattle.net_link.specs.declared.link.Heard.TheVariants as heard
use Rattle.net_link.specs.declared.link.LinkStop.{LinkStop}
use Rattle.net_link.specs.declared.link.LinkStop.TheVariants as stop
use Rattle.net_link.specs.Datagrams.{LinkState, with_one}

-- the most octets of a datagram over UDP and IPv4
abbrev pub most_octets : ℕ
most_octets = 65507

-- whatever comes of a call: the address stays, and the faults never fall
pub record Follows (old new : LinkState) : Type 0 where
  pub address : new.address ≡ old.address
  pub faults : old.faults ≤ new.faults

-- the link failed: its count of faults rose, and all else is as before
pub record HasFailed (old new : LinkState) : Type 0 where
  pub never_falls : old.faults ≤ new.faults
  pub rose : Rose old.faults new.faults
  pub rest : new ≡ record old { faults = new.faults }

-- a call that may stop: the link failed, or it is as before where there was no memory
pub record Stops (R : Type 0) (old : LinkState) (result : Result R LinkStop) (new : LinkState) : Type 0 where
  pub follows : Follows old new
  pub failed : result ≡ Err stop.Failed → HasFailed old new
  pub no_memory : result ≡ Err stop.NoMemory → new ≡ old

-- a datagram is sent, or not; what becomes of it on the way nobody knows
pub record Sends (old : LinkState) (to : Addr) (octets : List ℕ) (result : Result Unit LinkStop) (new : LinkState) :
    Type 0 where
  pub ok : OnOk result (new ≡ record old { sent = with_one (record { peer = to; octets = octets }) old.sent })
  pub stops : Stops Unit old result new

-- a datagram is received into the front of a buffer, or none comes for a while
pub record Receives (old : LinkState) (into : List ℕ) (result : Result Heard Failed) (new : LinkState) : Type 0 where
  pub datagram : (from : Addr) (n : ℕ) → result ≡ Ok (heard.Datagram from n) → (n ≤ most_octets) × (new ≡ record old {
    turns = next_count old.turns;
    received = with_one (record { peer = from; octets = take n into }) old.received;
  })
  pub quiet : result ≡ Ok heard.Quiet → new ≡ record old { turns = next_count old.turns }
  pub failed : OnErr result (HasFailed old new)
  pub follows : Follows old new
