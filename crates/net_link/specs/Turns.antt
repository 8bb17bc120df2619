-- The turns of links that were taken back, by their addresses.
use Rattle.std.specs.Prelude.{ℕ, ◌+◌, ◌-◌, ◌^◌, ◌≡◌, ◌≢◌, ◌==◌, ◌&&◌, Bool, if◌then◌else◌, List, Contains, map, min, sum_by}
use Rattle.gw_base.specs.declared.address.Addr.{Addr}
use Rattle.net_link.specs.declared.turns.Tally.{Tally}
use Rattle.net_link.specs.Datagrams.{added}

abbrev pub is_at : Addr → Addr → Bool
is_at a b = a.ip == b.ip && a.port == b.port

-- what a tally counts for an address
abbrev pub turns_in : Addr → Tally → ℕ
turns_in a tally = if is_at a tally.at then tally.turns else 0

-- the turns at an address, at most the last value of 64 bits
abbrev pub turns_at : Addr → List Tally → ℕ
turns_at a tallies = min (sum_by (turns_in a) tallies) (2 ^ 64 - 1)

-- a tally with more turns, at most the last value of 64 bits
abbrev pub raised : Tally → ℕ → Tally
raised tally more = record { at = tally.at; turns = min (tally.turns + more) (2 ^ 64 - 1) }

abbrev pub place_of : Tally → Addr
place_of tally = tally.at

-- there is a tally for the address
abbrev pub IsListed : Addr → List Tally → Type 0
IsListed a tallies = Contains (map place_of tallies) a

-- more turns are counted at an address, and all else is as before
pub record CountsMore (at : Addr) (more : ℕ) (old new : List Tally) : Type 0 where
  pub places : map place_of new ≡ map place_of old
  pub turns : turns_at at new ≡ added (turns_at at old) more
  pub others : (a : Addr) → a ≢ at → turns_at a new ≡ turns_at a old
