-- What a deframer keeps.
use Rattle.std.specs.Prelude.{ℕ, ◌≤◌, Bool, true, false, List, length}
use Rattle.gtpp_stream.specs.Frames.{IsWhole}
use Rattle.gtpp_stream.specs.Taking.{IsBegun}

-- A whole message, or the beginning of one.
abbrev pub IsPart : Bool → List ℕ → Type 0
IsPart true octets = IsWhole octets
IsPart false octets = IsBegun octets

-- These octets are among those used, and are a message, or the beginning of one.
pub record IsKept (used : ℕ) (octets : List ℕ) (is_whole : Bool) : Type 0 where
  pub part : IsPart is_whole octets
  pub small : length octets ≤ 65541
  pub among : length octets ≤ used
