-- How a deframer takes in a piece: first what is lacking of a header, then what is lacking of the message.
use Rattle.std.specs.Prelude.{◌≡◌, ℕ, ◌+◌, ◌-◌, ◌<◌, ◌≤◌, List, ◌++◌, length, take, None, Some, Result, Ok, Err}
use Rattle.gtpp_header.specs.declared.Header.{Header}
use Rattle.gtpp_header.specs.declared.fault.HeadFault.{HeadFault}
use Rattle.gtpp_header.specs.declared.fault.HeadFault.TheVariants.{Cut, NotPrime, Short, Version}
use Rattle.gtpp_stream.specs.Frames.{first_fault, whole_length}

-- how many octets so many lack of a header, or of the message whose header they have, by what is read of them
abbrev pub lack_of : Result Header HeadFault → ℕ → ℕ
lack_of (Ok header) count = 0
lack_of (Err Short) count = 6 - count
lack_of (Err NotPrime) count = 0
lack_of (Err (Version version kind number)) count = 0
lack_of (Err (Cut stated)) count = 6 + stated - count

-- These octets are the beginning of a message that isn't whole, or none.
pub record IsBegun (octets : List ℕ) : Type 0 where
  pub none : whole_length octets ≡ None
  pub good : first_fault octets ≡ None

-- So many octets of a piece were taken in: up to the end of a message, or all.
pub record Takes (piece : List ℕ) (count : ℕ) (old new : List ℕ) : Type 0 where
  pub inside : count ≤ length piece
  pub octets : new ≡ old ++ take count piece
  pub whole : (k : ℕ) → whole_length new ≡ Some k → k ≡ length new
  pub more : whole_length new ≡ None → count ≡ length piece
  pub advances : (k : ℕ) → whole_length new ≡ Some k → 0 < count
