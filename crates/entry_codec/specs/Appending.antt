-- What is appended to a buffer.
use Rattle.std.specs.Prelude.{ℕ, List, ◌++◌}
use Rattle.gw_base.specs.Buffer.{Buffered}

-- a buffer with more octets
abbrev pub with_octets : Buffered → List ℕ → Buffered
with_octets buffer more = record { octets = buffer.octets ++ more; capacity = buffer.capacity }
