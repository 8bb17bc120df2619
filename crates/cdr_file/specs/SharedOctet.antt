-- Octets that two numbers share (3GPP TS 32.297, clauses 6.1.1 and 6.1.2).
use Rattle.std.specs.Prelude.{ℕ, ◌+◌, ◌*◌}

-- the octet whose three high bits say one number, as a release, and whose five low bits another, as its version
abbrev pub shared_octet : ℕ → ℕ → ℕ
shared_octet high low = high * 32 + low
