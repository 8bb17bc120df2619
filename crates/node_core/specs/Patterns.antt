-- The messages that a tick sends with many numbers, each spelled once (steps of the proof).
use Rattle.std.specs.Prelude.{ℕ, List, ◌++◌, take, drop}
use Rattle.byteorder.specs.Endian.{big_bytes}
use Rattle.gtpp_message.specs.Message.{TransferRequest, Possible}
use Rattle.gtpp_message.specs.Packet.{Empty}
use Rattle.gtpp_message.specs.Writing.{written}
use Rattle.node_core.specs.declared.copy.Order.{Order}
use Rattle.node_core.specs.declared.copy.Order.TheVariants as order
use Rattle.node_core.specs.declared.patterns.Patterns.{Patterns}
use Rattle.node_core.specs.Octets.{order_of}

-- a test, and a release or a cancel, with 0 for each number
abbrev pub test_pattern : List ℕ
test_pattern = written 0 (TransferRequest (Possible Empty))

abbrev pub order_pattern : Order → List ℕ
order_pattern order = written 0 (TransferRequest (order_of order 0))

abbrev pub the_patterns : Patterns
the_patterns = record {
  test = test_pattern;
  release = order_pattern order.Release;
  cancel = order_pattern order.Cancel;
}

-- these octets with a number in the two from a place on
abbrev pub numbered_at : ℕ → ℕ → List ℕ → List ℕ
numbered_at place number octets = take place octets ++ (big_bytes 2 number ++ drop 2 (drop place octets))
