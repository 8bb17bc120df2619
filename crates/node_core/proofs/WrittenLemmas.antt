-- How long a message is, and a message that is spelled with 0 for each number, with its own numbers in their places.
use Rattle.std.proofs.Common.{◌≡◌, ℕ, ◌+◌, ◌≤◌, ◌%◌, ◌/◌, None, length, refl, arith}
use Rattle.gtpp_message.specs.Message.{MessageValue, TransferRequest, Possible}
use Rattle.node_core.proofs.Names.{Empty, Order, path_octets, PathEvent}
use Rattle.gtpp_message.specs.PathMessages.{path_message, path_number}
use Rattle.gtpp_message.specs.Writing.{body_octets, written}
use Rattle.node_core.specs.Octets.{order_of, wire}
use Rattle.node_core.specs.Patterns.{numbered_at, order_pattern, test_pattern}

pub length-written : (number : ℕ) (message : MessageValue) → length (written number message) ≡ 6 + length (body_octets message)
length-written number message = omega arith

-- the answers of path management are short
short : (event : PathEvent) → length (path_octets event) ≤ 64
short event = grind arith

pub path_is_short : (event : PathEvent) → length (written (path_number event) (path_message event None)) ≤ 64
path_is_short event = short event

-- ---- its numbers

-- the high octet of 16 bits
high : (number : ℕ) → wire number / 256 % 256 ≡ wire number / 256
high number = omega arith

pub test_numbered : (number : ℕ) →
    numbered_at 4 (wire number) test_pattern ≡ written (wire number) (TransferRequest (Possible Empty))
test_numbered number = rw (high number) refl

pub order_numbered : (order : Order) (number named : ℕ) →
    numbered_at 11 (wire named) (numbered_at 4 (wire number) (order_pattern order))
    ≡ written (wire number) (TransferRequest (order_of order named))
order_numbered order number named = grind (arith, high)
