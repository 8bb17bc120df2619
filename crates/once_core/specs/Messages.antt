-- Messages: what kind one is, and what answers it.
use Rattle.std.specs.Prelude.{ℕ, Bool, false, not, ◌==◌, ◌%◌, List, [], ◌∷◌, None, slice_get, unwrap_or}
use Rattle.std.specs.Option.{option_map_or}
use Rattle.gtpp_message.specs.Message.{TransferResponse}
use Rattle.gtpp_message.specs.Writing.{written}
use Rattle.gtpp_message.specs.declared.message_types.TheConstants.{TRANSFER_REQUEST, TRANSFER_RESPONSE}
use Rattle.gw_base.specs.declared.cause.TheConstants.{SYSTEM_FAILURE}
use Rattle.once_core.specs.declared.message.Message.{Message}

-- the type of a message is the second octet of its header
abbrev pub has_type : ℕ → List ℕ → Bool
has_type kind octets = option_map_or (λ k. k == kind) (slice_get octets 1) false

-- it is a Data Record Transfer Request, or the response to one
abbrev pub is_request : Message → Bool
is_request m = has_type TRANSFER_REQUEST m.octets

abbrev pub is_response : Message → Bool
is_response m = has_type TRANSFER_RESPONSE m.octets

-- the number of the copy that a request speaks of: the one that a release or a cancel names, else its own
abbrev pub about : Message → ℕ
about m = unwrap_or m.named m.number

-- the answer of these octets, to where the message came from
abbrev pub answering : Message → List ℕ → Message
answering m octets = record m { to_gateway = not m.to_gateway; named = None; octets = octets }

-- the same message with the octets of a response that tells of a failure of the gateway
abbrev pub failing : Message → Message
failing m = record m { octets = written (m.number % 65536) (TransferResponse SYSTEM_FAILURE (m.number % 65536 ∷ [])) }
