-- How each end of a path reads a datagram (3GPP TS 32.295, clause 6.2). The order in which the conditions stand is this
-- project's own (profile), and docs/formats/wire.md tells it as a list.
use Rattle.std.specs.Prelude.{ℕ, Bool, not, nat_lt, ◌==◌, ◌||◌, if◌then◌else◌, List, ◌∷◌, length, take, drop, Result, Ok, Err}
use Rattle.gtpp_header.specs.Header.{protocol_type_of, two_octets, version_of}
use Rattle.gtpp_header.specs.declared.Header.{Header}
use Rattle.gtpp_header.specs.declared.fault.HeadFault.{HeadFault}
use Rattle.gtpp_header.specs.declared.fault.HeadFault.TheVariants as head
use Rattle.gtpp_elements.specs.Reading.{elements_in}
use Rattle.gtpp_message.specs.Message.{MessageValue, is_message_type}
use Rattle.gtpp_message.specs.Reading.{ReadingValue, Drop, Message, OtherVersion, Refused, body_of, flaw_cause}
use Rattle.gtpp_message.specs.Writing.{message_type}
use Rattle.gtpp_message.specs.declared.flaw.Flaw.{Flaw}
use Rattle.gtpp_message.specs.declared.message_types.TheConstants.{NODE_ALIVE_REQUEST, NODE_ALIVE_RESPONSE, REDIRECTION_REQUEST, REDIRECTION_RESPONSE, TRANSFER_REQUEST, TRANSFER_RESPONSE, VERSION_NOT_SUPPORTED}
use Rattle.gtpp_message.specs.declared.reading.Why.TheVariants as why
use Rattle.gtpp_message.specs.declared.role.Role.{Role}
use Rattle.gtpp_message.specs.declared.role.Role.TheVariants.{Gateway, Node}

-- no message of this type is sent to this end
abbrev pub is_stray : Role → ℕ → Bool
is_stray Gateway kind =
    (kind == VERSION_NOT_SUPPORTED) || (kind == NODE_ALIVE_RESPONSE) || (kind == REDIRECTION_REQUEST) || (kind == REDIRECTION_RESPONSE)
    || (kind == TRANSFER_RESPONSE)
is_stray Node kind = (kind == VERSION_NOT_SUPPORTED) || (kind == NODE_ALIVE_REQUEST) || (kind == TRANSFER_REQUEST)

-- a response with a cause answers a message of this type
abbrev pub has_refusal : ℕ → Bool
has_refusal kind = (kind == REDIRECTION_REQUEST) || (kind == TRANSFER_REQUEST)

-- a message with a body that isn't one of its type: it is refused where a response answers it, and else dropped
abbrev pub refused : ℕ → ℕ → ℕ → ReadingValue
refused kind cause number = if has_refusal kind then Refused kind cause number else Drop (why.Malformed cause)

-- a message of a type that is sent to this end, by what its body says
abbrev pub by_body : ℕ → ℕ → Result MessageValue Flaw → ReadingValue
by_body kind number (Ok message) = Message number message
by_body kind number (Err flaw) = refused kind (flaw_cause flaw) number

-- What this end reads of the octets of a datagram: the first of these conditions that holds decides, and fewer than six
-- octets are too short for a header.
abbrev pub role_reading : Role → List ℕ → ReadingValue
role_reading role (flags ∷ kind ∷ length_high ∷ length_low ∷ number_high ∷ number_low ∷ rest) =
    let stated = two_octets length_high length_low in
    let number = two_octets number_high number_low in
    if protocol_type_of flags == 1 then Drop why.NotPrime
    else if not (version_of flags == 2) then (if kind == VERSION_NOT_SUPPORTED then Drop why.Stray else OtherVersion kind number)
    else if nat_lt (length rest) stated then Drop why.Cut
    else if not (is_message_type kind) then Drop why.UnknownType
    else if is_stray role kind then Drop why.Stray
    else by_body kind number (body_of kind (elements_in (take stated rest)))
role_reading role _ = Drop why.Short

-- what was read at neither end, as this end takes it: the stray is dropped, and so is what no message answers
abbrev pub for_role : Role → ReadingValue → ReadingValue
for_role role (Message number message) = if is_stray role (message_type message) then Drop why.Stray else Message number message
for_role role (Refused kind cause number) = if is_stray role kind then Drop why.Stray else refused kind cause number
for_role role (OtherVersion kind number) = if kind == VERSION_NOT_SUPPORTED then Drop why.Stray else OtherVersion kind number
for_role role (Drop why) = Drop why

-- The same behind a header that was read: a step of the proof.
abbrev pub read_at : Role → Result Header HeadFault → List ℕ → ReadingValue
read_at role (Ok header) octets =
    if not (is_message_type header.kind) then Drop why.UnknownType
    else if is_stray role header.kind then Drop why.Stray
    else by_body header.kind header.number (body_of header.kind (elements_in (take header.length (drop 6 octets))))
read_at role (Err head.Short) octets = Drop why.Short
read_at role (Err head.NotPrime) octets = Drop why.NotPrime
read_at role (Err (head.Version version kind number)) octets = if kind == VERSION_NOT_SUPPORTED then Drop why.Stray else OtherVersion kind number
read_at role (Err (head.Cut length)) octets = Drop why.Cut
