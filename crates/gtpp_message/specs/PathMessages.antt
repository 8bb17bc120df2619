-- The messages of path management as events of a path, and back (3GPP TS 32.295, clause 6.2).
use Rattle.std.specs.Prelude.{ℕ, List, Option, Some, None}
use Rattle.gtpp_message.specs.Message.{MessageValue, EchoRequest, EchoResponse, VersionNotSupported, NodeAliveRequest, NodeAliveResponse, RedirectionRequest, RedirectionResponse, TransferRequest, TransferResponse}
use Rattle.path_mgmt.specs.declared.event.PathEvent.{PathEvent}
use Rattle.path_mgmt.specs.declared.event.PathEvent.TheVariants.{EchoAsked, EchoTold, AliveAsked, AliveTold}

-- what the message with this sequence number tells
abbrev pub path_event : ℕ → MessageValue → Option PathEvent
path_event number EchoRequest = Some (EchoAsked number)
path_event number (EchoResponse counter) = Some (EchoTold number counter)
path_event number VersionNotSupported = None
path_event number (NodeAliveRequest address) = Some (AliveAsked number)
path_event number NodeAliveResponse = Some (AliveTold number)
path_event number (RedirectionRequest cause to) = None
path_event number (RedirectionResponse cause) = None
path_event number (TransferRequest body) = None
path_event number (TransferResponse cause responded) = None

-- the sequence number of the message that tells an event
abbrev pub path_number : PathEvent → ℕ
path_number (EchoAsked number) = number
path_number (EchoTold number counter) = number
path_number (AliveAsked number) = number
path_number (AliveTold number) = number

-- the message, with the sender's address where one is given for it
abbrev pub path_message : PathEvent → Option (List ℕ) → MessageValue
path_message (EchoAsked number) sender = EchoRequest
path_message (EchoTold number counter) sender = EchoResponse counter
path_message (AliveAsked number) sender = NodeAliveRequest sender
path_message (AliveTold number) sender = NodeAliveResponse
