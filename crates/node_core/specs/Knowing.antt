-- What a node knows of a copy of a packet, as a question to its log (3GPP TS 32.295, clause 5.2): of the responses to
-- the copy's number that it heard from the copy's gateway since the number was drawn, the first that tells something
-- decides.
use Rattle.std.specs.Prelude.{◌≡◌, ℕ, ◌==◌, ◌&&◌, not, Bool, false, if◌then◌else◌, All, IfSome, List, [], ◌∷◌, ◌++◌, map}
use Rattle.std.specs.List.{find, list_any}
use Rattle.std.specs.Option.{unwrap_or}
use Rattle.node_core.specs.declared.copy.Command.{Command}
use Rattle.node_core.specs.declared.copy.PacketCopy.{PacketCopy}
use Rattle.node_core.specs.declared.copy.Verdict.{Verdict}
use Rattle.node_core.specs.declared.copy.Verdict.TheVariants.{Unknown}
use Rattle.node_core.specs.declared.port.Port.{Port}
use Rattle.node_core.specs.declared.sending.Sending.{Sending}
use Rattle.node_core.specs.declared.sending.Sending.TheVariants as send
use Rattle.node_core.specs.Copies.{is_fulfilled, is_unknown, names, told}
use Rattle.node_core.specs.Log.{LogEntry, Began, Halted, Submitted, Appointed, Ticked, Heard, Saying, Path, Redirects, Responds, Other}
use Rattle.node_core.specs.Packets.{PacketState, is_done}

-- a response: the port at which it was heard, and its cause
pub record Response : Type 0 where
  pub port : Port
  pub cause : ℕ

-- the sending draws this number of the gateway
abbrev pub draws : ℕ → ℕ → Sending → Bool
draws gateway number (send.Probe place path) = false
draws gateway number (send.Data packet place drawn is_plain is_new) =
    is_new && ((place == gateway) && (drawn == number))
draws gateway number (send.Test packet place drawn) = false
draws gateway number (send.Command packet place named drawn order is_new) =
    is_new && ((place == gateway) && (drawn == number))

-- a response to this number, where a saying is one
abbrev pub response_in : Port → ℕ → Saying → List Response
response_in port number (Path event) = []
response_in port number (Redirects to) = []
response_in port number (Responds cause numbers) =
    if names numbers number then record { port = port; cause = cause } ∷ [] else []
response_in port number Other = []

-- the responses to this number of a gateway, in the order of hearing, since it was drawn
abbrev pub responses_to : ℕ → ℕ → List LogEntry → List Response
responses_to gateway number [] = []
responses_to gateway number (Began ∷ log) = []
responses_to gateway number (Halted ∷ log) = []
responses_to gateway number (Submitted form ∷ log) = responses_to gateway number log
responses_to gateway number (Appointed place ∷ log) = responses_to gateway number log
responses_to gateway number (Ticked sendings ∷ log) =
    if list_any (draws gateway number) sendings then [] else responses_to gateway number log
responses_to gateway number (Heard port place saying ∷ log) =
    responses_to gateway number log ++ (if gateway == place then response_in port number saying else [])

-- what each tells of a copy, plain or not
abbrev pub tellings : Bool → List Response → List Verdict
tellings is_plain responses = map (λ response. told response.port is_plain response.cause) responses

-- the first that says something
abbrev pub first_of : List Verdict → Verdict
first_of verdicts = unwrap_or (find (λ verdict. not (is_unknown verdict)) verdicts) Unknown

-- what the log tells of a copy
abbrev pub known_of : List LogEntry → PacketCopy → Verdict
known_of log copy = first_of (tellings copy.is_plain (responses_to copy.gateway copy.number log))

-- a response to the release or the cancel with this number says that it is fulfilled
abbrev pub is_fulfilled_at : List LogEntry → ℕ → ℕ → Bool
is_fulfilled_at log gateway number =
    list_any (λ response. is_fulfilled response.cause) (responses_to gateway number log)

-- of a copy, and of the release or the cancel that was sent for it, just what the log tells is known
pub record IsKnown (log : List LogEntry) (copy : PacketCopy) : Type 0 where
  pub verdict : copy.verdict ≡ known_of log copy
  pub command :
      IfSome copy.command (λ (command : Command). command.is_answered ≡ is_fulfilled_at log copy.gateway command.number)

-- the same of all copies of an open packet; nothing is heard of one that is done
abbrev pub AreKnown : List LogEntry → PacketState → Type 0
AreKnown log packet = is_done packet.copies ≡ false → All (IsKnown log) packet.copies
