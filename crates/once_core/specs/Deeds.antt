-- What a node did, by its log, the oldest first.
use Rattle.std.specs.Prelude.{ℕ, List, [], ◌∷◌, ◌++◌, map}
use Rattle.std.specs.List.{flat_map}
use Rattle.node_core.specs.Log.{LogEntry, Ticked, Heard, Saying, Responds}
use Rattle.node_core.specs.declared.port.Port.{Port}
use Rattle.node_core.specs.declared.port.Port.TheVariants.{First, Second}
use Rattle.node_core.specs.declared.sending.Sending.{Sending}
use Rattle.node_core.specs.declared.sending.Sending.TheVariants as send
use Rattle.once_core.specs.Expired.{starts_in}
use Rattle.once_core.specs.Happenings as did
use Rattle.once_core.specs.Happenings.{Answers, Asks, Deed, Letter, Meaning, Orders, Sends, Tests}

-- a message of a node, which made so many starts
abbrev pub letter_of : ℕ → ℕ → ℕ → Port → ℕ → Meaning → Letter
letter_of node start gateway port number says =
    record { node = node; start = start; gateway = gateway; port = port; number = number; says = says }

-- what the node asks of gateways with a sending, where the packets send these octets
abbrev pub asked_by : ℕ → ℕ → (ℕ → List ℕ) → Sending → List Letter
asked_by node start values (send.Probe gateway number) = []
asked_by node start values (send.Data packet gateway number is_plain is_new) =
    letter_of node start gateway First number (Asks (Sends is_plain (values packet))) ∷ []
asked_by node start values (send.Test packet gateway number) = letter_of node start gateway Second number (Asks Tests) ∷ []
asked_by node start values (send.Command packet gateway named number order is_new) =
    letter_of node start gateway Second number (Asks (Orders order named)) ∷ []

-- what it heard, an answer for each number that a response speaks for
abbrev pub told_by : ℕ → ℕ → Port → ℕ → Saying → List Letter
told_by node start port gateway (Responds cause numbers) =
    map (λ number. letter_of node start gateway port number (Answers cause)) numbers
told_by node start port gateway _ = []

abbrev pub deeds_of : ℕ → (ℕ → List ℕ) → List LogEntry → List Deed
deeds_of node values [] = []
deeds_of node values (Ticked sendings ∷ log) =
    deeds_of node values log ++ map (λ letter. did.Sent letter) (flat_map (asked_by node (starts_in log) values) sendings)
deeds_of node values (Heard port gateway saying ∷ log) =
    deeds_of node values log ++ map (λ letter. did.Heard letter) (told_by node (starts_in log) port gateway saying)
deeds_of node values (_ ∷ log) = deeds_of node values log
