-- What the messages of a world say, and what they mean.
use Rattle.std.proofs.Common.{◌≡◌, ℕ, ◌%◌, ◌≤◌, true, false, List, [], ◌∷◌, ◌++◌, length, Some, slice_get, refl, sym, ap, ◌∙◌, arith, append-nil}
use Rattle.once_core.proofs.Names.{about, Answers, body_octets, Cancel, EchoResponse, failing, for_role, IsSendableMessage, meaning_by, meaning_in, meaning_of, message_type, MessageValue, Release, role_reading, RolesRead, sends_values, SYSTEM_FAILURE, TransferRequest, TransferResponse, TransferValue, written}
use Rattle.gtpp_message.specs.Reading.{Message, reading}
use Rattle.gtpp_message.specs.declared.role.Role.{Role}
use Rattle.once_core.specs.declared.message.Message as sent

-- what the law of messages says: what is written is read back
abbrev pub ReadsBack : Type 0
ReadsBack = (number : ℕ) (message : MessageValue) (rest : List ℕ) → IsSendableMessage message → length (body_octets message) ≤ 65535
    → reading (written number message ++ rest) ≡ Message number message

-- the octets are a message as it is sent
pub record IsWritten (octets : List ℕ) (number : ℕ) (message : MessageValue) : Type 0 where
  pub is : octets ≡ written number message
  pub sendable : IsSendableMessage message
  pub short : length (body_octets message) ≤ 65535

pub read_of : ReadsBack → (octets : List ℕ) (number : ℕ) (message : MessageValue) → IsWritten octets number message → reading octets ≡ Message number message
read_of back octets number message w =
    ap reading (w.is ∙ sym (append-nil (written number message))) ∙ back number message [] w.sendable w.short

pub role_read_of : ReadsBack → RolesRead → (role : Role) (octets : List ℕ) (number : ℕ) (message : MessageValue) → IsWritten octets number message
    → role_reading role octets ≡ for_role role (Message number message)
role_read_of back roles role octets number message w = roles role octets ∙ ap (for_role role) (read_of back octets number message w)

pub type_of : (octets : List ℕ) (number : ℕ) (message : MessageValue) → octets ≡ written number message → slice_get octets 1 ≡ Some (message_type message)
type_of octets number message e = ap (λ (o : List ℕ). slice_get o 1) e

pub meaning_is : ReadsBack → (m : sent.Message) (number : ℕ) (message : MessageValue) → IsWritten m.octets number message → meaning_of m ≡ meaning_in (about m) message
unfolding meaning_of
meaning_is back m number message w = ap (meaning_by (about m)) (read_of back m.octets number message w)

-- ---- what a node and a gateway say

-- the request is about the copy that its sender meant
abbrev pub IsAbout : sent.Message → TransferValue → Type 0
IsAbout m (Release numbers) = numbers ≡ about m % 65536 ∷ []
IsAbout m (Cancel numbers) = numbers ≡ about m % 65536 ∷ []
IsAbout m _ = about m ≡ m.number

-- what a node says: its counter is the number of its starts, and a request bears the number that was meant
abbrev pub FromNode : sent.Message → ℕ → MessageValue → Type 0
FromNode m number (EchoResponse counter) = counter ≡ m.start
FromNode m number (TransferRequest body) = (number ≡ m.number % 65536) × (sends_values body ≡ true) × IsAbout m body
FromNode m number (TransferResponse cause responded) = ⊥
FromNode m number _ = Unit {0}

-- what a gateway says: a response is to the request with the number that was meant
abbrev pub FromGateway : sent.Message → ℕ → MessageValue → Type 0
FromGateway m number (TransferResponse cause responded) = (number ≡ m.number % 65536) × (responded ≡ m.number % 65536 ∷ [])
FromGateway m number (TransferRequest body) = ⊥
FromGateway m number _ = Unit {0}

-- a message of a node, and one of a gateway
pub record NodeSaid (m : sent.Message) : Type 0 where
  pub started : 1 ≤ m.start
  pub path : ℕ
  pub message : MessageValue
  pub written : IsWritten m.octets path message
  pub fits : FromNode m path message

pub record GatewaySaid (m : sent.Message) : Type 0 where
  pub path : ℕ
  pub message : MessageValue
  pub written : IsWritten m.octets path message
  pub fits : FromGateway m path message

-- each message of a world says what its sender means
pub record Said (m : sent.Message) : Type 0 where
  pub node : m.to_gateway ≡ true → NodeSaid m
  pub gateway : m.to_gateway ≡ false → GatewaySaid m

pub said_by_node : (m : sent.Message) → m.to_gateway ≡ true → NodeSaid m → Said m
said_by_node m e said = record { node = λ is. said; gateway = λ isnt. absurd (cc) }

pub said_by_gateway : (m : sent.Message) → m.to_gateway ≡ false → GatewaySaid m → Said m
said_by_gateway m e said = record { node = λ is. absurd (cc); gateway = λ isnt. said }

-- ---- responses

-- the response of this cause to the request that a message was
pub record Responds (m : sent.Message) (cause : ℕ) : Type 0 where
  pub octets : m.octets ≡ written (m.number % 65536) (TransferResponse cause (m.number % 65536 ∷ []))

pub responds_said : (m : sent.Message) (cause : ℕ) → Responds m cause → GatewaySaid m
responds_said m cause is = record {
  path = m.number % 65536;
  message = TransferResponse cause (m.number % 65536 ∷ []);
  written = record { is = is.octets; sendable = tt; short = omega arith };
  fits = (refl, refl);
}

pub responds_means : ReadsBack → (m : sent.Message) (cause : ℕ) → Responds m cause → meaning_of m ≡ Answers cause
unfolding responds_said
responds_means back m cause is = meaning_is back m (m.number % 65536) (TransferResponse cause (m.number % 65536 ∷ [])) (responds_said m cause is).written

-- a failure that is told is one
pub failing_said : (m : sent.Message) → GatewaySaid (failing m)
failing_said m = responds_said (failing m) SYSTEM_FAILURE (record { octets = refl })

pub failing_means : ReadsBack → (m : sent.Message) → meaning_of (failing m) ≡ Answers SYSTEM_FAILURE
failing_means back m = responds_means back (failing m) SYSTEM_FAILURE (record { octets = refl })
