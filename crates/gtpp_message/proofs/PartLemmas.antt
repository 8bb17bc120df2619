-- A message as it is sent is its front and then what it lends.
use Rattle.std.proofs.Common.{◌≡◌, ℕ, ◌/◌, ◌%◌, List, [], ◌∷◌, ◌++◌, length, Some, refl, ap, sym}
use Rattle.std.proofs.lemmas.List.{append-nil}
use Rattle.gtpp_elements.specs.Numbers.{number_octets}
use Rattle.gtpp_message.specs.Message.{MessageValue, NodeAliveRequest, RedirectionRequest, TransferRequest, TransferResponse, Send, Possible, Cancel, Release}
use Rattle.gtpp_message.specs.Packet.{packet_octets}
use Rattle.gtpp_message.specs.Parts.{sent_body}
use Rattle.gtpp_message.specs.Writing.{body_octets}

-- a value at the end
ended : (kind : ℕ) (value : List ℕ) → kind ∷ length value / 256 ∷ length value % 256 ∷ value ≡ kind ∷ length value / 256 ∷ length value % 256 ∷ (value ++ [])
ended kind value = ap (λ (v : List ℕ). kind ∷ length value / 256 ∷ length value % 256 ∷ v) (sym (append-nil value))

ended_behind : (a b kind : ℕ) (value : List ℕ) → a ∷ b ∷ kind ∷ length value / 256 ∷ length value % 256 ∷ value ≡ a ∷ b ∷ kind ∷ length value / 256 ∷ length value % 256 ∷ (value ++ [])
ended_behind a b kind value = ap (λ (v : List ℕ). a ∷ b ∷ v) (ended kind value)

pub body_is : (message : MessageValue) → sent_body message ≡ body_octets message
body_is (NodeAliveRequest (Some address)) = ended 251 address
body_is (RedirectionRequest cause (Some address)) = ended_behind 1 cause 254 address
body_is (TransferRequest (Send packet)) = ended_behind 126 1 252 (packet_octets packet)
body_is (TransferRequest (Possible packet)) = ended_behind 126 2 252 (packet_octets packet)
body_is (TransferRequest (Cancel numbers)) = ended_behind 126 3 250 (number_octets numbers)
body_is (TransferRequest (Release numbers)) = ended_behind 126 4 249 (number_octets numbers)
body_is (TransferResponse cause responded) = ended_behind 1 cause 253 (number_octets responded)
body_is _ = refl
