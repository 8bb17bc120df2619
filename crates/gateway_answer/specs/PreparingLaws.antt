-- What a gateway makes of any octets is whole.
use Rattle.std.proofs.Common.{◌≡◌, ℕ, ◌==◌, Bool, true, false, if◌then◌else◌, List, refl, sym, ap, subst}
use Rattle.gtpp_message.specs.Message.{MessageValue, TransferValue, EchoRequest, EchoResponse, VersionNotSupported, NodeAliveRequest, NodeAliveResponse, RedirectionRequest, RedirectionResponse, TransferRequest, TransferResponse}
use Rattle.gtpp_message.specs.Reading.{ReadingValue, Drop, Message, OtherVersion, Refused, reading}
use Rattle.gtpp_message.specs.Role.{for_role, has_refusal, is_stray, role_reading}
use Rattle.gtpp_message.specs.Writing.{IsSendableMessage, message_type}
use Rattle.gtpp_message.specs.declared.message_types.TheConstants.{VERSION_NOT_SUPPORTED}
use Rattle.gtpp_message.specs.declared.reading.Why.TheVariants as why
use Rattle.gtpp_message.specs.declared.role.Role.{Role}
use Rattle.gtpp_message.specs.declared.role.Role.TheVariants.{Gateway}
use Rattle.gw_base.specs.declared.cause.TheConstants.{CDR_DECODING_ERROR}
use Rattle.gateway_answer.specs.Preparing as of
use Rattle.gateway_answer.specs.Preparing.{IsWhole, IsWholeTransfer, OfRequest, framed, prepared_of, received, requested, sends_values}

-- what the laws of messages say: an end reads what is read at neither end, and what is read may be sent
abbrev pub RolesRead : Type 0
RolesRead = (role : Role) (octets : List ℕ) → role_reading role octets ≡ for_role role (reading octets)

abbrev pub ReadIsSendable : Type 0
ReadIsSendable = (number : ℕ) (message : MessageValue) (octets : List ℕ) → reading octets ≡ Message number message → IsSendableMessage message

-- what holds of the body of each request that was read, and whose records are values, holds of what a gateway makes of
-- octets
module _ (P : TransferValue → Type 0) where
  request_is : (number : ℕ) (body : TransferValue) → (sends_values body ≡ true → P body) → OfRequest P (requested number body)
  request_is number body is = by_test (sends_values body) refl
    where
      by_test : (b : Bool) → sends_values body ≡ b →
          OfRequest P (if b then of.Request number body else of.Refused CDR_DECODING_ERROR number)
      by_test true values = is values
      by_test false values = tt

  message_is : (number : ℕ) (message : MessageValue) →
      ((body : TransferValue) → message ≡ TransferRequest body → sends_values body ≡ true → P body) →
      OfRequest P (received number message)
  message_is number (TransferRequest body) is = request_is number body (is body refl)
  message_is number EchoRequest is = tt
  message_is number (EchoResponse counter) is = tt
  message_is number VersionNotSupported is = tt
  message_is number (NodeAliveRequest address) is = tt
  message_is number NodeAliveResponse is = tt
  message_is number (RedirectionRequest cause to) is = tt
  message_is number (RedirectionResponse cause) is = tt
  message_is number (TransferResponse cause responded) is = tt

  abbrev AreOf : ReadingValue → Type 0
  AreOf read = (number : ℕ) (body : TransferValue) → read ≡ Message number (TransferRequest body) →
      sends_values body ≡ true → P body

  reading_is : (read : ReadingValue) → AreOf read → OfRequest P (framed (for_role Gateway read))
  reading_is (Drop reason) are = tt
  reading_is (OtherVersion kind number) are = by_test (kind == VERSION_NOT_SUPPORTED)
    where
      by_test : (b : Bool) → OfRequest P (framed (if b then Drop why.Stray else OtherVersion kind number))
      by_test true = tt
      by_test false = tt
  reading_is (Refused kind cause number) are = by_tests (is_stray Gateway kind) (has_refusal kind)
    where
      by_tests : (stray answered : Bool) → OfRequest P (framed (if stray then Drop why.Stray
          else (if answered then Refused kind cause number else Drop (why.Malformed cause))))
      by_tests true answered = tt
      by_tests false true = tt
      by_tests false false = tt
  reading_is (Message number message) are =
      by_test (is_stray Gateway (message_type message))
      (message_is number message (λ body is. are number body (ap (Message number) is)))
    where
      by_test : (stray : Bool) → OfRequest P (received number message) →
          OfRequest P (framed (if stray then Drop why.Stray else Message number message))
      by_test true is = tt
      by_test false is = is

  pub prepared_is : RolesRead → (octets : List ℕ) → AreOf (reading octets) → OfRequest P (prepared_of octets)
  prepared_is roles octets are =
      subst (λ (read : ReadingValue). OfRequest P (framed read)) (sym (roles Gateway octets)) (reading_is (reading octets) are)

pub prepared_is_whole : RolesRead → ReadIsSendable → (octets : List ℕ) → IsWhole (prepared_of octets)
prepared_is_whole roles sendable octets =
    prepared_is IsWholeTransfer roles octets
    (λ number body is values. (sendable number (TransferRequest body) octets is, values))
