-- No answer of a gateway whose device runs says that the device failed.
use Rattle.std.proofs.Common.{◌≡◌, ℕ, ◌==◌, not, nat_lt, Bool, true, false, if◌then◌else◌, List, [], ◌∷◌, length, take, Result, Ok, Err, Some, None, refl}
use Rattle.gtpp_header.specs.Header.{protocol_type_of, two_octets, version_of}
use Rattle.gtpp_elements.specs.Reading.{elements_in}
use Rattle.gtpp_message.specs.Message.{MessageValue, TransferValue, EchoRequest, EchoResponse, VersionNotSupported, NodeAliveRequest, NodeAliveResponse, RedirectionRequest, RedirectionResponse, TransferRequest, TransferResponse, is_message_type}
use Rattle.gtpp_message.specs.Reading.{ReadingValue, body_of, flaw_cause}
use Rattle.gtpp_message.specs.Reading as read
use Rattle.gtpp_message.specs.Role.{by_body, has_refusal, is_stray, refused}
use Rattle.gtpp_message.specs.declared.flaw.Flaw.{Flaw}
use Rattle.gtpp_message.specs.declared.flaw.Flaw.TheVariants.{Elements, Missing, Incorrect}
use Rattle.gtpp_message.specs.declared.message_types.TheConstants as kind
use Rattle.gtpp_message.specs.declared.role.Role.TheVariants.{Gateway}
use Rattle.gw_base.specs.Observed.{Observed}
use Rattle.gw_base.specs.declared.address.Addr.{Addr}
use Rattle.gw_base.specs.declared.cause.TheConstants.{CDR_DECODING_ERROR}
use Rattle.gw_base.specs.declared.history.HistoryAct.{HistoryAct}
use Rattle.path_mgmt.specs.declared.event.PathEvent.{PathEvent}
use Rattle.path_mgmt.specs.declared.event.PathEvent.TheVariants.{EchoAsked, EchoTold, AliveAsked, AliveTold}
use Rattle.gateway_answer.specs.Answer.{Given, answer_by, node_of, replying}
use Rattle.gateway_answer.specs.EachAnswer.{HoldsOfEach, of_path, of_request}
use Rattle.gateway_answer.specs.Preparing.{PreparedValue, Refused, Path, Request, framed, prepared_of, requested, sends_values}
use Rattle.gateway_answer.specs.Recording.{tells_a_fault}

-- the answer doesn't say that the device failed
abbrev NoFault : Given → Type 0
NoFault given = tells_a_fault given ≡ false

told_without_fault : (event : PathEvent) → NoFault (replying (Some event) None)
told_without_fault (EchoAsked number) = refl
told_without_fault (EchoTold number counter) = refl
told_without_fault (AliveAsked number) = refl
told_without_fault (AliveTold number) = refl

none_tells : (from : Addr) → HoldsOfEach NoFault from
none_tells from = record {
  responded = λ number cause other. other;
  recorded = λ number cause a other isnt. other;
  told = told_without_fault;
  opened = λ number counter. refl;
  stray = refl;
  no_room = refl;
}

-- Whatever is observed, what was made of a datagram isn't answered so.
abbrev IsSound : PreparedValue → Type 0
IsSound datagram = (o : Observed) (from : Addr) (may : HistoryAct → Bool) → NoFault (answer_by o from datagram may)

by_if : (b : Bool) (x y : ReadingValue) → IsSound (framed x) → IsSound (framed y)
    → IsSound (framed (if b then x else y))
by_if true x y p q = p
by_if false x y p q = q

sound_request : (number : ℕ) (body : TransferValue) → IsSound (requested number body)
sound_request number body = by_test (sends_values body)
  where
    by_test : (b : Bool) → IsSound (if b then Request number body else Refused CDR_DECODING_ERROR number)
    by_test true = λ o from may. of_request NoFault from (none_tells from) o may (node_of from) number body
    by_test false = λ o from may. refl

sound_path : (event : PathEvent) → IsSound (Path event)
sound_path event = λ o from may. of_path NoFault from (none_tells from) o may event

sound_message : (number : ℕ) (message : MessageValue) → IsSound (framed (read.Message number message))
sound_message number EchoRequest = sound_path (EchoAsked number)
sound_message number (EchoResponse counter) = sound_path (EchoTold number counter)
sound_message number VersionNotSupported = λ o from may. refl
sound_message number (NodeAliveRequest address) = sound_path (AliveAsked number)
sound_message number NodeAliveResponse = sound_path (AliveTold number)
sound_message number (RedirectionRequest cause to) = λ o from may. refl
sound_message number (RedirectionResponse cause) = λ o from may. refl
sound_message number (TransferRequest body) = sound_request number body
sound_message number (TransferResponse cause responded) = λ o from may. refl

sound_flaw : (flaw : Flaw) (k number : ℕ) → IsSound (framed (refused k (flaw_cause flaw) number))
sound_flaw Elements k number = by_if (has_refusal k) _ _ (λ o from may. refl) (λ o from may. refl)
sound_flaw Missing k number = by_if (has_refusal k) _ _ (λ o from may. refl) (λ o from may. refl)
sound_flaw Incorrect k number = by_if (has_refusal k) _ _ (λ o from may. refl) (λ o from may. refl)

sound_body : (k number : ℕ) (body : Result MessageValue Flaw) → IsSound (framed (by_body k number body))
sound_body k number (Ok message) = sound_message number message
sound_body k number (Err flaw) = sound_flaw flaw k number

sound : (octets : List ℕ) → IsSound (prepared_of octets)
sound (flags ∷ k ∷ length_high ∷ length_low ∷ number_high ∷ number_low ∷ rest) =
    let stated = two_octets length_high length_low in
    let number = two_octets number_high number_low in
    by_if (protocol_type_of flags == 1) _ _ (λ o from may. refl)
    (by_if (not (version_of flags == 2)) _ _
    (by_if (k == kind.VERSION_NOT_SUPPORTED) _ _ (λ o from may. refl) (λ o from may. refl))
    (by_if (nat_lt (length rest) stated) _ _ (λ o from may. refl)
    (by_if (not (is_message_type k)) _ _ (λ o from may. refl)
    (by_if (is_stray Gateway k) _ _ (λ o from may. refl)
    (sound_body k number (body_of k (elements_in (take stated rest))))))))
sound (a ∷ b ∷ c ∷ d ∷ e ∷ []) = λ o from may. refl
sound (a ∷ b ∷ c ∷ d ∷ []) = λ o from may. refl
sound (a ∷ b ∷ c ∷ []) = λ o from may. refl
sound (a ∷ b ∷ []) = λ o from may. refl
sound (a ∷ []) = λ o from may. refl
sound [] = λ o from may. refl

-- Where the device runs, no datagram is answered as if it had failed.
pub running_tells_none : (o : Observed) (from : Addr) (octets : List ℕ) (may : HistoryAct → Bool)
    → tells_a_fault (answer_by o from (prepared_of octets) may) ≡ false
running_tells_none o from octets may = sound octets o from may
