-- What a book's calls tell their caller.
use Rattle.std.proofs.Common.{◌≡◌, ⊎_elim, inr, ℕ, Bool, true, false, List, [], ◌∷◌, Option, refl, ap, ◌∙◌, arith, rules}
use Rattle.entry_codec.specs.Room.{IsWithin}
use Rattle.gateway_book.proofs.Names.{Addr, answer_to, answer_within, AnswersBy, BookValue, Cancel, Decided, decided, Done, Given, HasStorage, HistoryAct, HistoryEntry, is_without_resources, IsAnswered, IsServed, may_record, MessageValue, node_of, Observed, observed, Outcome, outcome_at, prepared_of, PreparedValue, Release, Replies, Request, room_for, running_tells_none, Says, Silent, tells_a_fault, TellsFault, TransferResponse, TransferValue, Why, written}
use Rattle.gtpp_message.specs.declared.reading.Why.TheVariants.{Device}
use Rattle.gw_base.specs.declared.cause.TheConstants.{NO_RESOURCES, SYSTEM_FAILURE}
use Rattle.gateway_answer.specs.ResourceLaws.{room_is_enough}
use Rattle.gateway_book.specs.Taking.{IsDoneBy}
use Rattle.gateway_book.specs.declared.adding.Done.TheVariants as done
use Rattle.gateway_book.specs.declared.outcome.Outcome.TheVariants.{Answer, Drop}
use Rattle.gateway_book.specs.declared.outcome.Receipt.{Receipt}

-- ---- the cause that a reply's octets tell

-- the octets of a message's type and of a response's cause
abbrev type_in : List ℕ → ℕ
type_in (flags ∷ kind ∷ rest) = kind
type_in _ = 0

abbrev cause_in : List ℕ → ℕ
cause_in (flags ∷ kind ∷ length_high ∷ length_low ∷ number_high ∷ number_low ∷ element ∷ cause ∷ rest) = cause
cause_in _ = 0

-- the message is a response with this cause
abbrev IsBy : ℕ → MessageValue → Type 0
IsBy cause message = (responded : List ℕ) × (message ≡ TransferResponse cause responded)

by_octets : (number n cause : ℕ) (message : MessageValue) → written n message ≡ written number (TransferResponse cause (number ∷ [])) → IsBy cause message
by_octets number n cause message same = search rules

tells_by : (n : ℕ) (message : MessageValue) (act : Option HistoryAct) → IsBy SYSTEM_FAILURE message → tells_a_fault (Replies n message act) ≡ true
tells_by n message act is = rw is.1 refl

lacks_by : (n : ℕ) (message : MessageValue) (act : Option HistoryAct) → IsBy NO_RESOURCES message → is_without_resources (Replies n message act) ≡ true
lacks_by n message act is = rw is.1 refl

abbrev octets_of : Decided → List ℕ
octets_of (Silent why) = []
octets_of (Says octets act) = octets

-- ---- a running book tells no fault

module _ (from : Addr) (octets : List ℕ) where
  never_dropped : (given : Given) → tells_a_fault given ≡ false → ¬ (decided given ≡ Silent Device)
  never_dropped given is = grind arith

  never_failed : (given : Given) → tells_a_fault given ≡ false → (number : ℕ) (reply : List ℕ) (act : Option HistoryAct) → decided given ≡ Says reply act
      → ¬ (reply ≡ written number (TransferResponse SYSTEM_FAILURE (number ∷ [])))
  never_failed given one number reply act two = grind (arith, tells_by, by_octets)

  -- what the definition decides tells no fault
  pub running_is_sound : (result : Outcome) → IsAnswered from (prepared_of octets) result → ¬ (TellsFault result)
  running_is_sound (Drop why) is = ⊎_elim
      (λ e. let dropped : why ≡ Device = cc e in
      never_dropped (answer_within is.0 from (prepared_of octets) is.1) (running_tells_none is.0 from octets (may_record is.0 is.1))
      (is.2 ∙ ap (λ (w : Why). Silent w) dropped))
      (λ by. cc (by.1.1))
  running_is_sound (Answer receipt) is = ⊎_elim (λ e. cc e)
      (λ by. let same : receipt ≡ by.1.0 = cc (by.1.1) in
      never_failed (answer_within is.1.0 from (prepared_of octets) is.1.1) (running_tells_none is.1.0 from octets (may_record is.1.0 is.1.1)) by.0 receipt.reply
      is.0 is.1.2 (ap (λ (r : Receipt). r.reply) same ∙ by.1.2))

-- what was done is what the definition decides by an index
pub done_by : (from : Addr) (datagram : PreparedValue) (o : Observed) (room : HistoryAct → Bool) (finished : Done)
    → ((why : Why) → finished ≡ done.Silent why → decided (answer_within o from datagram room) ≡ Silent why)
    → ((reply : List ℕ) → finished ≡ done.Said reply → (a : Option HistoryAct) × (decided (answer_within o from datagram room) ≡ Says reply a))
    → IsDoneBy from datagram finished
done_by from datagram o room finished silent said = search rules

-- ---- what is stored leaves room

never_refused : (given : Given) → is_without_resources given ≡ false → (after : BookValue) (result : Outcome) → result ≡ outcome_at after (decided given) → (number : ℕ) → ¬ (AnswersBy number NO_RESOURCES result)
never_refused given one after result two number = search (rules, lacks_by, by_octets)

-- the laws of releases and cancels
abbrev pub HasResources : (List ℕ → TransferValue) → Type 0
HasResources asked = (h : List HistoryEntry) (size : ℕ) (from : Addr) (number : ℕ) (numbers : List ℕ) → IsWithin h size → is_without_resources (answer_to h from (Request number (asked numbers)) size) ≡ false

module _ (release : HasResources Release) (cancel : HasResources Cancel) (h : List HistoryEntry) (size : ℕ) (from : Addr) (datagram : PreparedValue) (after : BookValue) (result : Outcome)
    (within : IsWithin h size) (is : result ≡ outcome_at after (decided (answer_to h from datagram size))) (runs : ¬ (TellsFault result)) where
  served : (number : ℕ) → is_without_resources (answer_to h from datagram size) ≡ false → IsServed number result
  served number has = (never_refused (answer_to h from datagram size) has after result is number, λ by. runs (inr (number, by)))

  pub has_storage : HasStorage h from datagram size result
  has_storage = record {
    request = λ number body e limits room. served number
        (ap (λ (d : PreparedValue). is_without_resources (answer_to h from d size)) e ∙ room_is_enough (observed h (node_of from)) from number body (room_for h size) limits room);
    release = λ number numbers e. served number (ap (λ (d : PreparedValue). is_without_resources (answer_to h from d size)) e ∙ release h size from number numbers within);
    cancel = λ number numbers e. served number (ap (λ (d : PreparedValue). is_without_resources (answer_to h from d size)) e ∙ cancel h size from number numbers within);
  }
