-- What a book's calls tell their caller, over every area, also one that tells nothing.
use Rattle.std.specs.Prelude.{◌≡◌, ◌⊎◌, ◌↔◌, ℕ, Bool, true, false, List, [], ◌∷◌, Option, Result, Ok, Err, ⊤}
use Rattle.area_disk.specs.declared.area.Area.{Ghosts}
use Rattle.cgf_journal.specs.Trail.{firm_length, is_closed, length_of}
use Rattle.gtpp_message.specs.Message.{Cancel, Release, TransferResponse, TransferValue}
use Rattle.gtpp_message.specs.Writing.{written}
use Rattle.gtpp_message.specs.declared.reading.Why.TheVariants.{Device}
use Rattle.gw_base.specs.Observed.{Observed, observed}
use Rattle.gw_base.specs.declared.address.Addr.{Addr}
use Rattle.gw_base.specs.declared.cause.TheConstants.{NO_RESOURCES, SYSTEM_FAILURE}
use Rattle.gw_base.specs.declared.history.HistoryAct.{HistoryAct}
use Rattle.gw_base.specs.declared.history.HistoryEntry.{HistoryEntry}
use Rattle.gateway_answer.specs.Answer.{Decided, Says, Silent, answer_within, decided, failure_answer, node_of}
use Rattle.gateway_answer.specs.Answered.{room_for}
use Rattle.gateway_book.specs.Calls.{cause_in}
use Rattle.gateway_answer.specs.Preparing.{PreparedValue, Request}
use Rattle.gateway_answer.specs.Recording.{HasRoomFor, IsWithinLimits}
use Rattle.gateway_book.specs.declared.book.Book.{Book}
use Rattle.gateway_book.specs.declared.outcome.Broken.{Broken}
use Rattle.gateway_book.specs.declared.outcome.Marked.{Marked}
use Rattle.gateway_book.specs.declared.outcome.Marked.TheVariants as marked
use Rattle.gateway_book.specs.declared.outcome.Outcome.{Outcome}
use Rattle.gateway_book.specs.declared.outcome.Outcome.TheVariants.{Answer, Drop}
use Rattle.gateway_book.specs.declared.outcome.Receipt.{Receipt}

-- the caller is told that the request with this number is answered by this cause
abbrev pub AnswersBy : ℕ → ℕ → Outcome → Type 0
AnswersBy number cause result =
    (receipt : Receipt) × (result ≡ Answer receipt) × (receipt.reply ≡ written number (TransferResponse cause (number ∷ [])))

-- the caller is told that the device failed: a request is answered by the cause system failure, all else is dropped
abbrev pub TellsFault : Outcome → Type 0
TellsFault result = (result ≡ Drop Device) ⊎ ((number : ℕ) × AnswersBy number SYSTEM_FAILURE result)

-- the definition decides so on a datagram of this sender, for something that is observed and some test of the room
abbrev pub IsDecided : Addr → PreparedValue → Decided → Type 0
IsDecided from datagram decision =
    (o : Observed) × (room : HistoryAct → Bool) × (decided (answer_within o from datagram room) ≡ decision)

-- what the caller is told is what the definition decides
abbrev pub IsAnswered : Addr → PreparedValue → Outcome → Type 0
IsAnswered from datagram (Drop why) = IsDecided from datagram (Silent why)
IsAnswered from datagram (Answer receipt) = (act : Option HistoryAct) × IsDecided from datagram (Says receipt.reply act)

-- what the caller is told is the answer where the device fails: a request is failed, all else is dropped
abbrev pub IsFailure : PreparedValue → Outcome → Type 0
IsFailure datagram (Drop why) = decided (failure_answer datagram) ≡ Silent why
IsFailure datagram (Answer receipt) =
    (act : Option HistoryAct) × (decided (failure_answer datagram) ≡ Says receipt.reply act)

module _ {A : Type 0} {tells : Ghosts A} (new : Book A tells) where
  -- an answer with these octets, made now
  abbrev pub receipt_of : List ℕ → Outcome
  receipt_of octets = Answer (record { reply = octets; cause = cause_in octets; front = length_of new.trail; faults = new.cuts })

  -- a receipt tells the length of the history, how many commits and openings again have failed, and the cause in its
  -- reply
  abbrev pub IsCounted : Outcome → Type 0
  IsCounted (Drop why) = ⊤
  IsCounted (Answer receipt) =
      (receipt.front ≡ length_of new.trail) × (receipt.faults ≡ new.cuts) × (receipt.cause ≡ cause_in receipt.reply)

  -- What the sender of a datagram is told: what the definition decides where the book goes on, and where it is broken
  -- then the answer of a failed device, which is told nowhere else.
  pub record IsTold (from : Addr) (datagram : PreparedValue) (result : Outcome) : Type 0 where
    pub answered : is_closed new.trail ≡ false → IsAnswered from datagram result
    pub failed : is_closed new.trail ≡ true → IsFailure datagram result
    pub fault : TellsFault result → is_closed new.trail ≡ true
    pub counts : IsCounted result

  -- a mark that was made tells the same
  abbrev pub IsMarkCounted : Marked → Type 0
  IsMarkCounted (marked.Made front faults) = (front ≡ length_of new.trail) × (faults ≡ new.cuts)
  IsMarkCounted marked.NotDue = ⊤
  IsMarkCounted marked.NoRoom = ⊤
  IsMarkCounted marked.Device = ⊤

  -- What is told of a mark: that the device failed exactly where the book is broken then.
  pub record IsMarkTold (result : Marked) : Type 0 where
    pub device : (result ≡ marked.Device) ↔ (is_closed new.trail ≡ true)
    pub counts : IsMarkCounted result

  -- what is told of a commit: how many entries are firm, which are all of them, or how many commits and openings again
  -- have failed
  abbrev pub IsCommitTold : Result ℕ Broken → Type 0
  IsCommitTold (Ok firm) = (firm ≡ firm_length new.trail) × (firm ≡ length_of new.trail)
  IsCommitTold (Err broken) = broken.faults ≡ new.cuts

-- Storage.

-- the request with this number is neither refused for want of resources nor failed
abbrev pub IsServed : ℕ → Outcome → Type 0
IsServed number result = ¬ (AnswersBy number NO_RESOURCES result) × ¬ (AnswersBy number SYSTEM_FAILURE result)

-- What is stored of a history leaves room: a request is served that is within the limits, where there is room for what
-- it calls for, and so is each that releases or cancels.
pub record HasStorage (h : List HistoryEntry) (from : Addr) (datagram : PreparedValue) (size : ℕ) (result : Outcome) : Type 0 where
  pub request : (number : ℕ) (body : TransferValue) → datagram ≡ Request number body
      → IsWithinLimits (observed h (node_of from)) number
      → HasRoomFor (observed h (node_of from)) from (Request number body) (room_for h size) → IsServed number result
  pub release : (number : ℕ) (numbers : List ℕ) → datagram ≡ Request number (Release numbers) → IsServed number result
  pub cancel : (number : ℕ) (numbers : List ℕ) → datagram ≡ Request number (Cancel numbers) → IsServed number result
