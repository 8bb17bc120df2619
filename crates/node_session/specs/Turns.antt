-- What a session's turns do to a value that stands for a gateway's history.
use Rattle.std.specs.Prelude.{◌≡◌, ◌≢◌, ◌⊎◌, ℕ, Bool, true, false, List, [], ◌∷◌, ◌++◌, Option, None, Some, Result, Err, IfOk, All, length, ⊤}
use Rattle.area_disk.specs.Disk.{Rose, counted}
use Rattle.gw_base.specs.Facts.{Facts, WhereTold}
use Rattle.gw_base.specs.Owes.{base}
use Rattle.gw_base.specs.declared.address.Addr.{Addr}
use Rattle.gw_base.specs.declared.history.Caller.{Caller}
use Rattle.gw_base.specs.declared.history.HistoryAct.{HistoryAct}
use Rattle.gw_base.specs.declared.history.HistoryEntry.{HistoryEntry}
use Rattle.gw_base.specs.declared.item.Item.{Item}
use Rattle.gateway_answer.specs.Answer.{Decided, Says, Silent, decided, failure_answer}
use Rattle.gateway_answer.specs.Answered.{act_decided, answer, entry_by}
use Rattle.gateway_book.specs.Caller.{IsAnswered, IsFailure, TellsFault}
use Rattle.gateway_book.specs.Calls.{cause_in, settled_by}
use Rattle.gateway_answer.specs.Items.{IsWritable, items_between}
use Rattle.gateway_answer.specs.Preparing.{prepared_of}
use Rattle.gateway_book.specs.declared.outcome.ItemsFault.{ItemsFault}
use Rattle.gateway_book.specs.declared.outcome.ItemsFault.TheVariants as fault
use Rattle.gateway_book.specs.declared.outcome.Outcome.{Outcome}
use Rattle.gateway_book.specs.declared.outcome.Outcome.TheVariants.{Answer, Drop}
use Rattle.gateway_book.specs.declared.outcome.Receipt.{Receipt}
use Rattle.gateway_book.specs.declared.outcome.Settled.{Settled}
use Rattle.gateway_book.specs.declared.outcome.Settled.TheVariants.{NotYet}

-- what a gateway with this history, on so many octets, decides on the octets of a datagram from this sender
abbrev pub decided_at : List HistoryEntry → ℕ → Addr → List ℕ → Decided
decided_at h size from octets = decided (answer h from octets size)

-- what it decides where its device fails
abbrev pub decided_by_fault : List ℕ → Decided
decided_by_fault octets = decided (failure_answer (prepared_of octets))

-- the entries of an act behind a history: one, or none where no act is recorded
abbrev pub entries_of : List HistoryEntry → ℕ → Caller → Option HistoryAct → List HistoryEntry
entries_of h now who None = []
entries_of h now who (Some act) = entry_by h now who act ∷ []

-- the entries that the answer to a datagram calls for behind a history
abbrev pub called_for : List HistoryEntry → ℕ → Addr → List ℕ → ℕ → Caller → List HistoryEntry
called_for h size from octets now who = entries_of h now who (act_decided (decided_at h size from octets))

-- A caller is told what was decided: that nothing is answered, or a receipt with the octets of the reply and their
-- cause.
abbrev pub Tells : Decided → Outcome → Type 0
Tells (Silent why) outcome = outcome ≡ Drop why
Tells (Says octets act) outcome =
    (receipt : Receipt) × (outcome ≡ Answer receipt) × (receipt.reply ≡ octets) × (receipt.cause ≡ cause_in octets)

-- A receipt has the length of the history after the answer, the count of commits and openings again that failed, and
-- the cause in its reply.
abbrev pub IsCountedAt : Facts → Outcome → Type 0
IsCountedAt left (Answer receipt) =
    (receipt.front ≡ left.entries) × (receipt.faults ≡ left.cuts) × (receipt.cause ≡ cause_in receipt.reply)
IsCountedAt left (Drop why) = ⊤

-- A datagram of this sender was taken, at this moment and by this caller.
module _ (from : Addr) (octets : List ℕ) (now : ℕ) (who : Caller) (found left : Facts) (added : List HistoryEntry)
    (outcome : Outcome) where
  -- It was answered by the definition at this history, and the one entry added that the answer calls for, behind it. It
  -- is the list that was found, but for a book with torn entries.
  pub record IsTakenAt (h : List HistoryEntry) : Type 0 where
    pub whole : found.torn ≡ [] → h ≡ found.list
    pub tells : Tells (decided_at h found.size from octets) outcome
    pub adds : added ≡ called_for h found.size from octets now who
    pub list : left.list ≡ h ++ added

  -- The device failed in this turn: a request fails, all else is dropped, and nothing was added.
  pub record IsFailed : Type 0 where
    pub rose : Rose found.faults left.faults
    pub tells : Tells (decided_by_fault octets) outcome
    pub adds : added ≡ []

  -- The history is the list that was found, with the torn entries of a broken book taken in or dropped.
  abbrev pub IsOneOf : Bool → Type 0
  IsOneOf drops = IsTakenAt (base drops found) ⊎ IsFailed

  -- The turn that took the datagram.
  pub record HasTaken (told : Bool) (drops : Bool) : Type 0 where
    pub answers : WhereTold told (IsOneOf drops)
    -- Over every area: it is an answer of some gateway, or that of a failed device whose count rose in this turn.
    pub decides : IsAnswered from (prepared_of octets) outcome
        ⊎ (IsFailure (prepared_of octets) outcome × Rose found.faults left.faults)
    pub fault : TellsFault outcome → Rose found.faults left.faults
    pub counts : IsCountedAt left outcome

-- A turn that asks what has become of an answer with this front, given when so many commits and openings again had
-- failed.
module _ (told : Bool) (front faults : ℕ) where
  -- What is told at a value with these facts, of whose journal so many entries are firm: over every area as many as the
  -- length that never falls, while no commit failed.
  pub record IsToldAt (now : Facts) (firm : ℕ) (settled : Settled) : Type 0 where
    pub calm : now.cuts ≡ 0 → firm ≡ now.length
    pub is : settled ≡ settled_by now.cuts firm front faults
    pub counts : WhereTold told (settled ≡ settled_by now.cuts (length now.firm) front faults)

  -- what the turn did, by the facts that it found and left and how many entries were firm at each
  module _ (found left : Facts) (firm_found firm_left : ℕ) (settled : Settled) (added : List HistoryEntry) where
    -- It could be told at once, and nothing was done.
    pub record HasAsked : Type 0 where
      pub tells : IsToldAt left firm_left settled
      pub sure : (n : ℕ) → settled ≢ NotYet n
      pub still : (left ≡ found) × (firm_left ≡ firm_found)
      pub adds : added ≡ []

    -- It wasn't firm yet. So the turn made the history firm, or left the book broken, and then it was told.
    pub record HasCommitted : Type 0 where
      pub short : ℕ
      pub waited : IsToldAt found firm_found (NotYet short)
      pub tells : IsToldAt left firm_left settled
      pub is_broken : Bool
      pub all : is_broken ≡ false → (firm_left ≡ left.entries) × WhereTold told (left.list ≡ left.firm)
      pub uncut : is_broken ≡ false → left.cuts ≡ found.cuts
      pub cut : is_broken ≡ true → left.cuts ≡ counted 1 found.cuts
      pub rose : is_broken ≡ true → Rose found.faults left.faults
      pub adds : added ≡ []

    -- the turn commits only where the answer isn't firm yet
    abbrev pub Settles : Type 0
    Settles = HasAsked ⊎ HasCommitted

-- The turn that told a writer of files the firm items from a number on, so many at most, and changed nothing.
pub record HasListed {R : Type 0} (told : Bool) (from max : ℕ) (found left : Facts) (answer : Result R ItemsFault)
    (items : R → List Item) (added : List HistoryEntry) : Type 0 where
  pub listed : WhereTold told (IfOk answer (λ r. items r ≡ items_between from max found.firm))
  pub writable : IfOk answer (λ r. All IsWritable (items r))
  pub firm : WhereTold told (left.firm ≡ found.firm)
  pub device : answer ≡ Err fault.Device → Rose found.faults left.faults
  pub still : answer ≢ Err fault.Device → left.faults ≡ found.faults
  pub adds : added ≡ []
