-- What the calls of a book make of the value that it stands for, and what they answer.
use Rattle.std.specs.Prelude.{ℕ, ◌+◌, ◌-◌, ◌==◌, ◌||◌, nat_lt, Bool, if◌then◌else◌, List, length, slice_get, Option, Some, None, Result, Ok, Err}
use Rattle.area_disk.specs.Disk.{last_count}
use Rattle.entry_codec.specs.Room.{capacity_of, costs_of}
use Rattle.gtpp_message.specs.Message.{MessageValue, TransferResponse}
use Rattle.gtpp_message.specs.declared.message_types.TheConstants.{TRANSFER_RESPONSE}
use Rattle.gw_base.specs.HeldKeys.{promised_octets}
use Rattle.gw_base.specs.History.{copies_of}
use Rattle.gw_base.specs.declared.address.Addr.{Addr}
use Rattle.gw_base.specs.declared.history.Caller.{Caller}
use Rattle.gateway_answer.specs.Answer.{Decided, Given, Says, Silent, decided, failure_answer}
use Rattle.gateway_answer.specs.Answered.{act_decided, answer_to}
use Rattle.gateway_answer.specs.Filed.{filed}
use Rattle.gateway_answer.specs.Marks.{Mark, NotDue, NoRoom, Makes, close_mark, tick_mark}
use Rattle.gateway_answer.specs.Preparing.{PreparedValue}
use Rattle.gateway_answer.specs.Value.{BookValue, Fortune, after_commit, history_of, readied, recorded, recorded_if}
use Rattle.gateway_book.specs.declared.outcome.Broken.{Broken}
use Rattle.gateway_book.specs.declared.outcome.Marked.{Marked}
use Rattle.gateway_book.specs.declared.outcome.Marked.TheVariants as marked
use Rattle.gateway_book.specs.declared.outcome.Outcome.{Outcome}
use Rattle.gateway_book.specs.declared.outcome.Outcome.TheVariants as outcome
use Rattle.gateway_book.specs.declared.outcome.Settled.{Settled}
use Rattle.gateway_book.specs.declared.outcome.Settled.TheVariants as settled
use Rattle.gateway_book.specs.declared.outcome.Counts.{Counts}
use Rattle.gateway_book.specs.declared.outcome.GatewayCounts.{GatewayCounts}

-- A datagram is taken.

-- what is answered, where the book is ready: a book that is broken then fails the request
abbrev pub given_at : BookValue → Addr → PreparedValue → ℕ → Given
given_at ready from datagram size =
    if ready.is_broken then failure_answer datagram else answer_to (history_of ready) from datagram size

-- the cause in a reply that is a Data Record Transfer Response: the value of its first element, which stands behind the
-- six octets of the header and one of the element's type (3GPP TS 32.295, clauses 6.1 and 6.2.4)
abbrev pub cause_behind : Option ℕ → Option ℕ → Option ℕ
cause_behind None value = None
cause_behind (Some kind) value = if kind == TRANSFER_RESPONSE then value else None

abbrev pub cause_in : List ℕ → Option ℕ
cause_in octets = cause_behind (slice_get octets 1) (slice_get octets 7)

-- the cause of a message that is one
abbrev pub cause_of : MessageValue → Option ℕ
cause_of (TransferResponse cause responded) = Some cause
cause_of _ = None

-- what the caller is told of an answer: its octets and their cause, the length of the history that they rest on, and
-- how many commits and openings again have failed
abbrev pub outcome_at : BookValue → Decided → Outcome
outcome_at after (Silent why) = outcome.Drop why
outcome_at after (Says octets act) =
    outcome.Answer (record { reply = octets; cause = cause_in octets; front = length (history_of after); faults = after.cuts })

-- the book as a call left it, and what the call answered
pub record Left (A : Type 0) : Type 0 where
  pub value : BookValue
  pub answer : A

abbrev pub left_by : BookValue → ℕ → Caller → Decided → Left Outcome
left_by ready now who decision =
    let after = recorded_if ready now who (act_decided decision) in record { value = after; answer = outcome_at after decision }

-- a datagram of this sender is taken
abbrev pub taken : Fortune → Addr → PreparedValue → ℕ → ℕ → Caller → BookValue → Left Outcome
taken f from datagram size now who v =
    let ready = readied f v in left_by ready now who (decided (given_at ready from datagram size))

-- A mark is made.

abbrev pub marked_at : BookValue → ℕ → Caller → Mark → Left Marked
marked_at ready now who NotDue = record { value = ready; answer = marked.NotDue }
marked_at ready now who NoRoom = record { value = ready; answer = marked.NoRoom }
marked_at ready now who (Makes act) =
    let after = recorded ready now who act in
    record { value = after; answer = marked.Made (length (history_of after)) after.cuts }

-- what comes of a mark, where the book is ready
abbrev pub marked_if_ready : BookValue → ℕ → Caller → Mark → Left Marked
marked_if_ready ready now who mark =
    if ready.is_broken then record { value = ready; answer = marked.Device } else marked_at ready now who mark

-- a Tick is asked for
abbrev pub ticked : Fortune → ℕ → ℕ → ℕ → Caller → BookValue → Left Marked
ticked f open_time size now who v =
    let ready = readied f v in marked_if_ready ready now who (tick_mark open_time now (history_of ready) size)

-- a Close is asked for
abbrev pub closed : Fortune → ℕ → Caller → BookValue → Left Marked
closed f now who v = let ready = readied f v in marked_if_ready ready now who (close_mark (history_of ready))

-- The history is made firm.

-- the length of the firm part, or that the book is broken
abbrev pub commit_answer : BookValue → Result ℕ Broken
commit_answer after = if after.is_broken then Err (record { faults = after.cuts }) else Ok (length after.firm)

abbrev pub commit_left : Fortune → BookValue → Left (Result ℕ Broken)
commit_left f v = let after = after_commit f v in record { value = after; answer = commit_answer after }

-- The length that never falls: how many entries are firm, or from the first commit or opening again that failed on, how
-- many were firm then.
abbrev pub length_at : ℕ → ℕ → ℕ → ℕ
length_at cuts firm kept = if cuts == 0 then firm else kept

-- whether a count is above another; one that stands at its last value counts as above any
abbrev pub is_above : ℕ → ℕ → Bool
is_above count other = (count == last_count) || nat_lt other count

-- what has become of an answer that rests on a front of the history, made when so many commits had failed, where so
-- many have failed now and so many entries are firm
abbrev pub settled_by : ℕ → ℕ → ℕ → ℕ → Settled
settled_by cuts firm front faults =
    if is_above cuts faults then settled.Lost cuts else (if nat_lt firm front then settled.NotYet firm else settled.Firm)

abbrev pub settled_of : BookValue → ℕ → ℕ → Settled
settled_of v front faults = settled_by v.cuts (length v.firm) front faults

-- how much the book has recorded and holds, on so many octets
abbrev pub counts_of : BookValue → ℕ → Counts
counts_of v size = record {
  entries = length (history_of v);
  firm = length v.firm;
  held = (copies_of (history_of v)).held;
  stranded = (copies_of (history_of v)).stranded;
  free = capacity_of size - (costs_of (history_of v) + promised_octets (history_of v));
}

-- What is reported of a gateway.

-- by what its book counts, and how many records were filed
abbrev pub gateway_counts_with : Counts → ℕ → GatewayCounts
gateway_counts_with counts records = record {
  entries = counts.entries;
  records = records;
  held = counts.held;
  stranded = counts.stranded;
}

-- of its book: the entries, the records that the firm ones filed, the copies that are held, and those of earlier epochs
-- that were neither released nor cancelled
abbrev pub gateway_counts_of : BookValue → GatewayCounts
gateway_counts_of v = let h = history_of v in record {
  entries = length h;
  records = length (filed v.firm);
  held = (copies_of h).held;
  stranded = (copies_of h).stranded;
}
