-- What a gateway answers to the messages of a stream, which all count as sent from one address: message after message,
-- each at the history that the ones before it leave (3GPP TS 32.295, clauses 5.1.3 and 6.2, over a path of TCP).
use Rattle.std.specs.Prelude.{ℕ, if◌then◌else◌, List, [], ◌∷◌, ◌++◌, Option, None, Some}
use Rattle.std.specs.Option.{option_or}
use Rattle.gw_base.specs.declared.address.Addr.{Addr}
use Rattle.gw_base.specs.declared.history.HistoryEntry.{HistoryEntry}
use Rattle.gateway_answer.specs.Answer.{Decided, Says, Silent, decided}
use Rattle.gateway_answer.specs.Answered.{act_decided, no_caller, with_act}
use Rattle.gateway_book.specs.Calls.{given_at, taken}
use Rattle.gateway_answer.specs.Preparing.{prepared_of}
use Rattle.gateway_answer.specs.Value.{BookValue, Fortune, after_commit, readied}
use Rattle.node_session.specs.Turns.{decided_at, decided_by_fault}

-- what is sent for a decision
abbrev pub octets_said : Decided → List ℕ
octets_said (Silent why) = []
octets_said (Says octets act) = octets

-- Where no call of the device fails.

-- a message, and the moment at which it is taken
pub record Timed : Type 0 where
  pub octets : List ℕ
  pub now : ℕ

-- At a gateway with a history, whose journal lies on so many octets. No session makes the entries.
module _ (size : ℕ) (from : Addr) where
  -- the history once a message is answered
  abbrev pub behind_one : List HistoryEntry → Timed → List HistoryEntry
  behind_one h m = with_act h m.now no_caller (act_decided (decided_at h size from m.octets))

  -- once all are
  abbrev pub behind : List HistoryEntry → List Timed → List HistoryEntry
  behind h [] = h
  behind h (m ∷ messages) = behind (behind_one h m) messages

  -- the replies, one after the other
  abbrev pub replies : List HistoryEntry → List Timed → List ℕ
  replies h [] = []
  replies h (m ∷ messages) = octets_said (decided_at h size from m.octets) ++ replies (behind_one h m) messages

-- Whatever the device does.

-- a message, the moment at which it is taken, and what the device does to the two calls that are made for it: one that
-- answers it, and one that makes the answer firm
pub record Tried : Type 0 where
  pub octets : List ℕ
  pub now : ℕ
  pub taking : Fortune
  pub committing : Fortune

-- the moment at which the last of messages is taken, where there is one
abbrev pub last_moment : List Tried → Option ℕ
last_moment [] = None
last_moment (m ∷ messages) = option_or (last_moment messages) (Some m.now)

-- the message alone
abbrev pub message_of : Tried → Timed
message_of m = record { octets = m.octets; now = m.now }

module _ (size : ℕ) (from : Addr) where
  -- the gateway once a message is answered, and once a commit was tried behind it
  abbrev pub after_taking : BookValue → Tried → BookValue
  after_taking v m = (taken m.taking from (prepared_of m.octets) size m.now no_caller v).value

  abbrev pub after_message : BookValue → Tried → BookValue
  after_message v m = after_commit m.committing (after_taking v m)

  abbrev pub decided_for : BookValue → Tried → Decided
  decided_for v m = decided (given_at (readied m.taking v) from (prepared_of m.octets) size)

  -- What is sent for it: what was decided, once that is firm; where the journal is broken then, it isn't, and a request is
  -- told that the device failed (cause 204).
  abbrev pub sent_for : BookValue → Tried → List ℕ
  sent_for v m = octets_said (if (after_message v m).is_broken then decided_by_fault m.octets else decided_for v m)

  -- the same of messages, one after the other
  abbrev pub after_all : BookValue → List Tried → BookValue
  after_all v [] = v
  after_all v (m ∷ messages) = after_all (after_message v m) messages

  abbrev pub sent_for_all : BookValue → List Tried → List ℕ
  sent_for_all v [] = []
  sent_for_all v (m ∷ messages) = sent_for v m ++ sent_for_all (after_message v m) messages
