-- The answer of a gateway with a history, and the history after it.
use Rattle.std.specs.Prelude.{ℕ, Bool, List, [], ◌∷◌, ◌++◌, Option, Some, None}
use Rattle.entry_codec.specs.Room.{has_room}
use Rattle.gw_base.specs.History.{moment_after}
use Rattle.gw_base.specs.Observed.{observed}
use Rattle.gw_base.specs.declared.address.Addr.{Addr}
use Rattle.gw_base.specs.declared.history.Caller.{Caller}
use Rattle.gw_base.specs.declared.history.HistoryAct.{HistoryAct}
use Rattle.gw_base.specs.declared.history.HistoryEntry.{HistoryEntry}
use Rattle.gateway_answer.specs.Answer.{Decided, Given, Says, Silent, answer_within, decided, node_of}
use Rattle.gateway_answer.specs.Preparing.{PreparedValue, prepared_of}

-- the entry that records an act of this caller: its moment is never less than the last entry's
abbrev pub entry_by : List HistoryEntry → ℕ → Caller → HistoryAct → HistoryEntry
entry_by h now who act = record { moment = moment_after h now; caller = who; act = act }

-- the caller of an entry that no session made
abbrev pub no_caller : Caller
no_caller = record { session = 0; serial = 0 }

-- whether a journal on so many octets has room for an act behind a history; neither its moment nor its caller matters
abbrev pub room_for : List HistoryEntry → ℕ → HistoryAct → Bool
room_for h size act = has_room h (entry_by h 0 no_caller act) size

-- what a gateway with this history, whose journal lies on so many octets, answers to what was made of a datagram
abbrev pub answer_to : List HistoryEntry → Addr → PreparedValue → ℕ → Given
answer_to h from datagram size = answer_within (observed h (node_of from)) from datagram (room_for h size)

-- what it answers to the octets of a datagram from this sender
abbrev pub answer : List HistoryEntry → Addr → List ℕ → ℕ → Given
answer h from octets size = answer_to h from (prepared_of octets) size

-- the act that an answer records
abbrev pub act_decided : Decided → Option HistoryAct
act_decided (Silent why) = None
act_decided (Says octets act) = act

abbrev pub act_given : Given → Option HistoryAct
act_given given = act_decided (decided given)

-- the history with one more entry, where an act is recorded
abbrev pub with_act : List HistoryEntry → ℕ → Caller → Option HistoryAct → List HistoryEntry
with_act h now who None = h
with_act h now who (Some act) = h ++ entry_by h now who act ∷ []

-- the history after an answer
abbrev pub after_answer : List HistoryEntry → ℕ → Caller → Given → List HistoryEntry
after_answer h now who given = with_act h now who (act_given given)
