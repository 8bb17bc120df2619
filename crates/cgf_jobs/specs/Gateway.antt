-- The gateway of a feed: what it answers and records. No session makes its entries, and each is firm before the next line
-- is run.
use Rattle.std.specs.Prelude.{ℕ, List, [], Option, Some, None}
use Rattle.gateway_answer.specs.Answer.{Decided, decided}
use Rattle.gateway_answer.specs.Answered.{act_decided, answer, no_caller, with_act}
use Rattle.gateway_answer.specs.Marks.{Mark, NotDue, NoRoom, Makes, close_mark, tick_mark}
use Rattle.gateway_answer.specs.Value.{history_of, opened}
use Rattle.gw_base.specs.declared.address.Addr.{Addr}
use Rattle.gw_base.specs.declared.history.HistoryAct.{HistoryAct}
use Rattle.gw_base.specs.declared.history.HistoryEntry.{HistoryEntry}

-- its history, how many octets the area of its journal has, and for how many seconds a file may be open
pub record GatewayValue : Type 0 where
  pub history : List HistoryEntry
  pub reserved : ℕ
  pub open_time : ℕ

-- a gateway that was just opened on an area of zeros
abbrev pub new_gateway : ℕ → ℕ → GatewayValue
new_gateway reserved open_time =
    record { history = history_of (opened reserved []); reserved = reserved; open_time = open_time }

-- with one more entry, where an act is recorded
abbrev pub recording : GatewayValue → ℕ → Option HistoryAct → GatewayValue
recording g now act = record g { history = with_act g.history now no_caller act }

-- what it answers to the octets of a datagram from this sender
abbrev pub answered : GatewayValue → Addr → List ℕ → Decided
answered g from octets = decided (answer g.history from octets g.reserved)

-- after that
abbrev pub after_datagram : GatewayValue → ℕ → Addr → List ℕ → GatewayValue
after_datagram g now from octets = recording g now (act_decided (answered g from octets))

-- what a mark records
abbrev pub act_made : Mark → Option HistoryAct
act_made NotDue = None
act_made NoRoom = None
act_made (Makes act) = Some act

-- after a Tick was asked for, which closes the files that were opened long ago
abbrev pub after_tick : GatewayValue → ℕ → GatewayValue
after_tick g now = recording g now (act_made (tick_mark g.open_time now g.history g.reserved))

-- after a Close was asked for, which closes all open files
abbrev pub after_close : GatewayValue → ℕ → GatewayValue
after_close g now = recording g now (act_made (close_mark g.history))
