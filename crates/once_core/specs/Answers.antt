-- What gateways and nodes make of a message that reaches them, and of what else is asked of them.
use Rattle.std.specs.Prelude.{ℕ, ◌%◌, ◌+◌, ◌&&◌, Bool, false, if◌then◌else◌, List, [], ◌∷◌, ◌++◌, length, map, Option, None, option_map}
use Rattle.byteorder.specs.Endian.{big_bytes}
use Rattle.gtpp_message.specs.Message.{RedirectionRequest}
use Rattle.gtpp_message.specs.Writing.{written}
use Rattle.gw_base.specs.History.{is_close_due}
use Rattle.gw_base.specs.Observed.{observed}
use Rattle.gw_base.specs.Starts.{start_of}
use Rattle.gw_base.specs.TickDue.{is_tick_due}
use Rattle.gw_base.specs.declared.address.Addr.{Addr}
use Rattle.gw_base.specs.declared.history.HistoryAct.{HistoryAct}
use Rattle.gw_base.specs.declared.history.HistoryAct.TheVariants.{Tick, Close}
use Rattle.gw_base.specs.declared.history.HistoryEntry.{HistoryEntry}
use Rattle.gateway_answer.specs.Answer.{Decided, Silent, Says, answer_by, decided, failure_answer}
use Rattle.gateway_answer.specs.Answered.{no_caller}
use Rattle.gateway_answer.specs.Preparing.{prepared_of}
use Rattle.gateway_answer.specs.Told.{paths_of}
use Rattle.gateway_answer.specs.Value.{Fortune, history_of, recorded, recorded_if}
use Rattle.once_core.specs.Addresses.{gateway_address, node_address, node_at, node_id, port_at}
use Rattle.once_core.specs.Expired.{is_expired}
use Rattle.once_core.specs.Gateway.{Gateway, Moved, Rules, followed, readying, settling, still}
use Rattle.once_core.specs.Messages.{answering}
use Rattle.once_core.specs.declared.message.Message.{Message}
use Rattle.once_core.specs.declared.message.Waiting.{Waiting}

-- A message at a gateway.

-- what the gateway's history answers
abbrev pub answer_at : Rules → List HistoryEntry → Message → Decided
answer_at rules h m =
    decided (answer_by (observed h (node_id m.node)) (node_address m.node m.port) (prepared_of m.octets)
    (rules.may h (node_id m.node)))

-- the answer waits until the whole history is firm; where it is already, it is sent at once
abbrev pub waiting_for : Gateway → Message → Waiting
waiting_for g m = record { front = length (history_of g.book); message = m }

abbrev pub replying : Gateway → Message → Moved
replying g m = settling (record g { waiting = g.waiting ++ waiting_for g m ∷ [] })

abbrev pub acting : ℕ → Gateway → Message → Decided → Moved
acting now g m (Silent why) = still g
acting now g m (Says octets act) = replying (record g { book = recorded_if g.book now no_caller act }) (answering m octets)

abbrev pub answered : Rules → ℕ → Message → Gateway → Moved
answered rules now m g = acting now g m (answer_at rules (history_of g.book) m)

-- the answer of a gateway that broke on the way
abbrev pub failed_by : Message → Gateway → Decided → Moved
failed_by m g (Silent why) = still g
failed_by m g (Says octets act) = record { gateway = g; sends = answering m octets ∷ [] }

abbrev pub failed : Message → Gateway → Moved
failed m g = failed_by m g (decided (failure_answer (prepared_of m.octets)))

-- the first where the gateway is broken, and else the second
abbrev pub if_broken : (Gateway → Moved) → (Gateway → Moved) → Gateway → Moved
if_broken breaks goes_on g = if g.book.is_broken then breaks g else goes_on g

-- an expired message isn't delivered
abbrev pub unless_expired : Message → (Gateway → Moved) → Gateway → Moved
unless_expired m deliver g = if is_expired (history_of g.book) m then still g else deliver g

-- A gateway that runs is asked first whether the message is expired, and then commits where its batch is full.
abbrev pub delivered_running : Rules → ℕ → Fortune → Message → Gateway → Moved
delivered_running rules now f m g =
    unless_expired m (λ g. followed (readying rules f g) (if_broken (failed m) (answered rules now m))) g

-- One that is broken opens its journal again first. Where that fails the message is as lost.
abbrev pub delivered_broken : Rules → ℕ → Fortune → Message → Gateway → Moved
delivered_broken rules now f m g =
    followed (readying rules f g) (if_broken still (unless_expired m (answered rules now m)))

abbrev pub delivered : Rules → ℕ → Fortune → Message → Gateway → Moved
delivered rules now f m g =
    if g.is_down then still g
    else if_broken (delivered_broken rules now f m) (delivered_running rules now f m) g

-- the same where nobody asks whether the message is expired
abbrev pub taken_in : Rules → ℕ → Fortune → Message → Gateway → Moved
taken_in rules now f m g =
    if g.is_down then still g
    else followed (readying rules f g) (if_broken (if g.book.is_broken then still else failed m) (answered rules now m))

-- Marks.

-- a mark is recorded where it is due, once the journal is ready
abbrev pub recorded_where : Bool → ℕ → HistoryAct → Gateway → Moved
recorded_where is_due now act g =
    if is_due then still (record g { book = recorded g.book now no_caller act }) else still g

abbrev pub making_tick : Rules → ℕ → Gateway → Moved
making_tick rules now g =
    let h = history_of g.book in recorded_where (is_tick_due rules.open_time now h && rules.room h Tick) now Tick g

abbrev pub making_close : ℕ → Gateway → Moved
making_close now g = recorded_where (is_close_due (history_of g.book)) now Close g

-- a Close where it may be made
abbrev pub closing : Rules → ℕ → Gateway → Moved
closing rules now g = if rules.may_close (history_of g.book) then making_close now g else still g

abbrev pub marked : Rules → Fortune → (Gateway → Moved) → Gateway → Moved
marked rules f mark g = followed (readying rules f g) (if_broken still mark)

-- Redirection.

-- the request to one node, which recommends this gateway or none
abbrev pub redirecting : ℕ → ℕ → Option ℕ → Gateway → Addr → Message
redirecting gateway cause to g path = record {
  to_gateway = false;
  gateway = gateway;
  node = node_at path;
  port = port_at path;
  start = start_of path.ip (history_of g.book);
  number = g.redirects % 65536;
  named = None;
  octets = written (g.redirects % 65536)
      (RedirectionRequest cause (option_map (λ other. big_bytes 4 (gateway_address other).ip) to));
}

-- the requests to all nodes with a path, under one number
abbrev pub redirected : ℕ → ℕ → Option ℕ → Gateway → Moved
redirected gateway cause to g = record {
  gateway = record g { redirects = g.redirects + 1 };
  sends = map (redirecting gateway cause to g) (paths_of (history_of g.book));
}
