-- Messages that outlived their number's window: a network that delivers them breaks what the two ends rely on. A gateway
-- knows numbers by their last 16 bits, and which start of the node a message is of by the node's present epoch alone.
use Rattle.std.specs.Prelude.{ℕ, ◌==◌, ◌&&◌, ◌||◌, ◌%◌, not, nat_lt, Bool, true, false, List, Some, count_by}
use Rattle.gw_base.specs.History.{top_of}
use Rattle.gw_base.specs.Nearest.{nearest}
use Rattle.gw_base.specs.Starts.{start_of}
use Rattle.gw_base.specs.declared.history.HistoryEntry.{HistoryEntry}
use Rattle.node_core.specs.Log.{LogEntry, Began}
use Rattle.node_core.specs.Peers.{last_number}
use Rattle.node_core.specs.Value.{NodeValue}
use Rattle.once_core.specs.Addresses.{node_ip}
use Rattle.once_core.specs.Messages.{about, is_request, is_response}
use Rattle.once_core.specs.declared.message.Message.{Message}

-- At a gateway with this history.

-- the start of the node's present epoch, and the number that the wire's 16 bits are taken for there
abbrev pub present_start : List HistoryEntry → Message → ℕ
present_start h m = start_of (node_ip m.node) h

abbrev pub taken_for : List HistoryEntry → Message → ℕ
taken_for h m = nearest (top_of (node_ip m.node) h) (about m % 65536)

-- a request is expired where it is of another start than the present epoch, or where the number that it speaks of is
-- taken for another; each message is where it is of an earlier start
abbrev pub is_expired_request : List HistoryEntry → Message → Bool
is_expired_request h m = not (m.start == present_start h m) || not (taken_for h m == about m)

abbrev pub is_expired : List HistoryEntry → Message → Bool
is_expired h m = nat_lt m.start (present_start h m) || (is_request m && is_expired_request h m)

-- At a node.

-- how many starts a node has made
abbrev pub begins : LogEntry → Bool
begins Began = true
begins _ = false

abbrev pub starts_in : List LogEntry → ℕ
starts_in log = count_by begins log

-- a response is expired where its number is taken for another one of the gateway's; each message is where it is of
-- another start than the present one
abbrev pub is_taken_for_another : NodeValue → Message → Bool
is_taken_for_another node m = not (nearest (Some (last_number node.gateways m.gateway)) (m.number % 65536) == m.number)

abbrev pub is_expired_at_node : List LogEntry → NodeValue → Message → Bool
is_expired_at_node log node m = not (m.start == starts_in log) || (is_response m && is_taken_for_another node m)
