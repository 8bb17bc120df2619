-- The logs that a node has: those that its calls make, one after the other.
use Rattle.std.specs.Prelude.{ℕ, nat_lt, if◌then◌else◌, List, [], ◌∷◌, Option, Some, None}
use Rattle.gtpp_message.specs.Packet.{PacketForm}
use Rattle.gw_base.specs.declared.address.Addr.{Addr}
use Rattle.node_core.specs.declared.fault.SubmitFault.{SubmitFault}
use Rattle.node_core.specs.declared.port.Port.{Port}
use Rattle.node_core.specs.Hearing.{heard_entries}
use Rattle.node_core.specs.Log.{LogEntry, Began, Halted, Submitted, NodeSetup}
use Rattle.node_core.specs.Submitting.{refusal}
use Rattle.node_core.specs.Ticks.{tick_entries}
use Rattle.node_core.specs.Value.{NodeValue, logged, node_of}

-- a call that may move a node
pub data NodeCall : Type 0 where
  Submit : (form : PacketForm) → NodeCall
  Tick : NodeCall
  Hear : (port : Port) (from : Addr) (octets : List ℕ) → NodeCall
  Halt : NodeCall
  Start : NodeCall

-- The most packets of a node over all its starts, some 2^62: each draws at most two numbers for a gateway, and so no number
-- reaches the end of all numbers.
abbrev pub most_submissions : ℕ
most_submissions = 4611686018427355136

-- a packet that isn't refused is submitted
abbrev pub submit_entries : NodeValue → Option SubmitFault → PacketForm → List LogEntry
submit_entries node None form = if nat_lt node.submissions most_submissions then Submitted form ∷ [] else []
submit_entries node (Some fault) form = []

-- what befalls a node that runs, by a call, and one that is halted, which hears and sends nothing
abbrev pub entries_running : NodeValue → NodeCall → List LogEntry
entries_running node (Submit form) = submit_entries node (refusal node form) form
entries_running node Tick = tick_entries node
entries_running node (Hear port from octets) = heard_entries node port from octets
entries_running node Halt = Halted ∷ []
entries_running node Start = []

abbrev pub entries_halted : NodeCall → List LogEntry
entries_halted (Submit form) = []
entries_halted Tick = []
entries_halted (Hear port from octets) = []
entries_halted Halt = Halted ∷ []
entries_halted Start = Began ∷ []

abbrev pub call_entries : NodeValue → NodeCall → List LogEntry
call_entries node call = if node.is_running then entries_running node call else entries_halted call

-- the log after some calls, the newest first
abbrev pub log_of : NodeSetup → List NodeCall → List LogEntry
log_of setup [] = Began ∷ []
log_of setup (call ∷ calls) = logged (call_entries (node_of setup (log_of setup calls)) call) (log_of setup calls)

-- the node after them
abbrev pub reached : NodeSetup → List NodeCall → NodeValue
reached setup calls = node_of setup (log_of setup calls)
