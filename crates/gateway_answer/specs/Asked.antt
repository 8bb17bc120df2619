-- What a request asks, by its packet or its list of numbers, and the act that it is recorded as.
use Rattle.std.specs.Prelude.{ℕ, Bool, true, false, ◌==◌, List, filter, Option, Some, None}
use Rattle.std.specs.Option.{option_map}
use Rattle.gtpp_message.specs.Packet.{PacketValue, Empty, Full}
use Rattle.gw_base.specs.Lists.{once}
use Rattle.gw_base.specs.Observed.{Observed}
use Rattle.gw_base.specs.declared.address.NodeId.{NodeId}
use Rattle.gw_base.specs.declared.history.HistoryAct.{HistoryAct}
use Rattle.gw_base.specs.declared.history.HistoryAct.TheVariants as act
use Rattle.gw_base.specs.declared.key_state.KeyState.{KeyState}
use Rattle.transfer_cmd.specs.Lists.{is_held}
use Rattle.transfer_cmd.specs.declared.decision.Ask.{Ask}
use Rattle.transfer_cmd.specs.declared.decision.Ask.TheVariants as ask
use Rattle.transfer_cmd.specs.declared.verdict.Verdict.{Verdict}
use Rattle.transfer_cmd.specs.declared.verdict.Verdict.TheVariants.{Wrong, Before, Change}

-- Requests that send a packet.

-- what a request that sends this packet asks
abbrev pub sending : PacketValue → Ask
sending Empty = ask.Empty
sending (Full form value) = ask.Send

-- the same where the packet is possibly duplicated
abbrev pub sending_again : PacketValue → Ask
sending_again Empty = ask.Empty
sending_again (Full form value) = ask.Possible

-- what a request that sends a packet is recorded as, where it gives its number a state
abbrev pub act_of : Ask → NodeId → ℕ → List ℕ → HistoryAct
act_of ask.Send node number packet = act.File node number packet
act_of ask.Possible node number packet = act.Hold node number packet
act_of ask.Empty node number packet = act.Seal node number

abbrev pub recorded_as : Ask → NodeId → ℕ → List ℕ → Option KeyState → Option HistoryAct
recorded_as asked node number packet given = option_map (λ state. act_of asked node number packet) given

-- Requests that name a list of numbers.

-- the held ones of these numbers, each once, in the order in which they are first named
abbrev pub held_ones : Observed → List ℕ → List ℕ
held_ones o numbers = once (λ x y. x == y) (filter (λ x. is_held (o.state x)) numbers)

abbrev pub changing : Bool → NodeId → List ℕ → HistoryAct
changing true node numbers = act.Release node numbers
changing false node numbers = act.Cancel node numbers

-- what a list is recorded as by its verdict
abbrev pub changes : Verdict → Bool → NodeId → List ℕ → Option HistoryAct
changes Wrong release node numbers = None
changes Before release node numbers = None
changes Change release node numbers = Some (changing release node numbers)
