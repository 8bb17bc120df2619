-- The packets that a node ever followed.
use Rattle.std.specs.Prelude.{ℕ, ◌==◌, List, [], ◌∷◌, ◌++◌, filter, map, zip}
use Rattle.gtpp_message.specs.Packet.{PacketForm}
use Rattle.node_core.specs.Log.{LogEntry, Began, Halted, forms_of, packets_of}
use Rattle.node_core.specs.Packets.{PacketState}
use Rattle.once_core.specs.Expired.{starts_in}

-- a packet that a node took in one of its starts: the number of that start, how far the node came with the packet, and
-- what it sends
pub record Followed : Type 0 where
  pub start : ℕ
  pub state : PacketState
  pub form : PacketForm

-- those of the present start
abbrev pub following : List LogEntry → List Followed
following log =
    map (λ p. record { start = starts_in log; state = p.0; form = p.1 }) (zip (packets_of log) (forms_of log))

-- those of the starts before, as they stood when these ended
abbrev pub followed_before : List LogEntry → List Followed
followed_before [] = []
followed_before (Began ∷ log) = followed_before log ++ following log
followed_before (Halted ∷ log) = followed_before log ++ following log
followed_before (_ ∷ log) = followed_before log

-- all of them, in order
abbrev pub all_followed : List LogEntry → List Followed
all_followed log = followed_before log ++ following log

-- the packets of one start: as they are in the present one, and as they stood when another ended
abbrev pub packets_in : ℕ → List LogEntry → List PacketState
packets_in start log = map (λ (p : Followed). p.state) (filter (λ p. p.start == start) (all_followed log))
