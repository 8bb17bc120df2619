use Rattle.std.proofs.Common.{◌≡◌, ◌++◌, drop, map}
use Rattle.once_core.specs.NodeMoves.{message_kept}
use Rattle.once_core.proofs.node_turn.send_all.Given as goal

-- the messages so far, and those of the datagrams that are left, are all
abbrev pub invariant-loop-datagram : goal.invariant-loop-datagram
invariant-loop-datagram l =
    l.sends.items ++ map (message_kept l.place l.starts) (drop l.datagram-index l.due)
    ≡ l.initial.sends.items ++ map (message_kept l.place l.starts) l.due
