use Rattle.std.proofs.Common.{◌≡◌, map, ◌++◌}
use Rattle.once_core.specs.NodeMoves.{message_kept}
use Rattle.replay_world.proofs.node_lines.messages_of.Given as goal

-- the messages so far, and those of the datagrams that are left
abbrev pub invariant-loop-datagram : goal.invariant-loop-datagram
invariant-loop-datagram l =
    l.messages.items ++ map (message_kept l.place l.start) l.datagram-iterator.rest.items
    ≡ map (message_kept l.place l.start) l.initial.datagram-iterator.rest.items
