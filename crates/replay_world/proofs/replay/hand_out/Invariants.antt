use Rattle.std.proofs.Common.{◌≤◌, List, length, take, vec_capacity}
use Rattle.replay_world.proofs.Names.{EachHandedOut, EachStands, Gateway, HaveRoom, Machine, Setup}
use Rattle.replay_world.proofs.replay.hand_out.Given as goal

-- the gateways so far handed out what they have, and there is room for the others
abbrev pub invariant-loop-machine : goal.invariant-loop-machine
invariant-loop-machine l = (setup : Setup) (gs : List Gateway) (ms : List Machine) →
    EachStands setup 0 gs ms l.fn.machines.items → HaveRoom (length l.fn.machines.items)
    l.fn.areas.items (vec_capacity l.fn.areas) l.fn.shelves.items (vec_capacity l.fn.shelves) →
    EachHandedOut setup 0 (take (length l.yielded) gs) (take (length l.yielded) ms) l.areas.items l.shelves.items
    × (length l.fn.machines.items ≤ vec_capacity l.areas) × (length l.fn.machines.items ≤ vec_capacity l.shelves)
