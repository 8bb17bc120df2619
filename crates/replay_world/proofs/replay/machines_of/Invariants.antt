use Rattle.replay_world.proofs.Names.{EachStands, first_gateway, first_machine, rules_in, setup_of, times_of}
use Rattle.replay_gateway.specs.Settings.{AreSet}
use Rattle.replay_world.proofs.replay.machines_of.Given as goal

-- the gateways so far were opened
abbrev pub invariant-loop-place : goal.invariant-loop-place
invariant-loop-place l = AreSet (setup_of l.script.lines) l.settings →
    EachStands (setup_of l.script.lines) 0 (times_of l.place (first_gateway (rules_in (setup_of l.script.lines))))
    (times_of l.place first_machine) l.gateways.items
