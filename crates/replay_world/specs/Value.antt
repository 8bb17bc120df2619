-- What a replay stands for.
use Rattle.std.specs.Prelude.{ℕ, List, []}
use Rattle.once_core.specs.Beginning.{times_of, world_of}
use Rattle.once_core.specs.World.{World}
use Rattle.replay_gateway.specs.Machine.{Machine, first_machine}
use Rattle.replay_gateway.specs.Setup.{Setup, rules_in, setup_of}
use Rattle.world_script.specs.declared.line.Line.{Line}

-- A replay: its settings; the world; what each gateway runs on; and the numbers of the messages that wait, which no
-- line has passed so far, in their order.
pub record ReplayValue : Type 0 where
  pub setup : Setup
  pub world : World
  pub machines : List Machine
  pub waiting : List ℕ

-- All gateways are opened on empty areas and their Start entries firm, and all nodes run.
abbrev pub begun : Setup → ReplayValue
begun s = record {
  setup = s;
  world = world_of (rules_in s) s.gateways s.nodes;
  machines = times_of s.gateways first_machine;
  waiting = [];
}

-- the replay of a script before its first line
abbrev pub replay_of : List Line → ReplayValue
replay_of lines = begun (setup_of lines)
