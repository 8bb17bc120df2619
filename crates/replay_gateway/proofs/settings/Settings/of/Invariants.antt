use Rattle.std.proofs.Common.{◌≡◌, ◌≤◌, ◌-◌, length, drop}
use Rattle.replay_gateway.proofs.Names.{after_settings, AreSet, AreSound, Setup, setup_of}
use Rattle.replay_gateway.proofs.settings.Settings.of.Given as goal

-- the lines so far were set, and the others are to be
abbrev pub invariant-loop-line : goal.invariant-loop-line
invariant-loop-line l = record {
  set : (setup : Setup) × (after_settings setup (drop l.k l.script.lines) ≡ setup_of l.script.lines) × AreSet setup l.settings;
  sound : AreSound l.settings;
  within : l.k ≤ length l.script.lines;
}

abbrev pub decreases-loop-line : goal.decreases-loop-line
decreases-loop-line l = length l.script.lines - l.k
