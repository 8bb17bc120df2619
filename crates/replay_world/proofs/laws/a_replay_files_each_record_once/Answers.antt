use Rattle.std.proofs.Common.{sym, subst}
use Rattle.replay_world.proofs.Names.{begun, files_in, firm_in, lines_after, Once, rules_in, turns, turns_from}
use Rattle.replay_world.proofs.LineLemmas.{lines_world}
use Rattle.replay_world.proofs.laws.a_replay_files_each_record_once.Goals as goal

pub returns-clause-filed : goal.returns-clause-filed
returns-clause-filed c = λ setup lines some.
    subst Once (sym (lines_world (begun setup) lines))
    (c.each_record_is_filed_once.ensures (turns (rules_in setup) (begun setup).world (turns_from (begun setup) lines))
    (c.turns_reach_worlds.ensures.alike (rules_in setup) setup.gateways setup.nodes (turns_from (begun setup) lines) some))

pub returns-clause-stands : goal.returns-clause-stands
returns-clause-stands c = λ setup lines some.
    rw (lines_world (begun setup) lines)
    (c.each_record_stands_once.ensures (files_in setup)
    (turns (rules_in setup) (begun setup).world (turns_from (begun setup) lines))
    (c.turns_reach_worlds.ensures.alike (rules_in setup) setup.gateways setup.nodes (turns_from (begun setup) lines)
    some))

pub returns-clause-there : goal.returns-clause-there
returns-clause-there c = λ setup lines. record {
  there = λ gateway. c.what_stands_at_a_place_was_filed.ensures.there (files_in setup gateway)
      (firm_in (lines_after (begun setup) lines).world gateway);
  all = λ gateway. c.what_stands_at_a_place_was_filed.ensures.all (files_in setup gateway)
      (firm_in (lines_after (begun setup) lines).world gateway);
}
