use Rattle.replay_world.proofs.TakenScripts.{script_taken, line_taken, lines_taken}
use Rattle.replay_world.proofs.laws.what_a_world_surely_takes_is_not_refused.Goals as goal

pub returns-clause-line : goal.returns-clause-line
returns-clause-line c = λ s v said is action there. (line_taken s v is _ action there).allowed

pub returns-clause-turns : goal.returns-clause-turns
returns-clause-turns c = λ s v said is action there. (line_taken s v is _ action there).passes.allows

pub returns-clause-after : goal.returns-clause-after
returns-clause-after c = λ s v said is action there. (line_taken s v is _ action there).passes.after

pub returns-clause-lines : goal.returns-clause-lines
returns-clause-lines c = λ s v place lines is actions there. (lines_taken place lines actions there is).0

pub returns-clause-script : goal.returns-clause-script
returns-clause-script c = λ lines first there. (script_taken lines first there).allowed

pub returns-clause-script_turns : goal.returns-clause-script_turns
returns-clause-script_turns c = λ lines first there. (script_taken lines first there).turns
