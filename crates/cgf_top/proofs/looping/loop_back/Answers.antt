use Rattle.cgf_top.proofs.LoopLemmas.{wrote_end}
use Rattle.cgf_top.proofs.looping.loop_back.Goals as goal

pub returns-clause-loops : goal.returns-clause-loops
returns-clause-loops g c =
    wrote_end c.args.setup _ _ _ _ _ _ c.run_loop_watched-end.result.1 c.run_loop_watched-end.result.0 c.write_end.result
    c.run_loop_watched-end.ensures.ends c.write_end.ensures.ends
