use Rattle.std.proofs.Common.{refl, subst, sym, ◌∙◌, map, string_bytes, None}
use Rattle.std.proofs.lemmas.Option.{same_Some}
use Rattle.loop_run.specs.declared.setup.LoopSetup.{LoopSetup}
use Rattle.cgf_jobs.specs.Job.{job_of}
use Rattle.cgf_top.specs.LoopEnds.{Loops}
use Rattle.cgf_top.proofs.LoopLemmas.{loops_as}
use Rattle.cgf_top.proofs.OneCommand.{loop_is_no_job, no_network, not_streaming, some_is_none}
use Rattle.cgf_top.proofs.run_unserved.Goals as goal

pub returns-in-Some-clause-once : goal.returns-in-Some-clause-once
returns-in-Some-clause-once g c = no_network _ _ _ _
    (loop_is_no_job (map string_bytes c.args.words.now) c.in-Some.setup (sym c.in-Some.ensures.asked))

pub returns-in-Some-clause-streams : goal.returns-in-Some-clause-streams
returns-in-Some-clause-streams g c of asked = absurd (some_is_none of
    (sym asked ∙ not_streaming (map string_bytes c.args.words.now) c.in-Some.setup (sym c.in-Some.ensures.asked)))

pub returns-in-Some-clause-loops : goal.returns-in-Some-clause-loops
returns-in-Some-clause-loops g c = record {
  loops = λ of is. subst (λ (s : LoopSetup). Loops s
      (job_of g.S.Source g.K.Sink (map string_bytes c.args.words.now) c.args.source.now c.args.source.now
      c.args.sink.now c.loop_back-status.new.sink)
      (g.L.Links.state c.args.links.now) (g.L.Links.state c.loop_back-status.new.links) c.loop_back-status.result.0
      c.loop_back-status.result.1 None) (same_Some c.in-Some.setup of (c.in-Some.ensures.asked ∙ is))
      (loops_as c.in-Some.setup _ _ _ _ _ c.loop_back-status.ensures.loops refl);
  aside = λ of is. record { same_source = refl; same_area = refl; same_shelf = refl; same_clock = refl };
  none = λ none. some_is_none _ (c.in-Some.ensures.asked ∙ none);
}

pub returns-in-Some-clause-outside : goal.returns-in-Some-clause-outside
returns-in-Some-clause-outside g c not_streamed not_looped =
    absurd (some_is_none _ (c.in-Some.ensures.asked ∙ not_looped))

pub returns-in-Some-clause-job : goal.returns-in-Some-clause-job
returns-in-Some-clause-job g c not_streamed not_looped =
    absurd (some_is_none _ (c.in-Some.ensures.asked ∙ not_looped))

pub returns-in-Some-clause-words : goal.returns-in-Some-clause-words
returns-in-Some-clause-words g c not_streamed not_looped =
    absurd (some_is_none _ (c.in-Some.ensures.asked ∙ not_looped))

pub returns-in-None-clause-streams : goal.returns-in-None-clause-streams
returns-in-None-clause-streams g c of asked = (refl, c.run_on_one.ensures.streams of asked)

pub returns-in-None-clause-loops : goal.returns-in-None-clause-loops
returns-in-None-clause-loops g c = record {
  loops = λ of is. some_is_none of (sym is ∙ sym c.in-None.ensures.asked);
  aside = λ of is. some_is_none of (sym is ∙ sym c.in-None.ensures.asked);
  none = λ none. c.run_on_one.ensures.no_loop;
}

pub returns-in-None-clause-outside : goal.returns-in-None-clause-outside
returns-in-None-clause-outside g c not_streamed not_looped =
    let same = c.run_on_one.ensures.outside not_streamed in
    record { same_area = same.0; same_shelf = same.1; same_links = refl; same_clock = same.2 }

pub returns-in-None-clause-job : goal.returns-in-None-clause-job
returns-in-None-clause-job g c not_streamed not_looped = c.run_on_one.ensures.job not_streamed

pub returns-in-None-clause-words : goal.returns-in-None-clause-words
returns-in-None-clause-words g c not_streamed not_looped = c.run_on_one.ensures.words not_streamed
