use Rattle.std.proofs.Common.{◌≡◌, subst, sym, ◌∙◌, false, map, string_bytes, None, Option}
use Rattle.std.proofs.lemmas.Option.{same_Some}
use Rattle.cgf_jobs.specs.Job.{job_of}
use Rattle.cgf_top.specs.Looping.{looping_of}
use Rattle.cgf_service.specs.ServeEnds.{Serves}
use Rattle.cgf_service.specs.Serving.{serving_of}
use Rattle.cgf_service.specs.StreamEnds.{may_have_used}
use Rattle.cgf_service.specs.Streaming.{streaming_of}
use Rattle.cgf_service.specs.declared.serving.Serving.{Serving}
use Rattle.cgf_top.proofs.OneCommand.{no_network, not_both, not_looping, over_files, serve_is_no_job, some_is_none, used_by_none}
use Rattle.cgf_top.proofs.run_watched.Goals as goal

pub returns-in-Some-clause-once : goal.returns-in-Some-clause-once
returns-in-Some-clause-once g c = no_network _ _ _ _
    (serve_is_no_job (map string_bytes c.args.words.now) c.in-Some.serving (sym c.in-Some.ensures.asked))

pub returns-in-Some-clause-serves : goal.returns-in-Some-clause-serves
returns-in-Some-clause-serves g c of asked =
    subst (λ (s : Serving). Serves g.A.Area g.F.Shelf s
    (job_of g.S.Source g.K.Sink (map string_bytes c.args.words.now) c.args.source.now c.serve_gateway-status.new.source c.args.sink.now c.serve_gateway-status.new.sink)
    c.args.area c.serve_gateway-status.result.area c.args.shelf c.serve_gateway-status.result.shelf (g.L.Links.state c.args.links.now)
    (g.L.Links.state c.serve_gateway-status.new.links) (g.C.Clock.faults c.args.clock.now) (g.C.Clock.faults c.serve_gateway-status.new.clock)
    c.serve_gateway-status.result.status None)
    (same_Some c.in-Some.serving of (c.in-Some.ensures.asked ∙ asked))
    (c.serve_gateway-status.ensures.serves (map string_bytes c.args.words.now))

pub returns-in-Some-clause-streams : goal.returns-in-Some-clause-streams
returns-in-Some-clause-streams g c of asked =
    absurd (not_both (map string_bytes c.args.words.now) c.in-Some.serving of (sym c.in-Some.ensures.asked) asked)

pub returns-in-Some-clause-loops : goal.returns-in-Some-clause-loops
returns-in-Some-clause-loops g c = record {
  loops = λ of is. some_is_none of
      (sym is ∙ not_looping (map string_bytes c.args.words.now) c.in-Some.serving (sym c.in-Some.ensures.asked));
  aside = λ of is. some_is_none of
      (sym is ∙ not_looping (map string_bytes c.args.words.now) c.in-Some.serving (sym c.in-Some.ensures.asked));
  none = λ none. c.none.ensures;
}

pub returns-in-Some-clause-outside : goal.returns-in-Some-clause-outside
returns-in-Some-clause-outside g c unused not_looped =
    c.serve_gateway-status.ensures.outside (subst (λ (o : Option Serving). may_have_used o (streaming_of (map string_bytes c.args.words.now))
    c.serve_gateway-status.result.status ≡ false) (sym c.in-Some.ensures.asked) unused)

pub returns-in-Some-clause-job : goal.returns-in-Some-clause-job
returns-in-Some-clause-job g c files =
    some_is_none _ (c.in-Some.ensures.asked ∙ (over_files (serving_of (map string_bytes c.args.words.now)) (streaming_of (map string_bytes c.args.words.now))
    (looping_of (map string_bytes c.args.words.now)) files).0)

pub returns-in-Some-clause-words : goal.returns-in-Some-clause-words
returns-in-Some-clause-words g c files =
    some_is_none _ (c.in-Some.ensures.asked ∙ (over_files (serving_of (map string_bytes c.args.words.now)) (streaming_of (map string_bytes c.args.words.now))
    (looping_of (map string_bytes c.args.words.now)) files).0)

pub returns-in-None-clause-outside : goal.returns-in-None-clause-outside
returns-in-None-clause-outside g c unused not_looped =
    c.run_unserved.ensures.outside (used_by_none (streaming_of (map string_bytes c.args.words.now))
    c.run_unserved.result.status
    (subst (λ (o : Option Serving). may_have_used o (streaming_of (map string_bytes c.args.words.now))
    c.run_unserved.result.status ≡ false) (sym c.in-None.ensures.asked) unused)) not_looped

pub returns-in-None-clause-job : goal.returns-in-None-clause-job
returns-in-None-clause-job g c files =
    let none = over_files (serving_of (map string_bytes c.args.words.now))
    (streaming_of (map string_bytes c.args.words.now)) (looping_of (map string_bytes c.args.words.now)) files in
    c.run_unserved.ensures.job none.1 none.2

pub returns-in-None-clause-words : goal.returns-in-None-clause-words
returns-in-None-clause-words g c files =
    let none = over_files (serving_of (map string_bytes c.args.words.now))
    (streaming_of (map string_bytes c.args.words.now)) (looping_of (map string_bytes c.args.words.now)) files in
    c.run_unserved.ensures.words none.1 none.2
