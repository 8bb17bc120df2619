use Rattle.std.proofs.Common.{subst, sym, ◌∙◌, map, string_bytes, None}
use Rattle.std.proofs.lemmas.Option.{same_Some}
use Rattle.cgf_jobs.specs.Job.{job_of}
use Rattle.cgf_service.specs.StreamEnds.{Streams}
use Rattle.cgf_service.specs.declared.streaming.Streaming.{Streaming}
use Rattle.cgf_top.proofs.OneCommand.{no_network, stream_is_no_job}
use Rattle.cgf_top.proofs.run_on_one.Goals as goal

pub returns-in-Some-clause-once : goal.returns-in-Some-clause-once
returns-in-Some-clause-once g c = no_network _ _ _ _
    (stream_is_no_job (map string_bytes c.args.words.now) c.in-Some.streaming (sym c.in-Some.ensures.asked))

pub returns-in-Some-clause-streams : goal.returns-in-Some-clause-streams
returns-in-Some-clause-streams g c of asked =
    subst (λ (s : Streaming). Streams g.A.Area g.F.Shelf s
    (job_of g.S.Source g.K.Sink (map string_bytes c.args.words.now) c.args.source.now c.stream_gateway-status.new.source c.args.sink.now c.stream_gateway-status.new.sink)
    c.args.area c.stream_gateway-status.result.area c.args.shelf c.stream_gateway-status.result.shelf (g.C.Clock.faults c.args.clock.now)
    (g.C.Clock.faults c.stream_gateway-status.new.clock) c.stream_gateway-status.result.status None)
    (same_Some c.in-Some.streaming of (c.in-Some.ensures.asked ∙ asked))
    (c.stream_gateway-status.ensures.streams (map string_bytes c.args.words.now))
