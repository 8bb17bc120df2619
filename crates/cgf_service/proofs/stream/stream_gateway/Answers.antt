use Rattle.std.proofs.Common.{◌∙◌, None, refl}
use Rattle.cgf_jobs.specs.Job.{job_of}
use Rattle.cgf_service.proofs.StreamedEnds.{ends_streams, first_set, unopened_as}
use Rattle.cgf_service.proofs.stream.stream_gateway.Goals as goal

pub returns-in-Err : goal.returns-in-Err
returns-in-Err g c = record {
  streams = λ words.
      unopened_as g.A.Area g.F.Shelf c.args.streaming words (g.S.Source.left c.args.source.now) (g.K.Sink.written c.args.sink.now)
      (g.S.Source.faults c.args.source.now) (g.K.Sink.faults c.args.sink.now) c.args.area c.args.shelf (g.C.Clock.faults c.args.clock.now)
      c.in-Err.fault c.in-Err.area c.unopened-in-Err.result.area c.unopened-in-Err.result.shelf c.unopened-in-Err.result.status None
      c.in-Err.ensures.err (c.what_stands_is_ours.ensures.ours (g.A.Area.size c.args.area) c.args.streaming.ip)
      (c.what_stands_is_ours.ensures.others (g.A.Area.size c.args.area) c.args.streaming.ip)
      (λ told at foreign. (c.in-Err.ensures.foreign told at foreign).place) c.area_laws.ensures c.in-Err.ensures.reads c.in-Err.ensures.anew
      c.unopened-in-Err.ensures.same.0 c.unopened-in-Err.ensures.same.1 (c.unopened-in-Err.ensures.status ∙ c.status_of.ensures) refl;
}

pub returns : goal.returns
returns g c = record {
  streams = λ words.
      ends_streams g.A.Area g.F.Shelf c.args.streaming
      (job_of g.S.Source g.K.Sink words c.args.source.now c.serve-served.new.source c.args.sink.now c.serve-served.new.sink)
      c.args.area c.settled-status.result.1 c.args.shelf c.settled-status.result.2 (g.C.Clock.faults c.args.clock.now) (g.C.Clock.faults c.serve-served.new.clock)
      c.in-Ok-open.book c.serve-served.new.connection _ c.in-Ok-open.ensures.size c.in-Ok-open.ensures.ok c.serve-served.ensures.node
      c.new-writer.result c.new-writer.ensures.broken c.new-writer.ensures.shelf
      (c.new-writer.ensures.settings ∙ first_set c.args.streaming.ip c.none.result c.first-settings.result c.none.ensures c.first-settings.ensures.set)
      c.area_laws.ensures c.filed_records_stay.ensures.items c.files_only_grow.ensures c.a_stream_may_be_cut.ensures.rest c.a_bad_octet_ends_the_messages.ensures
      c.no_file_is_open_where_no_close_is_due.ensures
      (c.what_stands_is_ours.ensures.ours (g.A.Area.size c.args.area) c.args.streaming.ip)
      (c.what_stands_is_ours.ensures.others (g.A.Area.size c.args.area) c.args.streaming.ip)
      c.serve-served.result c.settled-status.result.0 c.serve-served.ensures.served c.serve-served.ensures.cause c.settled-status.ensures;
}
