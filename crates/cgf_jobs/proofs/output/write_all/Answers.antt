use Rattle.cgf_jobs.proofs.Streams.{front_more}
use Rattle.cgf_jobs.proofs.output.write_all.Goals as goal

pub returns-in-Err-clause-err : goal.returns-in-Err-clause-err
returns-in-Err-clause-err g c =
    front_more (g.K.Sink.written c.args.sink.now) (g.K.Sink.written c.loop-at.sink) (g.K.Sink.written c.put.new.self) c.args.octets.now c.loop-at.at
    c.loop-at.invariant.within c.loop-at.invariant.written (rw c.split_at.ensures.back at c.in-Err.ensures.front)
