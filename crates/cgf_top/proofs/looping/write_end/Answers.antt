use Rattle.std.proofs.Common.{List, subst, sym}
use Rattle.gateway_book.specs.declared.outcome.GatewayCounts.{GatewayCounts}
use Rattle.loop_run.specs.declared.end.LoopEnd.{LoopEnd}
use Rattle.node_core.specs.declared.counts.NodeCounts.{NodeCounts}
use Rattle.cgf_top.specs.LoopSteps.{WritesEnd, WritesReport}
use Rattle.cgf_top.proofs.looping.write_end.Goals as goal

pub returns-in-Fine-clause-ends : goal.returns-in-Fine-clause-ends
returns-in-Fine-clause-ends g c =
    subst (λ (how : LoopEnd). WritesEnd (g.K.Sink.written c.args.sink.now) (g.K.Sink.written c.write_report.new.sink)
    (g.K.Sink.faults c.args.sink.now) (g.K.Sink.faults c.write_report.new.sink) how c.write_report.result)
    (sym c.in-Fine.is)
    (subst (λ (nodes : List NodeCounts). WritesReport nodes c.in-Fine.gateways.items (g.K.Sink.written c.args.sink.now)
    (g.K.Sink.written c.write_report.new.sink) (g.K.Sink.faults c.args.sink.now) (g.K.Sink.faults c.write_report.new.sink)
    c.write_report.result) c.as_slice.ensures.value
    (subst (λ (gateways : List GatewayCounts). WritesReport c.as_slice.result.now gateways
    (g.K.Sink.written c.args.sink.now) (g.K.Sink.written c.write_report.new.sink) (g.K.Sink.faults c.args.sink.now)
    (g.K.Sink.faults c.write_report.new.sink) c.write_report.result) c.as_slice-in-Fine.ensures.value
    c.write_report.ensures.wrote))
