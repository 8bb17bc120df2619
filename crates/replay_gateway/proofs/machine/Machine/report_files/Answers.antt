use Rattle.std.proofs.Common.{◌≡◌, ◌∙◌, sym, ap, ◌++◌, append-nil, arith}
use Rattle.replay_gateway.proofs.ReportLemmas.{lines_below, stream_more}
use Rattle.replay_gateway.proofs.machine.Machine.report_files.Goals as goal

pub loop-stream-init : goal.loop-stream-init
loop-stream-init c = λ setup g m stands. sym (append-nil c.args.out.now)

pub loop-stream-preserved : goal.loop-stream-preserved
loop-stream-preserved c = λ setup g m stands.
    stream_more setup c.args.place g m c.loop-stream.stream c.args.out.now
    (c.loop-stream.invariant setup g m stands)
    (c.in_ok-report_stream.ensures setup g m (omega arith) stands)

pub returns : goal.returns
returns c = λ setup g m stands.
    let whole : c.loop-stream.stream ≡ 16 = omega arith in
    c.loop-stream.invariant setup g m stands
    ∙ ap (λ n. c.args.out.now ++ lines_below setup c.args.place g m n) whole
