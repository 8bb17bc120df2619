use Rattle.std.proofs.Common.{◌≡◌, ℕ, ◌++◌, ap, sym, ◌∙◌, append-nil, arith}
use Rattle.cgf_jobs.proofs.Names.{file_line, files_below, files_in, flat_map}
use Rattle.cgf_jobs.proofs.PrintLemmas.{stream_printed}
use Rattle.cgf_jobs.proofs.feed.print_files.Goals as goal

pub loop-stream-init : goal.loop-stream-init
loop-stream-init c = λ settings items stands. c.in_ok-make_room.ensures.same ∙ sym (append-nil c.args.printed.now.items)

pub loop-stream-preserved : goal.loop-stream-preserved
loop-stream-preserved c = λ settings items stands.
    stream_printed settings items c.loop-stream.stream c.args.shelf.now.contents.files
    c.args.printed.now.items c.loop-stream.printed.items c.print_stream.new.printed.items
    (c.loop-stream.invariant settings items stands)
    (stands c.loop-stream.stream (omega arith))
    c.in_ok-print_stream.ensures

pub returns : goal.returns
returns c = λ setup items stands.
    let all : c.loop-stream.stream ≡ 16 = omega arith in
    c.loop-stream.invariant (files_in setup 0) items stands
    ∙ ap (λ (n : ℕ). c.args.printed.now.items ++ flat_map (file_line 0) (files_below n (files_in setup 0) items)) all
