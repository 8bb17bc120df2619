use Rattle.std.proofs.Common.{◌≡◌, ◌∙◌, sym, ap, append-nil, arith}
use Rattle.replay_gateway.proofs.Names.{files_in, in_stream, items_of, shelf_tells}
use Rattle.replay_gateway.proofs.FileLemmas.{all_files, first_are, first_files, line_more, lines_all}
use Rattle.replay_gateway.proofs.machine.Machine.report_stream.Goals as goal

pub loop-sequence-init : goal.loop-sequence-init
loop-sequence-init c = λ setup g m small stands. sym (append-nil c.args.out.now)

pub loop-sequence-preserved : goal.loop-sequence-preserved
loop-sequence-preserved c = λ setup g m small stands.
    let settings = files_in setup c.args.place in
    line_more _ _ _ _ _
    (ap (λ s. in_stream c.args.stream (shelf_tells.files s)) c.shelf.ensures
    ∙ stands.writes.writes.holds.files.each c.args.stream small
    ∙ first_are settings c.args.stream (m.filing.sealed c.args.stream) (items_of g.book.firm)) _ _ (omega arith)
    c.in-Some.ensures.octets (c.loop-sequence.invariant setup g m small stands) c.in_ok-print_file.ensures

pub returns-in_default : goal.returns-in_default
returns-in_default c = λ setup g m small stands.
    let settings = files_in setup c.args.place in
    cc (
      lines_all _ _ _ _ _
          (ap (λ s. in_stream c.args.stream (shelf_tells.files s)) c.shelf.ensures
          ∙ stands.writes.writes.holds.files.each c.args.stream small
          ∙ first_are settings c.args.stream (m.filing.sealed c.args.stream) (items_of g.book.firm)) _ _ (omega arith)
          c.in_default.ensures.octets (c.loop-sequence.invariant setup g m small stands),
      first_are settings c.args.stream (m.filing.sealed c.args.stream) (items_of g.book.firm),
    )

pub returns : goal.returns
returns c = λ setup g m small stands.
    let last : c.loop-sequence.sequence ≡ 4294967295 = omega arith in
    let settings = files_in setup c.args.place in
    let files = first_files settings c.args.stream (m.filing.sealed c.args.stream) (items_of g.book.firm) in
    cc (
      c.loop-sequence.invariant setup g m small stands,
      all_files settings c.args.stream (m.filing.sealed c.args.stream) (items_of g.book.firm)
          (stands.writes.writes.holds.numbered c.args.stream small),
    )
