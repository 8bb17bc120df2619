use Rattle.std.proofs.Common.{take, ap, ◌∙◌, arith}
use Rattle.cgf_jobs.proofs.PrintLemmas.{kept_before, line_added}
use Rattle.cgf_jobs.proofs.printing.print_octets.Goals as goal

pub returns : goal.returns
returns c =
    line_added c.split_at_mut-line.result.0.now c.spell_line.new.line _ c.args.printed.now.items _ c.resize.new.self.len
    (omega arith)
    (c.split_at_mut-line.ensures.front ∙ ap (take c.len-start.result) (c.as_mut_slice.ensures.value ∙ c.in_ok-resize.ensures.items)
    ∙ kept_before c.args.printed.now.items _ c.len-start.result c.saturating_add-end.result (omega arith) (omega arith))
    c.spell_line.ensures
