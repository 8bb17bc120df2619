use Rattle.std.proofs.Common.{◌≡◌, sym, arith}
use Rattle.cgf_jobs.proofs.Names.{file_of, lines_size, slice_get_within}
use Rattle.cgf_jobs.proofs.PrintLemmas.{size_counted, size_more}
use Rattle.cgf_jobs.proofs.printing.make_room.Goals as goal

pub overflow_add-at : goal.overflow_add-at
overflow_add-at c =
    omega (arith, c.in-Some.ensures.few, slice_get_within c.args.shelf.now.contents.files c.loop-file.at (file_of c.in-Some.file.0 c.in-Some.file.1.now) (sym c.in-Some.ensures.file))

pub loop-file-smaller : goal.loop-file-smaller
loop-file-smaller c =
    omega (arith, slice_get_within c.args.shelf.now.contents.files c.loop-file.at (file_of c.in-Some.file.0 c.in-Some.file.1.now) (sym c.in-Some.ensures.file))

pub loop-file-preserved : goal.loop-file-preserved
loop-file-preserved c = record {
  counted = size_more c.loop-file.size c.saturating_add-size.result c.loop-file.at c.args.shelf.now.contents.files (file_of c.in-Some.file.0 c.in-Some.file.1.now)
      (sym c.in-Some.ensures.file) c.loop-file.invariant.counted (omega (arith, c.saturating_add-size.ensures, c.line_size.ensures));
  within = omega (arith, slice_get_within c.args.shelf.now.contents.files c.loop-file.at (file_of c.in-Some.file.0 c.in-Some.file.1.now) (sym c.in-Some.ensures.file));
}

pub returns-clause-room : goal.returns-clause-room
returns-clause-room c =
    let whole : c.loop-file.size ≡ lines_size c.args.shelf.now.contents.files =
    size_counted c.loop-file.size c.loop-file.at c.args.shelf.now.contents.files (sym c.in_default.ensures.file) c.loop-file.invariant.counted (omega (arith, c.in_ok-reserve.ensures.ok)) in
    omega (arith, whole, c.in_ok-reserve.ensures.ok)
