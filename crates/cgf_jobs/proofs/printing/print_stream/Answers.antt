use Rattle.std.proofs.Common.{◌++◌, sym, arith}
use Rattle.cgf_jobs.proofs.Names.{file_of, slice_get_within}
use Rattle.cgf_jobs.proofs.PrintLemmas.{line_printed, lines_in, lines_printed}
use Rattle.cgf_jobs.proofs.printing.print_stream.Goals as goal

pub overflow_add-at : goal.overflow_add-at
overflow_add-at c =
    omega (arith, c.in-Some.ensures.few, slice_get_within c.args.shelf.now.contents.files c.loop-name.at (file_of c.in-Some.name c.in-Some.octets.now) (sym c.in-Some.ensures.file))

pub loop-name-smaller : goal.loop-name-smaller
loop-name-smaller c =
    omega (arith, slice_get_within c.args.shelf.now.contents.files c.loop-name.at (file_of c.in-Some.name c.in-Some.octets.now) (sym c.in-Some.ensures.file))

pub loop-name-preserved : goal.loop-name-preserved
loop-name-preserved c = record {
  printed = line_printed c.args.stream c.loop-name.at c.args.shelf.now.contents.files (file_of c.in-Some.name c.in-Some.octets.now)
      c.loop-name.printed.items c.print_if_in.new.printed.items
      (c.args.printed.now.items ++ lines_in c.args.stream c.args.shelf.now.contents.files)
      (sym c.in-Some.ensures.file) c.loop-name.invariant.printed c.in_ok-print_if_in.ensures;
  within = omega (arith, slice_get_within c.args.shelf.now.contents.files c.loop-name.at (file_of c.in-Some.name c.in-Some.octets.now) (sym c.in-Some.ensures.file));
}

pub returns : goal.returns
returns c =
    lines_printed c.args.stream c.loop-name.at c.args.shelf.now.contents.files c.loop-name.printed.items
    (c.args.printed.now.items ++ lines_in c.args.stream c.args.shelf.now.contents.files)
    (sym c.in_default.ensures.file) c.loop-name.invariant.printed
