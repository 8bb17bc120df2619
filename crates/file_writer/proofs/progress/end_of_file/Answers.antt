use Rattle.file_writer.proofs.WritingLemmas.{none_begun}
use Rattle.file_writer.proofs.progress.end_of_file.Goals as goal

pub returns-in_ok-begin_file-in-None-clause-stands : goal.returns-in_ok-begin_file-in-None-clause-stands
returns-in_ok-begin_file-in-None-clause-stands g c = λ told. none_begun c.args.name c.args.next.now.kind c.args.growing _ _ c.in-None.is
    (c.in_ok-begin_file-in-None.ensures.open told)
