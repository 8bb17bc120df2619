use Rattle.node_session.proofs.SettledLemmas.{all_same, files_same, grows_same, settled_stays, stays_then, writer_on, writer_same}
use Rattle.node_session.proofs.settling.settle.Goals as goal

pub returns-in_err-end-clause-writer : goal.returns-in_err-end-clause-writer
returns-in_err-end-clause-writer g c = writer_on c.filed_records_stay.ensures.items c.args.book.now c.end.new.book c.args.writer.now c.end.ensures.grows c.requires

pub give_all-requires : goal.give_all-requires
give_all-requires g c = writer_on c.filed_records_stay.ensures.items c.args.book.now c.end.new.book c.args.writer.now c.end.ensures.grows c.requires

pub returns-in_err-give_all-clause-writer : goal.returns-in_err-give_all-clause-writer
returns-in_err-give_all-clause-writer g c =
    writer_same c.filed_records_stay.ensures.items c.end.new.book c.give_all.new.book c.give_all.new.writer c.give_all.ensures.same c.give_all.ensures.writer

pub returns-in_err-give_all-clause-files : goal.returns-in_err-give_all-clause-files
returns-in_err-give_all-clause-files g c =
    files_same c.end.new.book c.give_all.new.book c.args.writer.now c.give_all.new.writer c.give_all.ensures.same c.give_all.ensures.files

pub returns-in_err-give_all-clause-stays : goal.returns-in_err-give_all-clause-stays
returns-in_err-give_all-clause-stays g c =
    (stays_then c.args.book.now c.end.new.book c.give_all.new.book c.end.ensures.stays c.give_all.ensures.same.stays, c.give_all.ensures.settings)

pub returns-clause-writer : goal.returns-clause-writer
returns-clause-writer g c =
    writer_same c.filed_records_stay.ensures.items c.end.new.book c.give_all.new.book c.give_all.new.writer c.give_all.ensures.same c.give_all.ensures.writer

pub returns-clause-files : goal.returns-clause-files
returns-clause-files g c =
    files_same c.end.new.book c.give_all.new.book c.args.writer.now c.give_all.new.writer c.give_all.ensures.same c.give_all.ensures.files

pub returns-clause-stays : goal.returns-clause-stays
returns-clause-stays g c =
    (stays_then c.args.book.now c.end.new.book c.give_all.new.book c.end.ensures.stays c.give_all.ensures.same.stays, c.give_all.ensures.settings)

pub returns-clause-settled : goal.returns-clause-settled
returns-clause-settled g c = record {
  settled = settled_stays c.args.book.now c.end.new.book c.give_all.new.book c.args.now c.args.who c.in_ok-end.ensures.ok c.give_all.ensures.same;
  told = c.counts.ensures.told;
  counted = c.counts.ensures.counted;
}

pub returns-clause-all : goal.returns-clause-all
returns-clause-all g c = λ told. all_same c.end.new.book c.give_all.new.book c.give_all.new.writer c.give_all.ensures.same told (c.in_ok-give_all.ensures.all told)

pub returns-in_err-give_all-clause-grows : goal.returns-in_err-give_all-clause-grows
returns-in_err-give_all-clause-grows g c =
    grows_same c.args.book.now c.end.new.book c.give_all.new.book c.end.ensures.grows c.give_all.ensures.same

pub returns-clause-grows : goal.returns-clause-grows
returns-clause-grows g c = grows_same c.args.book.now c.end.new.book c.give_all.new.book c.end.ensures.grows c.give_all.ensures.same

pub returns-in_err-give_all-clause-closed : goal.returns-in_err-give_all-clause-closed
returns-in_err-give_all-clause-closed g c =
    λ is. settled_stays c.args.book.now c.end.new.book c.give_all.new.book c.args.now c.args.who c.in_ok-end.ensures.ok c.give_all.ensures.same

pub returns-clause-closed : goal.returns-clause-closed
returns-clause-closed g c =
    λ is. settled_stays c.args.book.now c.end.new.book c.give_all.new.book c.args.now c.args.who c.in_ok-end.ensures.ok c.give_all.ensures.same
