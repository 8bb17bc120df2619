use Rattle.std.proofs.Common.{ap, refl}
use Rattle.file_writer.specs.Making.{ending_of}
use Rattle.node_session.proofs.GivenLemmas.{broken_writer, failed_files, given_files, given_writer}
use Rattle.node_session.proofs.giving.give.Goals as goal

pub returns-in-Ok-clause-writer : goal.returns-in-Ok-clause-writer
returns-in-Ok-clause-writer g c = λ told h writer are.
    given_writer c.args.writer.now c.advance.new.self c.args.items.now c.requires.ready c.in-Ok.ensures.count.2
    (λ before at. (c.in-Ok.ensures.moves _ before at).at) told h writer are

pub returns-in-Err-clause-writer : goal.returns-in-Err-clause-writer
returns-in-Err-clause-writer g c = λ told h writer are. broken_writer c.args.writer.now c.advance.new.self c.in-Err.ensures.broken told h

pub returns-in-Ok-clause-files : goal.returns-in-Ok-clause-files
returns-in-Ok-clause-files g c = λ it_is h all writer are begins holds.
    let w = writer c.requires.ready in
    given_files c.args.writer.now c.advance.new.self h c.args.items.now all w are begins c.requires.ready c.in-Ok.ensures.broken c.in-Ok.ensures.count.2 _
    (c.in-Ok.ensures.moves _ w.items w.at) it_is holds

pub returns-in-Err-clause-files : goal.returns-in-Err-clause-files
returns-in-Err-clause-files g c = λ it_is h all writer are begins holds.
    let w = writer c.requires.ready in
    failed_files c.args.writer.now c.advance.new.self h c.args.items.now all w are begins c.requires.ready c.in-Err.ensures.broken c.in-Err.ensures.settings _
    (c.in-Err.ensures.moves _ w.items w.at) it_is holds

pub returns-in-Err-clause-shelf : goal.returns-in-Err-clause-shelf
returns-in-Err-clause-shelf g c = λ is taken at. (c.in-Err.ensures.moves _ taken at).makes.faults.failed (ap ending_of is)

pub returns-in-Ok-clause-still : goal.returns-in-Ok-clause-still
returns-in-Ok-clause-still g c = λ taken at. (c.in-Ok.ensures.moves _ taken at).makes.faults.still refl

pub returns-in-Ok-clause-later : goal.returns-in-Ok-clause-later
returns-in-Ok-clause-later g c = λ taken at. (c.in-Ok.ensures.moves _ taken at).makes.faults.later

pub returns-in-Err-clause-later : goal.returns-in-Err-clause-later
returns-in-Err-clause-later g c = λ taken at. (c.in-Err.ensures.moves _ taken at).makes.faults.later
