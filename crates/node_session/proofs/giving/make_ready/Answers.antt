use Rattle.std.proofs.Common.{rules}
use Rattle.node_session.proofs.GivenLemmas.{broken_writer, recovered_files, recovered_writer, still_broken_files}
use Rattle.node_session.proofs.giving.make_ready.Goals as goal

pub returns-in-Ok-clause-writer : goal.returns-in-Ok-clause-writer
returns-in-Ok-clause-writer g c = λ told h writer. recovered_writer c.args.writer.now c.recover.new.self c.in-Ok.ensures.recovered told h

pub returns-in-Err-clause-writer : goal.returns-in-Err-clause-writer
returns-in-Err-clause-writer g c = λ told h writer. broken_writer c.args.writer.now c.recover.new.self c.in-Err.ensures.broken told h

pub returns-in-Ok-clause-files : goal.returns-in-Ok-clause-files
returns-in-Ok-clause-files g c = λ it_is all holds.
    recovered_files c.args.writer.now c.recover.new.self it_is (search rules) c.in-Ok.ensures.broken c.in-Ok.ensures.settings
    c.in-Ok.ensures.asked.files c.in-Ok.ensures.recovered all holds

pub returns-in-Err-clause-files : goal.returns-in-Err-clause-files
returns-in-Err-clause-files g c = λ it_is all holds.
    still_broken_files c.args.writer.now c.recover.new.self (search rules) c.in-Err.ensures.broken c.in-Err.ensures.settings
    c.in-Err.ensures.asked.files all holds
