use Rattle.gateway_book.specs.Turning.{tells_lists}
use Rattle.session_run.proofs.WriterLemmas.{written_on}
use Rattle.session_run.proofs.filing.write_next.Goals as goal

pub returns-clause-written : goal.returns-clause-written
returns-clause-written g c =
    let e = c.step.ensures in
    written_on g.F.Shelf (tells_lists g.A.Area) c.filed_records_stay.ensures.items c.args.actor c.step.new.self e.writer e.settings e.later e.grows e.turns e.files
