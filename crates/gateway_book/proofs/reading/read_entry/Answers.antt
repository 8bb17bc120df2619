use Rattle.std.proofs.Common.{sym, ap, ◌∙◌}
use Rattle.gateway_book.proofs.Names.{area_of, is_err, true≢false}
use Rattle.area_disk.specs.CourseLaws.{read_runs}
use Rattle.gateway_book.proofs.ReadLemmas.{begins_with}
use Rattle.gateway_book.proofs.reading.read_entry.Goals as goal

pub returns-in-Ok-read-2-clause-entry : goal.returns-in-Ok-read-2-clause-entry
returns-in-Ok-read-2-clause-entry g c = λ told e is.
    let found = c.in-Ok-read.ensures.read told c.args.k e (c.requires, c.entry_at-place.ensures.place) is in
    sym (c.in-Ok-read-2.ensures.only e (begins_with c.read.new.into e found.1))

pub returns-in_default-read-clause-runs : goal.returns-in_default-read-clause-runs
returns-in_default-read-clause-runs g c = λ fate runs device.
    let fails = ap (λ r. is_err r) c.in_default-read.is in
    let planned = (c.read.ensures.planned fate).planned in
    true≢false (sym fails ∙ read_runs (g.A.Area.fate (area_of c.args.trail.now)) c.read.result (g.A.Area.fate (area_of c.read.new.self)) planned runs)
