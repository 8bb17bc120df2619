use Rattle.std.proofs.Common.{◌∙◌}
use Rattle.cgf_service.proofs.ServedLemmas.{settings_at}
use Rattle.cgf_service.proofs.SettledLemmas.{keeps_as, not_link, serves_as, settled_foreign, shelf_as, still_settled, stops_as, turns_as, unopened_keeps, unopened_shelf, unopened_stops}
use Rattle.cgf_service.proofs.settling.serve_on.Goals as goal

pub returns-in-Err-clause-err : goal.returns-in-Err-clause-err
returns-in-Err-clause-err g c = unopened_stops g.A.Area g.F.Shelf c.args.serving c.args.area c.args.shelf (g.L.Links.state c.args.links.now) (g.C.Clock.faults c.args.clock.now)
    c.in-Err.fault c.in-Err.area c.status_of.result c.status_of.ensures c.in-Err.ensures.err

pub returns-clause-ok : goal.returns-clause-ok
returns-clause-ok g c told setup are =
    serves_as _ _ _ _ _ _ _ _ _ _ _ _ _ _ _ _ _ _ _ c.in-Ok.ensures.size c.in-Ok.ensures.ok c.new-writer.ensures.shelf
    c.serve_at-service.ensures c.settle_all-line.ensures.line
    setup told c.area_laws.ensures c.filed_records_stay.ensures.items c.files_only_grow.ensures c.no_file_is_open_where_no_close_is_due.ensures
    c.what_is_in_turn_stays_so.ensures.front c.what_is_in_turn_stays_so.ensures.replies
    c.new-writer.ensures.broken (c.new-writer.ensures.settings ∙ settings_at c.args.serving setup c.args.by are) c.into_area.ensures.leaves
    c.into_area.result c.into_shelf.result c.into_area.ensures.area c.into_shelf.ensures

pub returns-clause-err : goal.returns-clause-err
returns-clause-err g c =
    stops_as _ _ _ _ _ _ _ _ _ _ _ _ _ _ _ _ _ _ _ c.in-Ok.ensures.size c.in-Ok.ensures.ok c.new-writer.ensures.shelf
    c.serve_at-service.ensures c.settle_all-line.ensures.line
    c.into_area.result c.into_shelf.result c.into_area.ensures.area c.into_shelf.ensures

pub returns-clause-turns : goal.returns-clause-turns
returns-clause-turns g c =
    turns_as _ _ _ _ _ _ _ _ _ _ _ _ _ _ _ _ _ _ _ c.in-Ok.ensures.size c.in-Ok.ensures.ok c.new-writer.ensures.shelf
    c.serve_at-service.ensures c.settle_all-line.ensures.line

pub returns-clause-foreign : goal.returns-clause-foreign
returns-clause-foreign g c told =
    settled_foreign _ _ _ _ _ _ _ _ _ _ _ _ _ _ _ _ _ _ _ c.in-Ok.ensures.size c.in-Ok.ensures.ok
    c.new-writer.ensures.shelf c.serve_at-service.ensures c.settle_all-line.ensures.line
    (c.what_stands_is_ours.ensures.ours (g.A.Area.size c.args.area) c.args.serving.ip)
    (c.what_stands_is_ours.ensures.others (g.A.Area.size c.args.area) c.args.serving.ip) told

pub returns-in-Err-clause-keeps : goal.returns-in-Err-clause-keeps
returns-in-Err-clause-keeps g c =
    unopened_keeps g.A.Area g.F.Shelf c.args.serving c.args.area c.args.shelf (g.L.Links.state c.args.links.now) (g.C.Clock.faults c.args.clock.now)
    c.in-Err.fault c.in-Err.area c.area_laws.ensures c.in-Err.ensures.reads c.in-Err.ensures.anew

pub returns-clause-keeps : goal.returns-clause-keeps
returns-clause-keeps g c =
    keeps_as _ _ _ _ _ _ _ _ _ _ _ _ _ _ _ _ _ _ _ c.in-Ok.ensures.size c.in-Ok.ensures.ok c.new-writer.ensures.shelf
    c.serve_at-service.ensures c.settle_all-line.ensures.line
    c.area_laws.ensures c.what_is_in_turn_stays_so.ensures.replies c.into_area.ensures.leaves c.in-Ok.ensures.reads c.in-Ok.ensures.anew c.into_area.result c.into_area.ensures.area

pub returns-in-Err-clause-shut : goal.returns-in-Err-clause-shut
returns-in-Err-clause-shut g c is =
    absurd (not_link g.A.Area g.F.Shelf c.args.serving c.args.area c.args.shelf (g.L.Links.state c.args.links.now)
    (g.C.Clock.faults c.args.clock.now)
    c.in-Err.fault c.status_of.result c.status_of.ensures is)

pub returns-clause-shut : goal.returns-clause-shut
returns-clause-shut g c is =
    still_settled _ _ _ _ _ _ _ _ _ _ _ _ _ _ _ _ _ _ _ c.in-Ok.ensures.size c.in-Ok.ensures.ok
    c.new-writer.ensures.shelf c.serve_at-service.ensures c.settle_all-line.ensures.line
    c.area_laws.ensures c.no_file_is_open_where_no_close_is_due.ensures c.what_is_in_turn_stays_so.ensures.front
    c.what_is_in_turn_stays_so.ensures.replies
    c.into_area.ensures.leaves c.settle_all-line.ensures.closed c.into_area.result c.into_area.ensures.area

pub returns-in-Err-clause-files : goal.returns-in-Err-clause-files
returns-in-Err-clause-files g c setup are =
    unopened_shelf g.A.Area g.F.Shelf c.args.serving c.args.area c.args.shelf (g.L.Links.state c.args.links.now)
    (g.C.Clock.faults c.args.clock.now)
    c.in-Err.fault c.in-Err.area setup c.area_laws.ensures c.in-Err.ensures.reads c.in-Err.ensures.anew

pub returns-clause-files : goal.returns-clause-files
returns-clause-files g c setup are =
    shelf_as _ _ _ _ _ _ _ _ _ _ _ _ _ _ _ _ _ _ _ c.in-Ok.ensures.size c.in-Ok.ensures.ok c.new-writer.ensures.shelf
    c.serve_at-service.ensures c.settle_all-line.ensures.line
    c.area_laws.ensures c.what_is_in_turn_stays_so.ensures.replies c.into_area.ensures.leaves c.in-Ok.ensures.reads
    c.in-Ok.ensures.anew
    setup c.filed_records_stay.ensures.items c.files_only_grow.ensures c.new-writer.ensures.broken
    (c.new-writer.ensures.settings ∙ settings_at c.args.serving setup c.args.by are)
    c.into_area.result c.into_shelf.result c.into_area.ensures.area c.into_shelf.ensures
