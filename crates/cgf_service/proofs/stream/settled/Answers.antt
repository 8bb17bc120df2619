use Rattle.std.proofs.Common.{◌∙◌, Err, ap}
use Rattle.node_session.specs.declared.settling.SettleFault.{SettleFault}
use Rattle.cgf_jobs.specs.declared.status.Status.TheVariants as status
use Rattle.cgf_jobs.specs.declared.status.StoreFault.TheVariants as fault
use Rattle.cgf_service.proofs.StreamedLemmas.{settles_area, settles_done, settles_err, settles_ok, settles_shelf}
use Rattle.cgf_service.proofs.stream.settled.Goals as goal
use Rattle.cgf_service.proofs.stream.settled.Goals.{in-Ok+in-Ok-counts, in-Ok+in-Err-NoMemory, in-Ok+in-Err-Area, in-Ok+in-Err-Shelf, in-Err}

pub returns : goal.returns
returns g c =
    let closes = c.settle-counts.ensures.closed in
    let faults = c.settle-counts.ensures.faults in
    let area = faults.area in
    let ok = settles_ok g.A.Area g.F.Shelf c.args.connection c.args.writer c.settle-counts.new.book c.settle-counts.new.writer c.into_area.result
    c.into_shelf.result c.into_area.ensures.area c.into_shelf.ensures c.settle-counts.ensures.stays (faults.later, faults.shelf_later)
    c.settle-counts.ensures.grows c.into_area.ensures.leaves c.moment_of.result c.moment_of.ensures
    (λ calm. closes (λ is. calm (area is)))
    c.filed_records_stay.ensures.items c.settle-counts.ensures.files
    c.args.served c.match-served.status in
    elim c.match-served.branch [
      | in-Ok+in-Ok-counts w ↦ ok status.Done w.in-Ok.field-0 w.in-Ok.is w.status-is
          (settles_done g.A.Area g.F.Shelf c.args.connection c.args.writer c.settle-counts.new.book c.settle-counts.new.writer c.into_area.result
          c.into_shelf.result c.into_area.ensures.area c.into_shelf.ensures c.settle-counts.ensures.stays (faults.later, faults.shelf_later)
          c.settle-counts.ensures.grows c.into_area.ensures.leaves c.moment_of.result c.moment_of.ensures
          (λ calm. closes (λ is. calm (area is))) c.filed_records_stay.ensures.items c.settle-counts.ensures.files
          w.in-Ok-counts.ensures.settled.settled w.in-Ok-counts.ensures.all)
      | in-Ok+in-Err-NoMemory w ↦ ok status.Memory w.in-Ok.field-0 w.in-Ok.is w.status-is tt
      | in-Ok+in-Err-Area w ↦ ok (status.Store fault.Device) w.in-Ok.field-0 w.in-Ok.is w.status-is
          (settles_area g.A.Area g.F.Shelf c.args.connection c.args.writer c.settle-counts.new.book c.settle-counts.new.writer c.into_area.result
          c.into_shelf.result c.into_area.ensures.area c.into_shelf.ensures c.settle-counts.ensures.stays (faults.later, faults.shelf_later)
          c.settle-counts.ensures.grows c.into_area.ensures.leaves c.moment_of.result c.moment_of.ensures
          (λ calm. closes (λ is. calm (area is))) c.filed_records_stay.ensures.items c.settle-counts.ensures.files
          (area (w.in-Err-Area.is ∙ ap (λ (f : SettleFault). Err f) (rw w.in-Err-Area.is at w.in-Err-Area.field-0-is))))
      | in-Ok+in-Err-Shelf w ↦ ok (status.Store fault.Device) w.in-Ok.field-0 w.in-Ok.is w.status-is
          (settles_shelf g.A.Area g.F.Shelf c.args.connection c.args.writer c.settle-counts.new.book c.settle-counts.new.writer c.into_area.result
          c.into_shelf.result c.into_area.ensures.area c.into_shelf.ensures c.settle-counts.ensures.stays (faults.later, faults.shelf_later)
          c.settle-counts.ensures.grows c.into_area.ensures.leaves c.moment_of.result c.moment_of.ensures
          (λ calm. closes (λ is. calm (area is))) c.filed_records_stay.ensures.items c.settle-counts.ensures.files
          (faults.shelf (w.in-Err-Shelf.is ∙ ap (λ (f : SettleFault). Err f) (rw w.in-Err-Shelf.is at w.in-Err-Shelf.field-0-is))))
      | in-Err w ↦ settles_err g.A.Area g.F.Shelf c.args.connection c.args.writer c.settle-counts.new.book c.settle-counts.new.writer c.into_area.result
          c.into_shelf.result c.into_area.ensures.area c.into_shelf.ensures c.settle-counts.ensures.stays (faults.later, faults.shelf_later)
          c.settle-counts.ensures.grows c.into_area.ensures.leaves c.moment_of.result c.moment_of.ensures
          (λ calm. closes (λ is. calm (area is))) c.filed_records_stay.ensures.items c.settle-counts.ensures.files
          c.args.served c.match-served.status w.in-Err.status w.in-Err.is w.status-is
    ]
