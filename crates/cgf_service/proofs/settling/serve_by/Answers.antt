use Rattle.std.proofs.Common.{inl, inr, refl}
use Rattle.cgf_service.proofs.KeptLemmas.{untouched_keeps, untouched_shelf}
use Rattle.cgf_service.proofs.LookLemmas.{never_fell_before, served_before, shelf_before, stopped_before}
use Rattle.cgf_service.proofs.settling.serve_by.Goals as goal

pub returns-in-Ok-clause-ok : goal.returns-in-Ok-clause-ok
returns-in-Ok-clause-ok g c told setup are =
    served_before _ _ _ _ _ _ _ _ _ _ (λ line. line.items) _ _ c.in-Ok.ensures.files (c.serve_on.ensures.ok told setup are)

pub returns-in-Ok-clause-err : goal.returns-in-Ok-clause-err
returns-in-Ok-clause-err g c =
    stopped_before g.A.Area g.F.Shelf c.args.serving c.args.area c.serve_on.result.1 c.args.shelf _ c.serve_on.result.2
    (g.L.Links.state c.args.links.now) (g.L.Links.state c.serve_on.new.links) (g.C.Clock.faults c.args.clock.now)
    (g.C.Clock.faults c.serve_on.new.clock) c.serve_on.result.0 c.in-Ok.ensures.files c.in-Ok.ensures.cause.ok
    c.serve_on.ensures.err

pub returns-in-Ok-clause-later : goal.returns-in-Ok-clause-later
returns-in-Ok-clause-later g c = never_fell_before _ _ _ _ _ _ _ _ _ _ _ _ c.in-Ok.ensures.cause.ok c.serve_on.ensures.later

pub returns-in-Err-clause-err : goal.returns-in-Err-clause-err
returns-in-Err-clause-err g c = ((refl, refl), inr c.in-Err.ensures.cause.failed)

pub returns-in-Err-clause-foreign : goal.returns-in-Err-clause-foreign
returns-in-Err-clause-foreign g c told at foreign = inr (inl refl)

pub returns-in-Err-clause-keeps : goal.returns-in-Err-clause-keeps
returns-in-Err-clause-keeps g c = untouched_keeps g.A.Area c.args.serving c.args.area (g.L.Links.state c.args.links.now)

pub returns-in-Err-clause-shut : goal.returns-in-Err-clause-shut
returns-in-Err-clause-shut g c is = absurd (cc is)

pub returns-in-Ok-clause-files : goal.returns-in-Ok-clause-files
returns-in-Ok-clause-files g c setup are =
    shelf_before g.A.Area g.F.Shelf c.args.serving c.args.area c.serve_on.result.1 c.args.shelf _ c.serve_on.result.2
    (g.L.Links.state c.args.links.now) (g.L.Links.state c.serve_on.new.links) setup c.in-Ok.ensures.files
    (c.serve_on.ensures.files setup are)

pub returns-in-Err-clause-files : goal.returns-in-Err-clause-files
returns-in-Err-clause-files g c setup are =
    untouched_shelf g.A.Area g.F.Shelf c.args.serving setup c.args.area c.args.shelf _ c.in-Err.ensures.files
