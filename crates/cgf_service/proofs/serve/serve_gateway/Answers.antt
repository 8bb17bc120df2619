use Rattle.std.proofs.Common.{refl}
use Rattle.cgf_service.proofs.KeptLemmas.{untouched_keeps, untouched_shelf, unused}
use Rattle.cgf_service.proofs.ServeLemmas.{refused_serves, stopped_serves, written_serves}
use Rattle.cgf_service.proofs.serve.serve_gateway.Goals as goal

pub returns-in-Err-clause-serves : goal.returns-in-Err-clause-serves
returns-in-Err-clause-serves g c words =
    refused_serves _ _ _ _ _ _ _ _ _ _ _ _ _ c.in-Err.ensures.err c.in-Err.ensures.cause c.in-Err.ensures.taken refl
    (untouched_keeps g.A.Area c.args.serving c.args.area (g.L.Links.state c.args.links.now))
    (λ setup. untouched_shelf g.A.Area g.F.Shelf c.args.serving setup c.args.area c.args.shelf c.args.shelf refl)
    (unused c.args.serving (g.L.Links.state c.args.links.now))

pub returns-in-Ok-line-clause-serves : goal.returns-in-Ok-line-clause-serves
returns-in-Ok-line-clause-serves g c words =
    written_serves _ _ _ _ _ _ _ _ _ _ _ _ (λ line. line.items) c.serve_by-line.result.0 c.in-Ok-line.line c.deref.result.now c.written.result
    c.in-Ok.ensures.ok.0 c.in-Ok.settings c.in-Ok-line.is c.deref.ensures.value c.in-Ok.ensures.ok.1 c.in-Ok.ensures.ok.2 c.written.ensures
    c.serve_by-line.ensures.ok c.serve_by-line.ensures.turns c.serve_by-line.ensures.foreign
    (c.in-Ok.ensures.cause.1 (λ is. cc)) c.in-Ok.ensures.taken c.serve_by-line.ensures.keeps
    c.serve_by-line.ensures.files c.serve_by-line.ensures.later.uses

pub returns-in-Err-line-clause-serves : goal.returns-in-Err-line-clause-serves
returns-in-Err-line-clause-serves g c words =
    stopped_serves _ _ _ _ _ _ _ _ _ _ _ _ c.serve_by-line.result.0 c.in-Err-line.status c.in-Ok.ensures.ok.0 c.in-Ok.settings
    c.in-Ok.ensures.ok.1 c.in-Ok.ensures.ok.2 c.in-Err-line.is c.serve_by-line.ensures.err c.serve_by-line.ensures.shut
    c.serve_by-line.ensures.foreign
    (c.what_stands_is_ours.ensures.ours (g.A.Area.size c.args.area) c.args.serving.ip)
    (c.what_stands_is_ours.ensures.others (g.A.Area.size c.args.area) c.args.serving.ip)
    (c.in-Ok.ensures.cause.1 (λ is. cc)) c.in-Ok.ensures.taken refl c.serve_by-line.ensures.keeps
    c.serve_by-line.ensures.files c.serve_by-line.ensures.later.uses
