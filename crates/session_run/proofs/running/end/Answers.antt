use Rattle.std.proofs.Common.{◌∙◌}
use Rattle.node_session.specs.Receiving.{passes_of}
use Rattle.node_session.specs.Writing.{pass_of}
use Rattle.session_run.proofs.EndLemmas.{passes_of_cell}
use Rattle.session_run.proofs.ReceptionLemmas.{each_length}
use Rattle.session_run.proofs.running.end.Goals as goal

pub pushes_of-pushes-requires : goal.pushes_of-pushes-requires
pushes_of-pushes-requires g c = each_length c.args.inboxes (passes_of c.args.served.0.dispatcher) c.requires.pushes ∙ c.requires.two.0

pub finish_cell-book-requires-clause-own : goal.finish_cell-book-requires-clause-own
finish_cell-book-requires-clause-own g c =
    let team = c.args.served.1 in
    passes_of_cell c.args.cell c.args.inboxes team.first team.second c.leave_all-sessions.result.0 (pass_of team.actor) c.into_parts-pass.result.0
    c.requires.own.desks c.leave_all-sessions.ensures.passes c.requires.own.actor c.into_parts-pass.ensures.pass
