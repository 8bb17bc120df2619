use Rattle.std.proofs.Common.{refl, sym, subst, true}
use Rattle.replay_world.proofs.Names.{DoesAll, draft_fault_name, on_ok_weaker, Refused, submit_steps}
use Rattle.replay_world.proofs.NodeSubmitLemmas.{does_tell, draft_read, one_step}
use Rattle.replay_world.proofs.RefusalLemmas.{reason_there, reason_told}
use Rattle.replay_world.proofs.replay.Replay.submit.Goals as goal

pub returns-in-Ok : goal.returns-in-Ok
returns-in-Ok c = λ v number stands is none.
    on_ok_weaker c.submit_draft.result (λ done.
    subst (λ r. DoesAll v (submit_steps number r) c.args.out.now c.submit_draft.new.out c.submit_draft.new.self true)
    (sym c.in-Ok.ensures.ok) (one_step refl done))
    (c.submit_draft.ensures v number stands is none
    (λ some. draft_read c.args.format c.args.version c.args.records.now c.in-Ok.ensures.ok some
    c.packet-packet.ensures.whole))

pub returns-in-Err : goal.returns-in-Err
returns-in-Err c = λ v number stands is none.
    on_ok_weaker c.refuse.result (λ told.
    let own = reason_there _ c.draft_fault_name.result c.draft_fault_name.ensures.own told in
    let text = reason_told c.draft_fault_name.result (λ n. n.now) (draft_fault_name c.in-Err.fault) c.args.out.now
    c.refuse.new.out c.draft_fault_name.ensures.name told in
    subst (λ r. DoesAll v (submit_steps number r) c.args.out.now c.refuse.new.out c.args.self.now true)
    (sym (c.in-Err.ensures.err own))
    (one_step refl (does_tell (Refused (draft_fault_name c.in-Err.fault)) c.args.out.now stands text)))
    c.refuse.ensures
