use Rattle.std.proofs.Common.{◌≡◌, map, filter, nat_le, not}
use Rattle.once_core.specs.declared.message.Waiting.{Waiting}
use Rattle.replay_gateway.proofs.machine.Machine.release.Goals as goal

pub returns-clause-due : goal.returns-clause-due
returns-clause-due c =
    let parted : c.in_ok-parts.parts.0.items ≡ map (λ (w : Waiting). w.message)
    (filter (λ (w : Waiting). nat_le w.front c.firm_count-firm.result) c.args.self.now.waiting.items) =
    cc (c.in_ok-parts.ensures.due, c.replace-waiting.ensures.value) in
    rw c.firm_count-firm.ensures at parted

pub returns-clause-later : goal.returns-clause-later
returns-clause-later c =
    let parted : c.in_ok-parts.parts.1.items
    ≡ filter (λ (w : Waiting). not (nat_le w.front c.firm_count-firm.result)) c.args.self.now.waiting.items =
    cc (c.in_ok-parts.ensures.later, c.replace-waiting.ensures.value) in
    rw c.firm_count-firm.ensures at parted
