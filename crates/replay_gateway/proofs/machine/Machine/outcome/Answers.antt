use Rattle.std.proofs.Common.{◌∙◌, refl}
use Rattle.replay_gateway.proofs.CallLemmas.{outcome_called}
use Rattle.replay_gateway.proofs.machine.Machine.outcome.Goals as goal

pub returns-in-Some : goal.returns-in-Some
returns-in-Some c = λ setup place g m stands runs.
    let there = rw c.in-Some.is at stands.site in
    outcome_called g m c.args.message.now _ _ _ _ c.filed_records_stay.ensures.items c.what_was_written_stays.ensures
    stands runs c.node_address-from.ensures.address (c.prepare-request.ensures ∙ c.octets.ensures) refl
    (c.take.ensures setup place g m runs there)
