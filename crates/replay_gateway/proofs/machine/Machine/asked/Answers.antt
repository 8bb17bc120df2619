use Rattle.std.proofs.Common.{refl}
use Rattle.replay_gateway.proofs.Names.{asked_by, asked_value, fortune_by, sequel_on}
use Rattle.replay_gateway.proofs.GoesLemmas.{asked_grows, asked_keeps}
use Rattle.replay_gateway.proofs.CallLemmas.{is_called}
use Rattle.replay_gateway.proofs.machine.Machine.asked.Goals as goal

pub returns-in-Some : goal.returns-in-Some
returns-in-Some c = λ setup place g m stands runs.
    let s = sequel_on m (asked_by c.args.call g.book) in
    let v = asked_value setup c.args.now c.args.call (fortune_by m.at_last s) g.book in
    let there = rw c.in-Some.is at stands.site in
    is_called setup place g m v s _ _ c.filed_records_stay.ensures.items c.what_was_written_stays.ensures stands runs
    refl (c.ask.ensures setup place g m runs there)
    (asked_grows setup c.args.now g m c.args.call (fortune_by m.at_last s))
    (asked_keeps setup c.args.now g m c.args.call)
