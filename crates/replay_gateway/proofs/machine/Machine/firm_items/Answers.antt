use Rattle.std.proofs.Common.{ap, ℕ, ◌<◌, List, arith, drop, length, length-drop, length-take}
use Rattle.replay_gateway.proofs.Names.{IfOk-weaker, Item}
use Rattle.replay_gateway.specs.Parts.{IsPart}
use Rattle.replay_gateway.proofs.CallLemmas.{are_all}
use Rattle.replay_gateway.proofs.machine.Machine.firm_items.Goals as goal

few_of : {all : List Item} {from : ℕ} {items : _} → IsPart from 4294967295 all items → length items < 4294967295
few_of {all = all} {from = from} part =
    omega (arith, ap length part.is, length-take 4294967295 (drop from all), length-drop from all)

pub returns-in-Some-clause-items : goal.returns-in-Some-clause-items
returns-in-Some-clause-items c = λ setup place g m stands runs.
    IfOk-weaker c.items.result _ _ (λ items got. (are_all _ _ got.0.is (few_of got.0), got.1))
    (c.items.ensures.items setup place g m runs (rw c.in-Some.is at stands))
