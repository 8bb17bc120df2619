use Rattle.std.proofs.Common.{refl}
use Rattle.replay_gateway.proofs.Names.{files_in, items_of}
use Rattle.replay_gateway.proofs.CallLemmas.{files_set}
use Rattle.replay_gateway.proofs.machine.Machine.arm_shelf.Goals as goal

pub returns : goal.returns
returns c = λ setup place g m armed arms runs stands.
    files_set _ stands runs refl
    (c.arm.ensures (files_in setup place) armed m.filing (items_of g.book.firm) arms stands.writes)
