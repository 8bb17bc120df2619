use Rattle.std.proofs.Common.{ap, arith}
use Rattle.dup_buffer.specs.Copies.{Copies}
use Rattle.gateway_index.proofs.held_pair.take_one.Goals as goal

pub returns-clause-room : goal.returns-clause-room
returns-clause-room c = omega (arith, c.take.ensures.spare, ap (λ (k : Copies). k.count) c.take.ensures.others, c.requires.room)
