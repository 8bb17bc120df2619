use Rattle.std.proofs.Common.{arith}
use Rattle.gateway_book.proofs.adding.record.Goals as goal

pub unreachable-requires : goal.unreachable-requires
unreachable-requires g c = let full = (c.push.ensures.full c.in-Err.field-0.free).0 c.in-Err.is in omega (arith, c.requires.free, full)
