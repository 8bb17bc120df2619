use Rattle.std.proofs.Common.{rules}
use Rattle.gateway_index.proofs.held_pair.hold_one.Goals as goal

pub unreachable-requires : goal.unreachable-requires
unreachable-requires c = search rules

pub unreachable-requires-in-Err-NoMemory : goal.unreachable-requires-in-Err-NoMemory
unreachable-requires-in-Err-NoMemory c = search rules
