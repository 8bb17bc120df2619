use Rattle.std.proofs.Common.{sym, subst}
use Rattle.once_core.proofs.HistoryKeptLemmas.{kept_is_bounded}
use Rattle.once_core.specs.HistoryKept.{AllKept}
use Rattle.once_core.proofs.gateway.KeptGateway.start.Goals as goal

pub has_room-requires : goal.has_room-requires
has_room-requires c = kept_is_bounded c.deref.result.now (subst AllKept (sym c.deref.ensures.value) c.self.invariant.entries)
