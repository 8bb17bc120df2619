use Rattle.std.proofs.Common.{refl}
use Rattle.file_writer.proofs.ShuttingLemmas.{failed, syncs, went}
use Rattle.file_writer.proofs.shelf_calls.sync.Goals as goal

pub returns-in-Ok-clause-makes : goal.returns-in-Ok-clause-makes
returns-in-Ok-clause-makes g c = went g.F.Shelf _ _ _ _ (c.in-Ok.ensures {u = tt}).steps

pub returns-in-Err-clause-makes : goal.returns-in-Err-clause-makes
returns-in-Err-clause-makes g c = failed g.F.Shelf _ _ _ _ _ refl (c.in-Err.ensures {u = tt}).steps

pub returns-in-Ok-clause-shut : goal.returns-in-Ok-clause-shut
returns-in-Ok-clause-shut g c = syncs g.F.Shelf _ _ _ _ _ (c.in-Ok.ensures {u = tt}).steps

pub returns-in-Err-clause-shut : goal.returns-in-Err-clause-shut
returns-in-Err-clause-shut g c = syncs g.F.Shelf _ _ _ _ _ (c.in-Err.ensures {u = tt}).steps
