use Rattle.std.proofs.Common.{Err, ap}
use Rattle.file_writer.proofs.Names.{is_memory, ShelfStop}
use Rattle.file_writer.proofs.ShuttingLemmas.{failed, went, writes}
use Rattle.file_writer.proofs.shelf_calls.write.Goals as goal

pub returns-in-Ok-clause-makes : goal.returns-in-Ok-clause-makes
returns-in-Ok-clause-makes g c = went g.F.Shelf _ _ _ _ (c.in-Ok.ensures {u = tt}).steps

pub returns-in-Err-Failed-clause-makes : goal.returns-in-Err-Failed-clause-makes
returns-in-Err-Failed-clause-makes g c =
    failed g.F.Shelf _ _ _ _ _ (ap (λ (stop : ShelfStop). is_memory {T = Unit {0}} (Err stop)) c.in-Err-Failed.field-0-is)
    (c.in-Err-Failed.ensures {u = tt}).steps

pub returns-in-Ok-clause-shut : goal.returns-in-Ok-clause-shut
returns-in-Ok-clause-shut g c = writes g.F.Shelf _ _ c.args.stream c.args.at c.args.from.now _ _ (c.in-Ok.ensures {u = tt}).steps

pub returns-in-Err-Failed-clause-shut : goal.returns-in-Err-Failed-clause-shut
returns-in-Err-Failed-clause-shut g c = writes g.F.Shelf _ _ c.args.stream c.args.at c.args.from.now _ _ (c.in-Err-Failed.ensures {u = tt}).steps

pub returns-in-Err-NoMemory-clause-shut : goal.returns-in-Err-NoMemory-clause-shut
returns-in-Err-NoMemory-clause-shut g c = writes g.F.Shelf _ _ c.args.stream c.args.at c.args.from.now _ _ (c.in-Err-NoMemory.ensures {u = tt}).steps
