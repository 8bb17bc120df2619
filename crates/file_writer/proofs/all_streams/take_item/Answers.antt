use Rattle.file_writer.proofs.all_streams.take_item.Goals as goal

pub returns-in-Part-clause-takes : goal.returns-in-Part-clause-takes
returns-in-Part-clause-takes g c = λ settings closed sealed before same rules at.
    rw (c.in-Part.is, ← c.octets.ensures) (c.put_by_rules.ensures.takes settings closed sealed before same rules at)

pub returns-in-Tick-clause-takes : goal.returns-in-Tick-clause-takes
returns-in-Tick-clause-takes g c = λ settings closed sealed before same rules at.
    rw c.in-Tick.is (c.mark_all.ensures.takes settings closed sealed before same at)

pub returns-in-Close-clause-takes : goal.returns-in-Close-clause-takes
returns-in-Close-clause-takes g c = λ settings closed sealed before same rules at.
    rw c.in-Close.is (c.mark_all-in-Close.ensures.takes settings closed sealed before same at)
