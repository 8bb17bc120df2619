use Rattle.gateway_index.proofs.window_pair.make_same.Goals as goal

pub returns-then-keeps_firm-clause-live : goal.returns-then-keeps_firm-clause-live
returns-then-keeps_firm-clause-live c = rw c.if-keeps_firm.true c.copy_from.ensures

pub returns-then-changed-clause-firm : goal.returns-then-changed-clause-firm
returns-then-changed-clause-firm c = rw c.if-keeps_firm.false c.copy_from-then-changed.ensures
