use Rattle.std.proofs.Common.{◌∙◌, refl, ap}
use Rattle.replay_gateway.proofs.Names.{files_in, IfOk-weaker, items_of}
use Rattle.replay_gateway.specs.declared.machine.Machine as real
use Rattle.replay_gateway.proofs.CallLemmas.{site_set, writes_files}
use Rattle.replay_gateway.proofs.machine.Machine.write_on.Goals as goal

pub returns : goal.returns
returns c = λ setup place g m stands runs.
    let got = c.in_ok-later.ensures.items setup place g m stands.site runs in
    let there = site_set stands got.1 c.in_ok-later.ensures.rest in
    IfOk-weaker _ _ _ (λ wrote written. writes_files _ there runs refl written)
    (c.go_on.ensures (files_in setup place) m.filing (items_of g.book.firm) there.writes
    (c.deref.ensures.value ∙ got.0))

pub firm_items-requires : goal.firm_items-requires
firm_items-requires c = (rw c.requires at c.args.self.now.files.counted).1

pub go_on-requires-clause-taken : goal.go_on-requires-clause-taken
go_on-requires-clause-taken c = ap (λ (r : real.Machine). r.files.taken) c.in_ok-later.ensures.rest ∙ c.requires
