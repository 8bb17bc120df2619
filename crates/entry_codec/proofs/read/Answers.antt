use Rattle.std.proofs.Common.{arith}
use Rattle.gw_base.specs.Entry.{entry_view}
use Rattle.entry_codec.proofs.Entries.{entry_none, entry_only, entry_shorter, entry_taken, fault_shorter, first_wrong}
use Rattle.entry_codec.proofs.Lists.{AreBelow-places}
use Rattle.entry_codec.proofs.read.Goals as goal

pub overflow_sub-result : goal.overflow_sub-result
overflow_sub-result c = entry_shorter c.args.octets.now c.in-Ok.rest.now (entry_view c.in-Ok.entry) (AreBelow-places 256 c.args.octets.now (λ i. omega (arith, c.type_inv.octets i))) c.in-Ok.ensures

pub overflow_sub-result-in-Err : goal.overflow_sub-result-in-Err
overflow_sub-result-in-Err c = fault_shorter c.args.octets.now c.in-Err.rest.now (AreBelow-places 256 c.args.octets.now (λ i. omega (arith, c.type_inv.octets i))) c.in-Err.ensures

pub returns-in-Ok-clause-fits : goal.returns-in-Ok-clause-fits
returns-in-Ok-clause-fits c = (entry_taken c.args.octets.now c.in-Ok.rest.now (entry_view c.in-Ok.entry) (AreBelow-places 256 c.args.octets.now (λ i. omega (arith, c.type_inv.octets i))) c.in-Ok.ensures).0

pub returns-in-Ok-clause-spelled : goal.returns-in-Ok-clause-spelled
returns-in-Ok-clause-spelled c = (entry_taken c.args.octets.now c.in-Ok.rest.now (entry_view c.in-Ok.entry) (AreBelow-places 256 c.args.octets.now (λ i. omega (arith, c.type_inv.octets i))) c.in-Ok.ensures).1

pub returns-in-Ok-clause-size : goal.returns-in-Ok-clause-size
returns-in-Ok-clause-size c = (entry_taken c.args.octets.now c.in-Ok.rest.now (entry_view c.in-Ok.entry) (AreBelow-places 256 c.args.octets.now (λ i. omega (arith, c.type_inv.octets i))) c.in-Ok.ensures).2

pub returns-in-Ok-clause-only : goal.returns-in-Ok-clause-only
returns-in-Ok-clause-only c = λ e b. entry_only c.args.octets.now c.in-Ok.rest.now (entry_view c.in-Ok.entry) (AreBelow-places 256 c.args.octets.now (λ i. omega (arith, c.type_inv.octets i))) c.in-Ok.ensures e b

pub returns-in-Err-clause-none : goal.returns-in-Err-clause-none
returns-in-Err-clause-none c = λ e b. entry_none c.args.octets.now c.in-Err.rest.now c.in-Err.ensures e b

pub returns-in-Err-clause-first_wrong : goal.returns-in-Err-clause-first_wrong
returns-in-Err-clause-first_wrong c = first_wrong c.args.octets.now c.in-Err.rest.now (AreBelow-places 256 c.args.octets.now (λ i. omega (arith, c.type_inv.octets i))) c.in-Err.ensures
