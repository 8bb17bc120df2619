use Rattle.std.proofs.Common.{subst}
use Rattle.gateway_book.proofs.Names.{BookValue, IfOk, items_between, ◌≡◌}
use Rattle.gateway_book.proofs.armed.told.Goals as goal

pub returns : goal.returns
returns g c = λ told fate header v armed at_last up.
    let law = c.a_gateway_stays_up_as_it_is_read.ensures in
    let planned = c.items.ensures.planned fate in (
      law.up told fate header v armed at_last c.args.book.now c.items.new.self up c.items.ensures.unchanged c.items.ensures.area planned.stands,
      planned.runs (law.runs fate header v armed at_last c.args.book.now up),
      subst (λ (u : BookValue). IfOk c.items.result (λ items. items.items ≡ items_between c.args.from c.args.max u.firm)) up.value (c.items.ensures.items told),
    )
