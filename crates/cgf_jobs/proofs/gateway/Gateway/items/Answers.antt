use Rattle.std.proofs.Common.{◌<◌, ◌^◌, refl, ap, subst, ◌∙◌, arith, length}
use Rattle.cgf_jobs.proofs.Names.{GatewayValue, items_of, part_of, value_of}
use Rattle.cgf_jobs.proofs.gateway.Gateway.items.Goals as goal

pub returns-clause-items : goal.returns-clause-items
returns-clause-items c =
    c.in-Ok.ensures.items (refl, refl)
    ∙ ap (λ (g : GatewayValue). part_of c.args.from c.args.most (items_of g.history)) c.self.view_is

pub returns-clause-few : goal.returns-clause-few
returns-clause-few c =
    let few : length (items_of (value_of c.self.inside.book).firm) < 2 ^ 31 =
    omega (
      arith,
      c.a_book_is_within_the_limits.ensures.items (refl, refl) c.self.inside.book,
      c.a_book_is_within_the_limits.ensures.short c.self.inside.book,
    ) in
    subst (λ (g : GatewayValue). length (items_of g.history) < 2 ^ 31) c.self.view_is few
