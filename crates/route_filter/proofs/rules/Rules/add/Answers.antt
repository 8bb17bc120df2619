use Rattle.std.proofs.Common.{rules}
use Rattle.route_filter.proofs.StartLemmas.{kept_after, starts_kept}
use Rattle.route_filter.proofs.rules.Rules.add.Goals as goal

pub invariant_of-self : goal.invariant_of-self
invariant_of-self c = (
  kept_after c.self.inside.rules.items c.push.new.self.items c.in-Some.rule c.self.invariant.0 c.in-Ok.ensures.items (search rules) (search rules),
  starts_kept c.self.inside.starts c.pass.new.starts c.self.inside.rules.items c.push.new.self.items c.in-Some.rule _ c.self.invariant.1
      c.pass.ensures.groups c.pass.ensures.moved (search rules) c.in-Ok.ensures.items,
)
