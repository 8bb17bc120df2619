use Rattle.std.proofs.Common.{◌≡◌, ◌+◌, ◌-◌, ◌≤◌, None, [], ◌∷◌, ap, sym, ◌∙◌, refl, length, arith, rules}
use Rattle.once_core.proofs.ArmLemmas.{turn_stays}
use Rattle.once_core.proofs.StepLemmas.{step_played, step_refused, step_spent}
use Rattle.once_core.proofs.Names.{calm, default_rules, ruled, turn, WorldKept}
use Rattle.once_core.proofs.world.World.step.Goals as goal

pub returns-in-Some-clause-gives : goal.returns-in-Some-clause-gives
returns-in-Some-clause-gives c = λ w stands.
    step_refused w c.args.event.now c.args.self.now c.args.self.now stands c.in-Some.kind (sym c.in-Some.ensures.kind) refl

pub overflow_sub-result : goal.overflow_sub-result
overflow_sub-result c = grind (
  arith,
  turn_stays c.args.self.now c.args.event.now,
  c.in-Ok.ensures,
  c.self.view_is,
  c.self-2.view_is,
  c.len-before.ensures,
  c.len.ensures,
  c.self.inside.messages.ok,
  c.self-2.inside.messages.ok,
)

pub returns-in-Ok-clause-gives : goal.returns-in-Ok-clause-gives
returns-in-Ok-clause-gives c = λ w stands.
    let none : c.refusal_of.result ≡ None = search rules in
    let few : length c.args.self.now.gateways ≤ 8 = omega (arith, c.self.invariant, ap (λ (k : WorldKept). length k.gateways) c.self.view_is) in
    step_played w c.args.event.now c.args.self.now c.play.new.self stands c.a_node_stands_for_its_log.ensures few
    (c.refusal_of.ensures.begun none) (sym c.refusal_of.ensures.kind ∙ none) c.in-Ok.ensures (c.len-before.result + 1) (c.len.result - c.len-before.result)
    (grind (arith, c.len-before.ensures, c.self.inside.messages.ok, c.self.view_is))
    (grind (arith, c.len-before.ensures, c.len.ensures, c.self.inside.messages.ok, c.self-2.inside.messages.ok, c.self.view_is, c.self-2.view_is))

pub returns-in-Err-clause-gives : goal.returns-in-Err-clause-gives
returns-in-Err-clause-gives c = λ w stands.
    let none : c.refusal_of.result ≡ None = search rules in
    step_spent w c.args.event.now c.args.self.now _ stands (sym c.refusal_of.ensures.kind ∙ none) refl

pub returns-in-Ok-clause-once : goal.returns-in-Ok-clause-once
returns-in-Ok-clause-once c = λ w stands reached.
    let after = c.turns_reach_worlds.ensures.on w (ruled default_rules (calm c.args.event.now) ∷ []) reached in
    record {
      stands = (returns-in-Ok-clause-gives c w stands).turned;
      reached = after;
      once = c.each_record_is_filed_once.ensures (turn default_rules w (calm c.args.event.now)) after;
      places = λ settings. c.each_record_stands_once.ensures settings (turn default_rules w (calm c.args.event.now)) after;
    }
