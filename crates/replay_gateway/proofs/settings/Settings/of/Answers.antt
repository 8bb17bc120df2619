use Rattle.std.proofs.Common.{◌≡◌, refl, ap, sym, ◌∙◌, arith}
use Rattle.replay_gateway.proofs.Names.{after_setting, after_settings, default_setup, IsInRange, setup_of, slice_get_within}
use Rattle.replay_gateway.proofs.RangeLemmas.{back_in_range}
use Rattle.replay_gateway.proofs.ListLemmas.{all_at, none_at, rest_at}
use Rattle.replay_gateway.proofs.settings.Settings.of.Goals as goal

pub overflow_add-k : goal.overflow_add-k
overflow_add-k c =
    omega (arith, (back_in_range c.args.script.now c.kind-kind.ensures.reads).few, slice_get_within c.args.script.now.lines c.loop-line.k c.in-Some.line.now (sym c.in-Some.ensures))

pub loop-line-smaller : goal.loop-line-smaller
loop-line-smaller c = omega (arith, slice_get_within c.args.script.now.lines c.loop-line.k c.in-Some.line.now (sym c.in-Some.ensures))

pub loop-line-preserved : goal.loop-line-preserved
loop-line-preserved c =
    let lines = c.args.script.now.lines in
    let before = c.loop-line.invariant.set in
    record {
      set = (
        after_setting before.0 c.in-Some.line.now,
        ap (λ ls. after_settings before.0 ls) (sym (rest_at lines c.loop-line.k (sym c.in-Some.ensures))) ∙ before.1,
        c.set.ensures.set before.0 before.2,
      );
      sound = c.set.ensures.sound;
      within = omega (arith, slice_get_within lines c.loop-line.k c.in-Some.line.now (sym c.in-Some.ensures));
    }

pub returns-clause-set : goal.returns-clause-set
returns-clause-set c =
    let lines = c.args.script.now.lines in
    let before = c.loop-line.invariant.set in
    let same : before.0 ≡ setup_of lines =
    ap (λ ls. after_settings before.0 ls) (sym (none_at lines c.loop-line.k (sym c.in_default.ensures))) ∙ before.1 in
    rw same at before.2

pub loop-line-init : goal.loop-line-init
loop-line-init c = record {
  set = (default_setup, refl, c.first-settings.ensures.set);
  sound = c.first-settings.ensures.sound;
  within = omega arith;
}

pub set-requires-clause-range : goal.set-requires-clause-range
set-requires-clause-range c =
    all_at IsInRange c.args.script.now.lines c.loop-line.k
    (back_in_range c.args.script.now c.kind-kind.ensures.reads).each (sym c.in-Some.ensures)
