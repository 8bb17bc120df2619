use Rattle.std.proofs.Common.{◌≡◌, ◌∷◌, sym, ap, ◌∙◌, subst, arith}
use Rattle.crossbeam_queue.specs.Passes.{view}
use Rattle.job_inbox.specs.declared.hand.Hands.{Hands}
use Rattle.job_inbox.specs.Inbox.{ArePassesOf, IsPassOf}
use Rattle.job_inbox.specs.Rule.{both}
use Rattle.job_inbox.proofs.Deals.{is_in, one_behind}
use Rattle.job_inbox.proofs.Orders.{joins}
use Rattle.job_inbox.proofs.ending.gather.Goals as goal

pub absorb-requires-clause-queue : goal.absorb-requires-clause-queue
absorb-requires-clause-queue c =
    let inv = c.loop-pass.invariant in
    let passes = subst (ArePassesOf c.args.inbox.now) (one_behind _ _ _ inv.0 _ inv.1 c.in-Some.ensures.items) c.requires.passes in
    let own = is_in (IsPassOf c.args.inbox.now) _ inv.0 c.in-Some.pass passes in
    (inv.2.0, own.0)

pub absorb-requires-clause-rule : goal.absorb-requires-clause-rule
absorb-requires-clause-rule c =
    let inv = c.loop-pass.invariant in
    let passes = subst (ArePassesOf c.args.inbox.now) (one_behind _ _ _ inv.0 _ inv.1 c.in-Some.ensures.items) c.requires.passes in
    let own = is_in (IsPassOf c.args.inbox.now) _ inv.0 c.in-Some.pass passes in
    let made : (view c.loop-pass.seat).made ≡ c.args.inbox.now.made = ap (λ (v : Hands). v.made) inv.2.1 in
    joins _ _ _ _ (omega (arith, c.args.inbox.now.some)) (made ∙ sym (ap (λ (v : Hands). v.made) own.1))

pub loop-pass-preserved : goal.loop-pass-preserved
loop-pass-preserved c =
    let inv = c.loop-pass.invariant in
    let split = one_behind _ _ _ inv.0 _ inv.1 c.in-Some.ensures.items in
    let own = is_in (IsPassOf c.args.inbox.now) _ inv.0 c.in-Some.pass (subst (ArePassesOf c.args.inbox.now) split c.requires.passes) in
    let same = c.absorb.ensures.queue in (
      c.in-Some.pass ∷ inv.0,
      split,
      (
        (same.0 ∙ inv.2.0.0, same.2 ∙ inv.2.0.1),
        c.absorb.ensures.rule ∙ (λ i. both (inv.2.1 i) (own.1 i)),
      ),
    )
