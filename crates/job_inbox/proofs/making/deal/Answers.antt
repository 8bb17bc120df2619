use Rattle.std.proofs.Common.{◌≡◌, ◌∷◌, [], sym, ap, ◌∙◌, subst, arith}
use Rattle.std.proofs.lemmas.List.Elements.{All-push}
use Rattle.crossbeam_queue.specs.Passes.{view}
use Rattle.job_inbox.specs.declared.hand.Hands.{Hands}
use Rattle.job_inbox.specs.Inbox.{ArePassesOf, IsPassOf, known_by}
use Rattle.job_inbox.specs.Rule.{first_of, hands_of, idle}
use Rattle.job_inbox.proofs.Deals.{gives, is_one, keeps, one_more}
use Rattle.job_inbox.proofs.Orders.{splits}
use Rattle.job_inbox.proofs.making.deal.Goals as goal

pub another-own-requires-clause-rule : goal.another-own-requires-clause-rule
another-own-requires-clause-rule c =
    let made : (view c.loop.seat).made ≡ c.args.inbox.now.made = ap (λ (v : Hands). v.made) c.loop.invariant.seat.1 in
    splits _ _ (omega (arith, c.args.inbox.now.some))

pub loop-preserved : goal.loop-preserved
loop-preserved c =
    let i = c.loop.invariant in
    let e = c.another-own.ensures in
    let made = c.args.inbox.now.made in
    let own : view c.another-own.result ≡ hands_of made (idle ∷ []) =
    e.rule.1 ∙ gives _ c.loop.counter made c.loop-test.true i.seat.1 in record {
      seat = ((e.queue.0.0 ∙ i.seat.0.0, e.queue.0.2 ∙ i.seat.0.1), e.rule.0 ∙ keeps _ c.loop.counter made c.loop-test.true i.seat.1);
      count = let was = i.count in omega (arith, c.push_reserved.ensures.len);
      room = c.push_reserved.ensures.capacity ∙ i.room;
      own = subst (ArePassesOf c.args.inbox.now) (sym c.push_reserved.ensures.items)
          (All-push (IsPassOf c.args.inbox.now) _ _ i.own (e.queue.1, is_one _ _ _ own));
      idle = ap known_by c.push_reserved.ensures.items
          ∙ one_more _ _ c.loop.counter i.idle (ap (λ (v : Hands). first_of v.hands) own);
    }
