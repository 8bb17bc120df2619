use Rattle.std.proofs.Common.{List, arith, ap, subst, sym, ◌∙◌}
use Rattle.node_session.proofs.Names.{AreOfEach, InboxPass, insert, MatchResult-weaker, on_err_weaker, on_ok_weaker}
use Rattle.node_session.proofs.PushedLemmas.{as_many, full_at, kept, pass_at, pushed, still_own}
use Rattle.node_session.proofs.dispatcher.Dispatcher.push.Goals as goal

pub remove-pass-requires : goal.remove-pass-requires
remove-pass-requires g c =
    let same = as_many c.args.inboxes.now c.args.self.now.passes.items c.requires.own in let lt = c.requires.within in
    omega (arith, same, lt)

pub push-pushed-requires : goal.push-pushed-requires
push-pushed-requires g c = record {
  own = pass_at c.args.inboxes.now c.args.self.now.passes.items c.args.k c.index-inboxes-k.result c.remove-pass.result c.requires.own
      c.requires.within c.index-inboxes-k.is c.remove-pass.ensures.value;
}

pub returns-clause-own : goal.returns-clause-own
returns-clause-own g c =
    subst (λ (xs : List InboxPass). AreOfEach c.args.inboxes.now xs)
    (sym (c.in-Ok.ensures.items ∙ ap (λ (xs : List InboxPass). insert xs c.args.k c.push-pushed.result.1) c.remove-pass.ensures.items))
    (still_own c.args.inboxes.now c.args.self.now.passes.items c.args.k c.index-inboxes-k.result c.push-pushed.result.1 c.requires.own
    c.requires.within c.index-inboxes-k.is c.push-pushed.ensures.own)

pub returns-clause-ok : goal.returns-clause-ok
returns-clause-ok g c =
    on_ok_weaker c.push-pushed.result.0 (pushed c.args.inboxes.now c.args.self.now.passes.items c.args.k c.remove-pass.result c.push-pushed.result.1 c.args.job
    c.insert.new.self.items c.requires.own c.requires.within c.remove-pass.ensures.value
    (c.in-Ok.ensures.items ∙ ap (λ (xs : List InboxPass). insert xs c.args.k c.push-pushed.result.1) c.remove-pass.ensures.items))
    c.push-pushed.ensures.ok

pub returns-clause-kept : goal.returns-clause-kept
returns-clause-kept g c =
    MatchResult-weaker c.push-pushed.result.0 c.push-pushed.ensures.back (λ x done. done)
    (kept c.args.inboxes.now c.args.self.now.passes.items c.args.k c.remove-pass.result c.push-pushed.result.1 c.args.job
    c.insert.new.self.items c.requires.own c.requires.within c.remove-pass.ensures.value
    (c.in-Ok.ensures.items ∙ ap (λ (xs : List InboxPass). insert xs c.args.k c.push-pushed.result.1) c.remove-pass.ensures.items))

pub returns-clause-full : goal.returns-clause-full
returns-clause-full g c =
    on_err_weaker c.push-pushed.result.0 (full_at c.args.inboxes.now c.args.self.now.passes.items c.args.k c.index-inboxes-k.result c.remove-pass.result
    c.requires.own c.requires.within c.index-inboxes-k.is c.remove-pass.ensures.value) c.push-pushed.ensures.full
