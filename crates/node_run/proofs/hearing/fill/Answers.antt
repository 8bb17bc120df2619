use Rattle.std.proofs.Common.{◌≡◌, ◌<◌, ap, arith, sym, ◌∙◌, ℕ}
use Rattle.node_core.specs.Value.{NodeValue}
use Rattle.node_run.specs.Packets.{filled, packet_form}
use Rattle.node_run.proofs.FillLemmas.{filled_more, filled_refused}
use Rattle.node_run.proofs.hearing.fill.Goals as goal

pub loop-next-preserved : goal.loop-next-preserved
loop-next-preserved c =
    let next : c.loop-next.next ≡ c.loop-next.node.submissions = c.loop-next.invariant.next in
    let few : c.loop-next.node.submissions < c.args.packets = omega
    (arith, next, c.loop-next-test.true, c.from.ensures) in
    record {
      runs = ap (λ (n : NodeValue). n.is_running) c.in-Ok.ensures.node ∙ c.loop-next.invariant.runs;
      next =
          let one_more = ap (λ (n : NodeValue). n.submissions) c.in-Ok.ensures.node in omega (arith, one_more, next);
      same = ap (λ (n : NodeValue). filled c.args.packets n) c.in-Ok.ensures.node
          ∙ filled_more c.args.packets c.loop-next.node c.in_ok-draft.draft few
          (c.in_ok-draft.ensures ∙ ap (λ (k : ℕ). packet_form k) next) c.in-Ok.ensures.unrefused
          ∙ c.loop-next.invariant.same;
    }

pub returns-in-Err-clause-filled : goal.returns-in-Err-clause-filled
returns-in-Err-clause-filled c =
    c.in-Err.ensures.unchanged
    ∙ sym (filled_refused c.args.packets c.loop-next.node c.in_ok-draft.draft c.in-Err.fault
    (c.in_ok-draft.ensures ∙ ap (λ (k : ℕ). packet_form k) c.loop-next.invariant.next)
    (sym c.in-Err.ensures.refused ∙ c.in_ok-stop_by-in-Err.ensures))
    ∙ c.loop-next.invariant.same
