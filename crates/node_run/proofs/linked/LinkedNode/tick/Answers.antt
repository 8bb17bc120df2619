use Rattle.std.proofs.Common.{ap, sym, ◌∙◌, List}
use Rattle.node_core.specs.Value.{NodeValue}
use Rattle.node_core.specs.declared.message.Outgoing.{Outgoing}
use Rattle.node_core.specs.declared.port.Port.TheVariants.{First, Second}
use Rattle.node_run.specs.Running.{sent_among, sent_by_tick, ticked}
use Rattle.node_run.proofs.SendLemmas.{sends_as}
use Rattle.node_run.proofs.linked.LinkedNode.tick.Goals as goal

pub returns-clause-ticked : goal.returns-clause-ticked
returns-clause-ticked g c =
    let all = c.deref.ensures.value ∙ c.in_ok-sent.ensures.sent in
    record {
      node_is = c.send_all.ensures.node ∙ c.in_ok-sent.ensures.node
          ∙ ap (λ (n : NodeValue). ticked n) c.in_ok-fill.ensures.filled;
      sent = record {
        by_first = sends_as _ _ _ _ (sym (ap (λ (l : List Outgoing). sent_among First l) all
            ∙ ap (λ (n : NodeValue). sent_by_tick First n) c.in_ok-fill.ensures.filled))
            c.in_ok-send_all.ensures.sent.by_first;
        by_second = sends_as _ _ _ _ (sym (ap (λ (l : List Outgoing). sent_among Second l) all
            ∙ ap (λ (n : NodeValue). sent_by_tick Second n) c.in_ok-fill.ensures.filled))
            c.in_ok-send_all.ensures.sent.by_second;
      };
    }
