use Rattle.std.proofs.Common.{◌≡◌, ℕ, if◌then◌else◌, Bool, List, ap, ◌∙◌}
use Rattle.gw_base.specs.Nearest.{nearest}
use Rattle.gateway_book.proofs.Names.{answer_within, HistoryEntry, is_act_fit, key_seen, node_of, NodeId, Observed, observed}
use Rattle.gw_base.specs.Starts.{start_of}
use Rattle.gateway_index.specs.Windows.{if_held, narrowed}
use Rattle.gateway_answer.specs.FitLaws.{nearest_in_window}
use Rattle.gateway_answer.specs.Told.{key_of}
use Rattle.gateway_book.proofs.observed.an_index_is_enough.Goals as goal

-- what a number on the wire means lies in the window
narrowed_key : (h : List HistoryEntry) (node : NodeId) (wire : ℕ) → key_seen (narrowed (observed h node)) wire ≡ key_of h node wire
narrowed_key h node wire = λ i. record {
  start = start_of node.0 h;
  number = nearest o.top wire;
  state = ap (λ (b : Bool). if b then o.state (nearest o.top wire) else if_held (o.state (nearest o.top wire))) (nearest_in_window o.top wire) i;
}
  where
    o : Observed
    o = observed h node

pub returns-clause-answers : goal.returns-clause-answers
returns-clause-answers c = λ firm index h follows from datagram room.
    ap (λ (o : Observed). answer_within o from datagram room) (c.an_index_tells_its_history.ensures.observed firm index h (node_of from) follows)
    ∙ c.a_window_is_enough.ensures.answers (observed h (node_of from)) from datagram room

pub returns-clause-fits : goal.returns-clause-fits
returns-clause-fits c = λ firm index h act follows.
    ap (λ (of : NodeId → Observed). is_act_fit of act) (λ i node. c.an_index_tells_its_history.ensures.observed firm index h node follows i)
    ∙ c.a_window_is_enough.ensures.fits (observed h) act

pub returns-clause-keys : goal.returns-clause-keys
returns-clause-keys c = λ firm index h node wire follows.
    ap (λ (o : Observed). key_seen o wire) (c.an_index_tells_its_history.ensures.observed firm index h node follows)
    ∙ narrowed_key h node wire
