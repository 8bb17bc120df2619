use Rattle.std.proofs.Common.{◌≡◌, sym, subst, ◌∙◌, IfOk}
use Rattle.once_core.proofs.Names.{AllKept, answer, answer_view, Decided, decided, observed, prepared_of, room_for}
use Rattle.gateway_answer.specs.Answer.{node_of}
use Rattle.once_core.proofs.GatewayTurnLemmas.{decided_at, stored}
use Rattle.once_core.proofs.HistoryKeptLemmas.{answers_keep, kept_by, kept_is_bounded, near_node}
use Rattle.once_core.proofs.gateway.KeptGateway.decide.Goals as goal

pub answer-requires : goal.answer-requires
answer-requires c = kept_is_bounded c.deref.result.now (subst AllKept (sym c.deref.ensures.value) c.self.invariant.entries)

pub returns-clause-answer : goal.returns-clause-answer
returns-clause-answer c =
    subst (λ (d : Decided). IfOk c.answer.result (λ found. answer_view found ≡ d))
    (decided_at c.args.self.now c.deref.result.now c.node_address-from.result c.prepare-datagram.result c.args.message.now
    (stored c.self.inside c.self.view_is c.deref.ensures.value)
    c.node_address-from.ensures.address (c.prepare-datagram.ensures ∙ c.octets.ensures))
    c.answer.ensures

pub returns-clause-kept : goal.returns-clause-kept
returns-clause-kept c =
    kept_by c.answer.result (decided (answer c.deref.result.now c.node_address-from.result c.prepare-datagram.result 16777216))
    (answers_keep (observed c.deref.result.now (node_of c.node_address-from.result)) c.node_address-from.result
    (prepared_of c.prepare-datagram.result) (room_for c.deref.result.now 16777216)
    (near_node (node_of c.node_address-from.result) c.node_address-from.ensures.near))
    c.answer.ensures
