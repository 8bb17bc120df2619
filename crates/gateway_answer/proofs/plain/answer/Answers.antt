use Rattle.std.proofs.Common.{◌≡◌, ◌∙◌, ℕ, List, subst}
use Rattle.gateway_answer.proofs.Names.{Addr, answer, answer_within, Decided, decided, HistoryEntry, IfOk, node_of, observed, prepared_of, PreparedValue, room_for}
use Rattle.gateway_answer.specs.Plain.{answer_view}
use Rattle.gateway_answer.proofs.plain.answer.Goals as goal

-- what is answered by the same history, octets and size
answered_at : (h g : List HistoryEntry) (from : Addr) (datagram : PreparedValue) (octets : List ℕ) (size other : ℕ) → h ≡ g → datagram ≡ prepared_of octets → size ≡ other
    → decided (answer_within (observed h (node_of from)) from datagram (room_for h size)) ≡ decided (answer g from octets other)
answered_at h g from datagram octets size other hs ds ss = λ i. decided (answer_within (observed (hs i) (node_of from)) from (ds i) (room_for (hs i) (ss i)))

pub returns : goal.returns
returns c =
    subst (λ (d : Decided). IfOk c.owned.result (λ found. answer_view found ≡ d))
    (c.answer_by-decision.ensures
    ∙ answered_at _ c.args.history.now c.args.from _ c.args.datagram.now _ c.args.size c.in_ok-seen.ensures.0 c.case.ensures.value c.in_ok-seen.ensures.1)
    c.owned.ensures
