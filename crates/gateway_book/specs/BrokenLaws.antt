-- A gateway says that its device failed where it is broken alone.
use Rattle.std.proofs.Common.{◌≡◌, ℕ, Bool, true, false, if◌then◌else◌, List, refl, sym, ◌∙◌}
use Rattle.gw_base.specs.Observed.{observed}
use Rattle.gw_base.specs.declared.address.Addr.{Addr}
use Rattle.gateway_answer.specs.Answer.{Given, failure_answer, may_record, node_of}
use Rattle.gateway_answer.specs.Answered.{answer_to, room_for}
use Rattle.gateway_answer.specs.FaultLaws.{running_tells_none}
use Rattle.gateway_answer.specs.Preparing.{prepared_of}
use Rattle.gateway_answer.specs.Recording.{tells_a_fault}
use Rattle.gateway_answer.specs.Value.{BookValue, history_of}
use Rattle.gateway_book.specs.Calls.{given_at}

pub broken_alone_tells : (ready : BookValue) (from : Addr) (octets : List ℕ) (size : ℕ)
    → tells_a_fault (given_at ready from (prepared_of octets) size) ≡ true → ready.is_broken ≡ true
broken_alone_tells ready from octets size tells =
    by_broken ready.is_broken (failure_answer (prepared_of octets))
    (answer_to (history_of ready) from (prepared_of octets) size)
    (running_tells_none (observed (history_of ready) (node_of from)) from octets
    (may_record (observed (history_of ready) (node_of from)) (room_for (history_of ready) size))) tells
  where
    by_broken : (b : Bool) (failed given : Given) → tells_a_fault given ≡ false
        → tells_a_fault (if b then failed else given) ≡ true → b ≡ true
    by_broken true failed given off told = refl
    by_broken false failed given off told = sym off ∙ told
