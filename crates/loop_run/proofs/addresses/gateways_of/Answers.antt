use Rattle.std.proofs.Common.{arith, ap, map, ◌∙◌, sym, List, ◌++◌, ◌∷◌, []}
use Rattle.loop_run.proofs.Names.{Addr, gateway_at, map-range_with_len_more, range_with_len}
use Rattle.loop_run.proofs.addresses.gateways_of.Goals as goal

pub loop-place-preserved : goal.loop-place-preserved
loop-place-preserved c =
    c.in_ok-push.ensures.items ∙ ap (λ (l : List Addr). l ++ c.gateway_at.result ∷ []) c.loop-place.invariant
    ∙ ap (λ (a : Addr). map gateway_at (range_with_len 0 c.loop-place.place) ++ a ∷ []) c.gateway_at.ensures
    ∙ sym (map-range_with_len_more gateway_at 0 c.loop-place.place c.loop-place.place (omega arith))
