use Rattle.once_core.proofs.StandsLemmas.{stands_once}
use Rattle.once_core.proofs.world_laws.each_record_stands_once.Goals as goal

pub returns : goal.returns
returns c = λ settings w reached.
    stands_once settings (λ q. c.each_filed_record_has_one_place.ensures.count (settings q))
    (λ q. c.what_stands_at_a_place_was_filed.ensures.filed (settings q)) w
    (c.each_record_is_filed_once.ensures w reached)
    (λ q filing. c.what_is_filed_was_submitted.ensures w q filing reached)
