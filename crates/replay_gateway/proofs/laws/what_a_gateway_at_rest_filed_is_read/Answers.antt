use Rattle.replay_gateway.proofs.RestLemmas.{rest_read}
use Rattle.replay_gateway.proofs.laws.what_a_gateway_at_rest_filed_is_read.Goals as goal

pub returns : goal.returns
returns c = λ of text lines place g area shelf reads rests.
    rest_read c.what_a_history_files_is_read.ensures c.what_stands_at_a_place_was_filed.ensures.there of text lines place g
    area shelf reads rests
