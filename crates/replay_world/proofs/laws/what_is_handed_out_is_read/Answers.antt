use Rattle.replay_world.proofs.Names.{replay_of, replayed, setup_of}
use Rattle.replay_world.proofs.HandedLemmas.{all_read, lines_setup}
use Rattle.replay_world.proofs.laws.what_is_handed_out_is_read.Goals as goal

pub returns : goal.returns
returns c = λ of text lines played reads out.
    all_read (setup_of lines)
    (λ place g area shelf rests. c.what_a_gateway_at_rest_filed_is_read.ensures of text lines place g area shelf reads rests)
    (replayed lines) played (lines_setup (replay_of lines) lines) out
