use Rattle.gtpp_stream.proofs.FrameLemmas.{bad_none, frames_none}
use Rattle.gtpp_stream.proofs.laws.a_bad_octet_ends_the_messages.Goals as goal

pub returns : goal.returns
returns c octets kind e = frames_none octets (bad_none octets kind e)
