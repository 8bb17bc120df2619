use Rattle.gtpp_stream.proofs.FrameLemmas.{cut_in_two}
use Rattle.gtpp_stream.proofs.laws.a_stream_may_be_cut.Goals as goal

pub returns-clause-frames : goal.returns-clause-frames
returns-clause-frames c part more = (cut_in_two c.further_octets_are_ignored.ensures part more).0

pub returns-clause-rest : goal.returns-clause-rest
returns-clause-rest c part more = (cut_in_two c.further_octets_are_ignored.ensures part more).1
