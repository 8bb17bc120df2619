use Rattle.gtpp_stream.proofs.LongestLemmas.{frames_are, only_frames}
use Rattle.gtpp_stream.proofs.laws.the_messages_are_the_longest_list.Goals as goal

pub returns-clause-are : goal.returns-clause-are
returns-clause-are c octets = frames_are c.further_octets_are_ignored.ensures octets

pub returns-clause-only : goal.returns-clause-only
returns-clause-only c octets rest messages are = only_frames c.further_octets_are_ignored.ensures messages octets rest are
