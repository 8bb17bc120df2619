use Rattle.world_script.proofs.ArityLemmas.{in_more}
use Rattle.world_script.proofs.saying.datagram.Goals as goal

pub returns : goal.returns
returns c =
    in_more c.args.words.now c.in-Some.words.now c.in-Some.from.now c.datagram_from.result c.in-Some.ensures.cases.0 c.if-is_empty.ensures c.datagram_from.ensures
