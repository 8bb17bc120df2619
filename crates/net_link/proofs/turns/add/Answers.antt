use Rattle.net_link.specs.declared.turns.Tally.{Tally}
use Rattle.net_link.proofs.TurnLemmas.{counts_more}
use Rattle.net_link.proofs.turns.add.Goals as goal

pub returns : goal.returns
returns c =
    let none : Tally = record { at = record { ip = 0; port = 0 }; turns = 0 } in
    let place = c.find-place in
    rw c.raised.ensures
    (counts_more c.args.tallies.now place.result none c.args.turns place.ensures.within c.args.at
    (place.ensures.at none))
