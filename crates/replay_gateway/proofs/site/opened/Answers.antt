use Rattle.replay_gateway.proofs.Names.{begun_gateway, first_machine}
use Rattle.replay_gateway.proofs.OpeningLemmas.{firm_stands}
use Rattle.replay_gateway.proofs.site.opened.Goals as goal

pub returns : goal.returns
returns c = λ s place named sized.
    firm_stands s _ _
    (c.commit.ensures s place (begun_gateway s) first_machine (c.in_ok-book.ensures s place named sized))
