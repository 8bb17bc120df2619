use Rattle.session_run.proofs.LinksLemmas.{five_new, made_all}
use Rattle.session_run.proofs.links.make_links.Goals as goal

pub returns-clause-made : goal.returns-clause-made
returns-clause-made g c =
    made_all _ _ _ _ _ _ _ _ _ c.in-Ok-make.ensures.new c.in-Ok-make.ensures.made c.split_all-stop.ensures.new c.split_all-stop.ensures.last c.split_all-stop.ensures.cause
    c.split_all-stop.ensures.clock c.push_reserved.ensures.items

pub returns-clause-five : goal.returns-clause-five
returns-clause-five g c none =
    five_new _ _ _ _ _ _ _ c.in-Ok-make.ensures.new c.split_all-stop.ensures.new c.split_all-stop.ensures.four c.push_reserved.ensures.items none
