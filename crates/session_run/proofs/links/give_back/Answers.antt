use Rattle.std.proofs.Common.{sym, ◌∙◌}
use Rattle.std.proofs.lemmas.List.{nil_from_length}
use Rattle.session_run.proofs.LinksLemmas.{gave_all, given_none, given_one, may_give}
use Rattle.session_run.proofs.links.give_back.Goals as goal

pub back-requires : goal.back-requires
back-requires g c = may_give _ _ _ _ _ _ _ _ c.loop-link.invariant c.in-Some.ensures.items c.requires.made

pub loop-link-init : goal.loop-link-init
loop-link-init g c = given_none _ _ _ _ c.requires.known

pub loop-link-preserved : goal.loop-link-preserved
loop-link-preserved g c = given_one _ _ _ _ _ _ _ _ _ c.loop-link.invariant c.in-Some.ensures.items c.requires.made c.back.ensures

pub returns : goal.returns
returns g c = gave_all _ _ _ _ _ _ (nil_from_length _ (sym c.loop-link.made.ok.0 ∙ c.in_default.ensures.cases.0)) c.loop-link.invariant
