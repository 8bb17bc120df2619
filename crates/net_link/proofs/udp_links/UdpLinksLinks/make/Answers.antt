use Rattle.std.proofs.Common.{◌∙◌, None, sym}
use Rattle.gw_base.specs.declared.address.Addr.{Addr}
use Rattle.net_link.proofs.MadeLemmas.{fresh, makes, pushed_whole}
use Rattle.net_link.proofs.udp_links.UdpLinksLinks.make.Goals as goal

pub returns-clause-made : goal.returns-clause-made
returns-clause-made g c =
    let tallies = c.self.inside.tallies.items in
    let now = c.push.new.self.items in
    rw (← c.self.view_is)
    (makes _ tallies now c.self.inside.faults (λ (at : Addr). None) (λ (at : Addr). None) c.args.at c.at.result
    (pushed_whole c.push.result tallies now (fresh c.args.at) (sym c.is_err.ensures.value ∙ c.if-is_err.false)
    c.push.ensures.items))
