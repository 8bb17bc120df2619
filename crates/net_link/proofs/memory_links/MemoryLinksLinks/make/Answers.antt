use Rattle.std.proofs.Common.{◌∙◌, sym}
use Rattle.gw_base.specs.declared.address.Addr.{Addr}
use Rattle.net_link.specs.Net.{received_at, sent_at, told_if}
use Rattle.net_link.proofs.MadeLemmas.{fresh, makes, pushed_whole}
use Rattle.net_link.proofs.memory_links.MemoryLinksLinks.make.Goals as goal

pub returns-clause-made : goal.returns-clause-made
returns-clause-made c =
    let tallies = c.self.inside.tallies.items in
    let now = c.push.new.self.items in
    let all = c.self.inside.are_all in
    let links = c.self.inside.links.items in
    rw (← c.self.view_is)
    (makes _ tallies now c.self.inside.faults (λ (at : Addr). told_if all (received_at at links))
    (λ (at : Addr). told_if all (sent_at at links)) c.args.at c.in_ok-link.link
    (pushed_whole c.push.result tallies now (fresh c.args.at) (sym c.is_err.ensures.value ∙ c.if-is_err.false)
    c.push.ensures.items))
