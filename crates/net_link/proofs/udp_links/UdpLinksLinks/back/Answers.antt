use Rattle.std.proofs.Common.{◌≡◌, ◌≤◌, ◌-◌, ◌^◌, List, arith, subst}
use Rattle.std.specs.Vec.{with_items}
use Rattle.net_link.specs.declared.turns.Tally.{Tally}
use Rattle.net_link.specs.Datagrams.{LinkState, added}
use Rattle.net_link.specs.Turns.{CountsMore}
use Rattle.net_link.specs.Udp.{UdpNet}
use Rattle.net_link.proofs.MadeLemmas.{counted, takes_back}
use Rattle.net_link.proofs.udp_links.UdpLinksLinks.back.Goals as goal

pub returns : goal.returns
returns g c =
    let net = c.self.inside in
    let now : List Tally = (with_items net.tallies c.add.new.tallies).items in
    let counts : CountsMore c.link.inside.address c.link.inside.turns net.tallies.items c.add.new.tallies =
    rw c.deref_mut.ensures.value at c.add.ensures in
    let counts_here : CountsMore c.args.link.address c.args.link.turns net.tallies.items now =
    subst (λ (l : LinkState). CountsMore l.address l.turns net.tallies.items now) c.link.view_is
    (counted net.tallies c.add.new.tallies c.link.inside.address c.link.inside.turns counts) in
    let faults : c.saturating_add-self-inside.result ≡ added net.faults c.args.link.faults =
    subst (λ (l : LinkState). c.saturating_add-self-inside.result ≡ added net.faults l.faults) c.link.view_is
    c.saturating_add-self-inside.ensures in
    let fits : net.faults ≤ 2 ^ 64 - 1 = omega arith in
    let old : UdpNet = record { tallies = net.tallies.items; faults = net.faults } in
    let new : UdpNet = record { tallies = now; faults = c.saturating_add-self-inside.result } in
    rw (← c.self.view_is) (takes_back old new c.args.link counts_here fits faults)
