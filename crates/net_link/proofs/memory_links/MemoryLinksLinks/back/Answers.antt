use Rattle.std.proofs.Common.{◌≡◌, ◌<◌, ◌≤◌, ◌-◌, ◌^◌, ◌++◌, ◌∷◌, ◌∙◌, List, [], arith, false, length, refl, subst, sym}
use Rattle.std.specs.Vec.{with_items}
use Rattle.net_link.specs.declared.turns.Tally.{Tally}
use Rattle.net_link.specs.Datagrams.{added}
use Rattle.net_link.specs.Memory.{MemoryPath}
use Rattle.net_link.specs.Net.{MemoryNet}
use Rattle.net_link.specs.Turns.{CountsMore}
use Rattle.net_link.proofs.MadeLemmas.{counted}
use Rattle.net_link.proofs.NetLemmas.{given_back_kept, given_back_left, takes_back, takes_back_untold}
use Rattle.net_link.proofs.memory_links.MemoryLinksLinks.back.Goals as goal
use Rattle.net_link.proofs.memory_links.MemoryLinksLinks.back.Goals.{After-len}

-- the links as they were, the turns as they are counted, and the faults
abbrev before : After-len → MemoryNet
before c =
    let net = c.self.inside in
    record {
      given = net.given.items;
      room = net.room;
      fail = net.fail.items;
      tallies = net.tallies.items;
      links = net.links.items;
      are_all = net.are_all;
      faults = net.faults;
    }

abbrev tallied : After-len → List Tally
tallied c = (with_items c.self.inside.tallies c.add.new.tallies).items

counts : (c : After-len) → CountsMore c.args.link.address c.args.link.turns c.self.inside.tallies.items (tallied c)
counts c =
    let raised : CountsMore c.link.inside.address c.link.inside.turns c.self.inside.tallies.items c.add.new.tallies =
    rw c.deref_mut.ensures.value at c.add.ensures in
    subst (λ (l : MemoryPath). CountsMore l.address l.turns c.self.inside.tallies.items (tallied c)) c.link.view_is
    (counted c.self.inside.tallies c.add.new.tallies c.link.inside.address c.link.inside.turns raised)

faults : (c : After-len) → c.saturating_add-self-inside.result ≡ added c.self.inside.faults c.args.link.faults
faults c = subst (λ (l : MemoryPath). c.saturating_add-self-inside.result ≡ added c.self.inside.faults l.faults) c.link.view_is
    c.saturating_add-self-inside.ensures

pub returns-then-len-ge-KEPT : goal.returns-then-len-ge-KEPT
returns-then-len-ge-KEPT c =
    let at = (goal.at.returns-then-len-ge-KEPT c).After-len in
    let old : MemoryNet = before at in
    let new : MemoryNet = record old { tallies = tallied at; are_all = false; faults = c.saturating_add-self-inside.result } in
    let fits : old.faults ≤ 2 ^ 64 - 1 = omega arith in
    let many : 64 ≤ length old.links = omega (arith, c.self.inside.links.ok.0, c.len.ensures) in
    let same : new ≡ record new { faults = added old.faults c.args.link.faults } = λ i. record new { faults = faults at i } in
    rw (← c.self.view_is)
    (record {
      takes = takes_back_untold old new c.args.link (counts at) fits (faults at) refl;
      whole = same ∙ sym (given_back_left old c.args.link (tallied at) many);
    })

pub returns : goal.returns
returns c =
    let at = (goal.at.returns c).After-len in
    let old : MemoryNet = before at in
    let new : MemoryNet = record old { tallies = tallied at; links = c.push_reserved.new.self.items; faults = c.saturating_add-self-inside.result } in
    let fits : old.faults ≤ 2 ^ 64 - 1 = omega arith in
    let few : length old.links < 64 = omega (arith, c.self.inside.links.ok.0, c.len.ensures) in
    let links = c.push_reserved.ensures.items in
    let same : new ≡ record old { tallies = tallied at; links = old.links ++ c.args.link ∷ []; faults = added old.faults c.args.link.faults } =
    λ i. record new { links = links i; faults = faults at i } in
    rw (← c.self.view_is)
    (record {
      takes = takes_back old new c.args.link (counts at) fits (faults at) links refl;
      whole = same ∙ sym (given_back_kept old c.args.link (tallied at) few);
    })
