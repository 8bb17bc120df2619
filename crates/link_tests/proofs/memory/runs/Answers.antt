use Rattle.std.proofs.Common.{◌≡◌, ◌∙◌, ap, refl, subst, sym}
use Rattle.gw_base.specs.declared.address.Addr.{Addr}
use Rattle.net_link.specs.Datagrams.{LinkState}
use Rattle.net_link.specs.Turns.{IsListed}
use Rattle.link_tests.proofs.memory.runs.Goals as goal

pub back-requires-2 : goal.back-requires-2
back-requires-2 c =
    let here : Addr = record { ip = 167772161; port = 3386 } in
    let made : IsListed here c.make.new.self.tallies = (c.in-Ok.ensures.made.made c.in-Ok.link refl).0 in
    let at : c.used-went.new.link.address ≡ here =
    c.used-went.ensures.link ∙ ap (λ (l : LinkState). l.address) c.in-Ok-split.ensures.ok ∙ c.in-Ok.ensures.new.at in
    subst (λ (a : Addr). IsListed a c.back.new.self.tallies) (sym at) (c.back.ensures.takes.made here made)
