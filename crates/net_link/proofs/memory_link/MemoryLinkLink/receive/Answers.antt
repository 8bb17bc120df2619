use Rattle.std.proofs.Common.{◌≤◌, length}
use Rattle.std.proofs.lemmas.List.Elements.{All-drop}
use Rattle.net_link.specs.declared.post.Post.{Post}
use Rattle.net_link.specs.Memory.{AreShort}
use Rattle.net_link.specs.Steps.{most_octets}
use Rattle.net_link.proofs.PathLemmas.{hears_is_received}
use Rattle.net_link.proofs.memory_link.MemoryLinkLink.receive.Goals as goal

pub returns-clause-receives : goal.returns-clause-receives
returns-clause-receives c =
    let link = c.self.inside in
    let left : AreShort c.args.self.now.left =
    rw (← c.self.view_is)
    (All-drop (λ (post : Post). length post.octets ≤ most_octets) link.next link.given.items c.self.invariant.1) in
    hears_is_received c.args.self.now.left c.args.self.now c.take.new.self c.take.new.into c.take.result left
    c.take.ensures
