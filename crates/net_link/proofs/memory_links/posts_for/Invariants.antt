use Rattle.std.proofs.Common.{◌≡◌, take}
use Rattle.net_link.specs.Memory.{AreShort}
use Rattle.net_link.specs.Net.{given_for}
use Rattle.net_link.proofs.memory_links.posts_for.Given as goal

-- the posts for the address, of those so far
abbrev pub invariant-loop-post : goal.invariant-loop-post
invariant-loop-post l = (l.posts.items ≡ given_for l.at (take l.post-index l.given)) × AreShort l.posts.items
