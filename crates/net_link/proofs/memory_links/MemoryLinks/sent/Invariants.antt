use Rattle.std.proofs.Common.{◌≡◌, drop}
use Rattle.std.specs.List.{slice_get}
use Rattle.net_link.specs.Net.{all_sent}
use Rattle.net_link.proofs.memory_links.MemoryLinks.sent.Given as goal

-- the datagram that is asked for stands as far behind in the rest of the links
abbrev pub invariant-loop-link : goal.invariant-loop-link
invariant-loop-link l =
    slice_get (all_sent (drop l.link-index l.link-items)) l.left ≡ slice_get (all_sent l.link-items) l.fn.k
