-- What a link in memory is, and what a call on it does.
use Rattle.std.specs.Prelude.{ℕ, ◌≡◌, ◌≤◌, ◌++◌, ◌∷◌, List, [], All, map, length, take, Some}
use Rattle.gw_base.specs.Faults.{next_count}
use Rattle.gw_base.specs.declared.address.Addr.{Addr}
use Rattle.net_link.specs.declared.link.Heard.{Heard}
use Rattle.net_link.specs.declared.link.Heard.TheVariants.{Datagram, Quiet}
use Rattle.net_link.specs.declared.post.Post.{Post}
use Rattle.net_link.specs.Datagrams as told
use Rattle.net_link.specs.Datagrams.{LinkState}
use Rattle.net_link.specs.Steps.{most_octets}

-- what a post is at its own end
abbrev pub datagram_of : Post → told.Datagram
datagram_of post = record { peer = post.peer; octets = post.octets }

abbrev pub datagrams_of : List Post → List told.Datagram
datagrams_of posts = map datagram_of posts

-- no post has more octets than a datagram may have
abbrev pub AreShort : List Post → Type 0
AreShort posts = All (λ post. length post.octets ≤ most_octets) posts

-- A link in memory: what it received and has left to receive, what it sent and how much it has room to send, how many
-- calls were made, which are to fail, counted from 1, its turns and its faults.
pub record MemoryPath : Type 0 where
  pub address : Addr
  pub received : List Post
  pub left : List Post
  pub sent : List Post
  pub room : ℕ
  pub calls : ℕ
  pub fail : List ℕ
  pub turns : ℕ
  pub faults : ℕ

-- what it tells
abbrev pub told_of : MemoryPath → LinkState
told_of link = record {
  address = link.address;
  turns = link.turns;
  faults = link.faults;
  received = Some (datagrams_of link.received);
  sent = Some (datagrams_of link.sent);
}

-- a link at an address that has these posts to receive
abbrev pub path_at : Addr → List Post → ℕ → List ℕ → MemoryPath
path_at address given room fail = record {
  address = address;
  received = [];
  left = given;
  sent = [];
  room = room;
  calls = 0;
  fail = fail;
  turns = 0;
  faults = 0;
}

-- after a call that failed
abbrev pub failing : MemoryPath → MemoryPath
failing link = record link { calls = next_count link.calls; faults = next_count link.faults }

-- after a datagram was sent
abbrev pub sending : MemoryPath → Addr → List ℕ → MemoryPath
sending link to octets = record link {
  calls = next_count link.calls;
  sent = link.sent ++ record { at = link.address; peer = to; octets = octets } ∷ [];
}

-- A call that heard something, with what was left: the first post of that, or nothing where none was left.
abbrev pub Hears : List Post → MemoryPath → List ℕ → Heard → MemoryPath → Type 0
Hears [] old into heard new =
    (heard ≡ Quiet) × (new ≡ record old { calls = next_count old.calls; turns = next_count old.turns })
Hears (post ∷ left) old into heard new =
    (heard ≡ Datagram post.peer (length post.octets)) × (take (length post.octets) into ≡ post.octets)
    × (new ≡ record old {
      calls = next_count old.calls;
      turns = next_count old.turns;
      received = old.received ++ post ∷ [];
      left = left;
    })
