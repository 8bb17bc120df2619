-- What makes links in memory is.
use Rattle.std.specs.Prelude.{ℕ, ◌++◌, ◌∷◌, Bool, true, false, List, [], filter, flat_map, if◌then◌else◌, length, nat_lt, Option, Some, None}
use Rattle.gw_base.specs.declared.address.Addr.{Addr}
use Rattle.net_link.specs.declared.post.Post.{Post}
use Rattle.net_link.specs.declared.turns.Tally.{Tally}
use Rattle.net_link.specs.Datagrams.{Datagram, added}
use Rattle.net_link.specs.Making.{LinksState}
use Rattle.net_link.specs.Memory.{MemoryPath, datagrams_of}
use Rattle.net_link.specs.Turns.{IsListed, is_at, turns_at}

-- What links are made of: the posts to receive, the room to send of each, and the calls of each that are to fail. The
-- tallies of the addresses that were made, the links given back, at most 64, whether they are all, and the faults.
pub record MemoryNet : Type 0 where
  pub given : List Post
  pub room : ℕ
  pub fail : List ℕ
  pub tallies : List Tally
  pub links : List MemoryPath
  pub are_all : Bool
  pub faults : ℕ

-- the posts that are given for an address
abbrev pub given_for : Addr → List Post → List Post
given_for at given = filter (λ post. is_at at post.at) given

-- what the links of an address received and sent, link after link
abbrev pub received_at : Addr → List MemoryPath → List Datagram
received_at at links = flat_map (λ link. if is_at at link.address then datagrams_of link.received else []) links

abbrev pub sent_at : Addr → List MemoryPath → List Datagram
sent_at at links = flat_map (λ link. if is_at at link.address then datagrams_of link.sent else []) links

-- a list, where it is told
abbrev pub told_if : Bool → List Datagram → Option (List Datagram)
told_if true list = Some list
told_if false list = None

-- what it tells
abbrev pub told_by : MemoryNet → LinksState
told_by net = record {
  faults = net.faults;
  IsMade = λ at. IsListed at net.tallies;
  turns = λ at. turns_at at net.tallies;
  received = λ at. told_if net.are_all (received_at at net.links);
  sent = λ at. told_if net.are_all (sent_at at net.links);
}

-- what the links given back had sent, link after link
abbrev pub all_sent : List MemoryPath → List Post
all_sent links = flat_map (λ link. link.sent) links

-- no link was made yet
abbrev pub net_of : List Post → ℕ → List ℕ → MemoryNet
net_of given room fail =
    record { given = given; room = room; fail = fail; tallies = []; links = []; are_all = true; faults = 0 }

-- after a link was given back: the first 64 are kept, and one behind them isn't
abbrev pub given_back : MemoryNet → MemoryPath → List Tally → MemoryNet
given_back net link tallies =
    if nat_lt (length net.links) 64
    then record net { tallies = tallies; links = net.links ++ link ∷ []; faults = added net.faults link.faults }
    else record net { tallies = tallies; are_all = false; faults = added net.faults link.faults }
