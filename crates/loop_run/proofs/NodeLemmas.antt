-- A node that ran, once its links are given back.
use Rattle.std.proofs.Common.{◌≡◌, ◌∙◌, ℕ, suc, ◌+◌, ◌<◌, ◌≤◌, ◌^◌, List, [], ◌∷◌, length, Some, refl, ap, arith}
use Rattle.loop_run.proofs.Names.{added, Addr, Carried, CarriedAt, counted_at, Datagram, First, GrewAt, GrowsBy, HasRun, IfSome, IsLoop, IsLoopNode, joined, LinkedNode, LinksState, LinkState, LoopSetup, node_at, node_made, Port, Second, StillAt, Turn, turns_at, turns_of, turns_of_links}
use Rattle.net_link.specs.declared.link.Link as paths
use Rattle.loop_run.proofs.StillLemmas.{Told, still_holds}

-- Turns.

one_more : (at : Port) (a b : ℕ) {n : _} → a + b ≡ n → counted_at First at a + counted_at Second at b ≡ suc n
one_more First a b e = omega arith
one_more Second a b e = omega arith

-- each turn is at one of the ports
pub all_turns : (turns : List Turn) → turns_at First turns + turns_at Second turns ≡ length turns
all_turns [] = refl
all_turns (turn ∷ turns) = one_more _ _ _ (all_turns turns)

-- One port.

-- a list that a link tells is the one that it is to be
told_is : (told new : Told) (list all : List Datagram) → IfSome told (λ l. l ≡ list) → (old : Told)
    → joined old told ≡ Some all → joined old (Some list) ≡ Some all
told_is told new list all is old e = grind arith

grows_as : (old told new : Told) (list : List Datagram) → IfSome told (λ l. l ≡ list)
    → GrowsBy old told new → GrowsBy old (Some list) new
grows_as old told new list is grew = grind (arith, told_is)

pub carried_there : (setup : LoopSetup) {old new : LinksState} (place : ℕ) {turns : List Turn} {port : Port}
    {link : LinkState} → old.turns (node_at place port) < 2 ^ 63 → turns_at port turns ≤ 10000000
    → Carried setup.packets (node_made setup place) turns port link → GrewAt (node_at place port) link old new
    → CarriedAt setup old new place turns port
carried_there setup {old} place {turns} {port} few short carried grew = record {
  turns_are =
      let all = carried.turns_are in
      grew.turns ∙ ap (added (old.turns (node_at place port))) carried.turns_are
      ∙ within (old.turns (node_at place port)) (turns_at port turns) few short;
  received = grows_as _ _ _ _ carried.received grew.received;
  sent = grows_as _ _ _ _ carried.sent grew.sent;
}
  where
    within : (n m : ℕ) → n < 2 ^ 63 → m ≤ 10000000 → added n m ≡ n + m
    within n m low less = omega arith

pub carried_still : {setup old mid new place turns port : _} → CarriedAt setup old mid place turns port
    → StillAt (node_at place port) mid new → CarriedAt setup old new place turns port
carried_still carried still = record {
  turns_are = still.turns ∙ carried.turns_are;
  received = still_holds _ _ _ still.received carried.received;
  sent = still_holds _ _ _ still.sent carried.sent;
}

-- The node.

pub node_still : {setup old mid new place node : _} → ((port : Port) → StillAt (node_at place port) mid new)
    → IsLoopNode setup old mid place node → IsLoopNode setup old new place node
node_still still was = record {
  turns = was.turns;
  node_is = was.node_is;
  most = was.most;
  had_more = was.had_more;
  by_first = carried_still was.by_first (still First);
  by_second = carried_still was.by_second (still Second);
}

module _ {L : Type 0} (tells : paths.Ghosts L) (setup : LoopSetup) (within : IsLoop setup) (place : ℕ)
    (linked : LinkedNode L) (ran : (turns : List Turn) × HasRun tells setup.packets (node_made setup place) turns linked)
    (few_turns : turns_of_links tells linked ≤ setup.turns) where
  taken_all : turns_at First ran.0 + turns_at Second ran.0 ≡ turns_of_links tells linked
  taken_all = cc (ran.1.by_first.turns_are, ran.1.by_second.turns_are)

  module _ (old new : LinksState) (few : (at : Addr) → old.turns at < 2 ^ 63)
      (first : GrewAt (node_at place First) (tells.state linked.first) old new)
      (second : GrewAt (node_at place Second) (tells.state linked.second) old new) where
    short_first : turns_at First ran.0 ≤ 10000000
    short_first = omega (arith, taken_all, within.most_turns)

    short_second : turns_at Second ran.0 ≤ 10000000
    short_second = omega (arith, taken_all, within.most_turns)

    pub ran_node : IsLoopNode setup old new place linked.node
    ran_node = record {
      turns = ran.0;
      node_is = ran.1.node_is;
      most = omega (arith, (all_turns ran.0), taken_all);
      had_more = ran.1.had_more;
      by_first = carried_there _ _ (few (node_at place First)) short_first ran.1.by_first first;
      by_second = carried_there _ _ (few (node_at place Second)) short_second ran.1.by_second second;
    }

    -- where the links took all turns, so many more are told of its addresses
    pub ran_turns : turns_of_links tells linked ≡ setup.turns → turns_of new place ≡ turns_of old place + setup.turns
    ran_turns exact = omega (arith, ran_node.by_first.turns_are, ran_node.by_second.turns_are, taken_all)
