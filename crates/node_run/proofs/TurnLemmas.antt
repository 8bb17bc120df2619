-- What a turn does to the links of a node: it waits at one of them, and by what it heard the node sends.
use Rattle.std.proofs.Common.{◌≡◌, ℕ, suc, ◌<◌, ◌≤◌, ◌^◌, List, [], ◌∷◌, take, Option, Some, Result, Ok, sym, ap, ◌∙◌, arith}
use Rattle.gw_base.specs.Faults.{next_count}
use Rattle.gw_base.specs.declared.address.Addr.{Addr}
use Rattle.gw_base.specs.declared.fault.Failed.{Failed}
use Rattle.net_link.specs.Datagrams.{Datagram, LinkState}
use Rattle.net_link.specs.Steps.{most_octets}
use Rattle.net_link.specs.declared.link.Heard.{Heard}
use Rattle.net_link.specs.declared.link.Heard.TheVariants as heard
use Rattle.net_link.specs.declared.link.Link.{Ghosts}
use Rattle.node_core.specs.Value.{NodeValue}
use Rattle.node_core.specs.declared.port.Port.{Port}
use Rattle.node_core.specs.declared.port.Port.TheVariants.{First, Second}
use Rattle.node_run.specs.Outcomes.{turns_of}
use Rattle.node_run.specs.Running.{Turn, after_turn, counted_at, datagrams_of, only_at, sent_in_turn}
use Rattle.node_run.specs.Steps.{HasHeard, HasReceived, HasSent, HasTurned, TurnsLink, with_all}
use Rattle.node_run.specs.declared.linked.LinkedNode.{LinkedNode}
use Rattle.node_run.proofs.SendLemmas.{all_none, sends_as}

-- a count that is far from its end
next_one : (n : ℕ) → n < 2 ^ 63 → next_count n ≡ suc n
next_one n few = omega (arith, few)

-- A wait at a port did this to the link of a port: it took the turn where it is the one, and received what came.
abbrev Waits : Port → Port → List Datagram → LinkState → LinkState → Type 0
Waits port at came a b = b ≡ record a {
  turns = counted_at port at a.turns;
  received = with_all (only_at port at came) a.received;
}

-- the link that waited, which received something or nothing, and the other one
waits_on : (port : Port) (came : List Datagram) (a b : LinkState) → a.turns < 2 ^ 63
    → b ≡ record a { turns = next_count a.turns; received = with_all came a.received } → Waits port port came a b
waits_on First came a b few is = is
    ∙ ap (λ (n : ℕ). record a { turns = n; received = with_all came a.received }) (next_one a.turns few)
waits_on Second came a b few is = is
    ∙ ap (λ (n : ℕ). record a { turns = n; received = with_all came a.received }) (next_one a.turns few)

waits_apart : (a b : LinkState) → b ≡ a → b ≡ record a { received = with_all [] a.received }
waits_apart a b is = is ∙ ap (λ (o : Option (List Datagram)). record a { received = o }) (all_none a.received)

-- what a wait and then a sending do to a link
turns_link : (packets : ℕ) (node : NodeValue) (turn : Turn) (at port : Port) (a b c : LinkState)
    → Waits port at (datagrams_of turn) a b → HasSent (sent_in_turn packets port at turn node) b c
    → TurnsLink packets node turn at port a c
turns_link packets node turn at port a b c waits sends = record {
  turns = ap (λ (s : LinkState). s.turns) sends ∙ ap (λ (s : LinkState). s.turns) waits;
  received = ap (λ (s : LinkState). s.received) sends ∙ ap (λ (s : LinkState). s.received) waits;
  sent = ap (λ (s : LinkState). s.sent) sends
      ∙ ap (λ (s : LinkState). with_all (sent_in_turn packets port at turn node) s.sent) waits;
  address = ap (λ (s : LinkState). s.address) sends ∙ ap (λ (s : LinkState). s.address) waits;
}

module _ {L : Type 0} (tells : Ghosts L) where
  -- a datagram that came is short
  pub short_heard : (at : Port) (into : List ℕ) (result : Result Heard Failed) (a b : LinkedNode L)
      → HasReceived tells at into result a b → (from : Addr) (n : ℕ) → result ≡ Ok (heard.Datagram from n)
      → n ≤ most_octets
  short_heard First into result a b got from n is = (got.0.datagram from n is).0
  short_heard Second into result a b got from n is = (got.0.datagram from n is).0

  -- what waiting at a port did to both links, by what came
  pub record HaveWaited (at : Port) (came : List Datagram) (a b : LinkedNode L) : Type 0 where
    pub first : Waits First at came (tells.state a.first) (tells.state b.first)
    pub second : Waits Second at came (tells.state a.second) (tells.state b.second)

  pub waits_datagram : (at : Port) (into : List ℕ) (result : Result Heard Failed) (a b : LinkedNode L)
      → turns_of tells a < 2 ^ 63 → HasReceived tells at into result a b → (from : Addr) (n : ℕ)
      → result ≡ Ok (heard.Datagram from n)
      → HaveWaited at (record { peer = from; octets = take n into } ∷ []) a b
  waits_datagram First into result a b few got from n is = record {
    first = waits_on First (record { peer = from; octets = take n into } ∷ []) (tells.state a.first)
        (tells.state b.first) (omega (arith, few)) (got.0.datagram from n is).1;
    second = waits_apart (tells.state a.second) (tells.state b.second) got.1;
  }
  waits_datagram Second into result a b few got from n is = record {
    first = waits_apart (tells.state a.first) (tells.state b.first) got.1;
    second = waits_on Second (record { peer = from; octets = take n into } ∷ []) (tells.state a.second)
        (tells.state b.second) (omega (arith, few)) (got.0.datagram from n is).1;
  }

  -- A turn in which a datagram came: the node is the same while it waits.
  pub turned_heard : (packets : ℕ) (at : Port) (d : Datagram) (a b c : LinkedNode L) → b.node ≡ a.node
      → HaveWaited at (d ∷ []) a b → HasHeard tells at d b c → HasTurned tells packets at (Some d) a c
  turned_heard packets at d a b c same waited heard = record {
    node_is = heard.node_is ∙ ap (λ (n : NodeValue). after_turn packets at (Some d) n) same;
    by_first = turns_link packets a.node (Some d) at First (tells.state a.first) (tells.state b.first)
        (tells.state c.first) waited.first
        (sends_as _ _ (tells.state b.first) (tells.state c.first)
        (ap (λ (n : NodeValue). sent_in_turn packets First at (Some d) n) (sym same)) heard.sent.by_first);
    by_second = turns_link packets a.node (Some d) at Second (tells.state a.second) (tells.state b.second)
        (tells.state c.second) waited.second
        (sends_as _ _ (tells.state b.second) (tells.state c.second)
        (ap (λ (n : NodeValue). sent_in_turn packets Second at (Some d) n) (sym same)) heard.sent.by_second);
  }
