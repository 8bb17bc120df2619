-- How a run goes on by a turn, and how it begins and ends.
use Rattle.std.proofs.Common.{◌≡◌, ℕ, suc, ◌+◌, ◌≤◌, IsFalse, List, [], ◌∷◌, ◌++◌, Option, None, Some, IfSome, refl, sym, ap, subst, ◌∙◌, arith}
use Rattle.net_link.specs.Datagrams.{Datagram, IsNewAt, LinkState}
use Rattle.net_link.specs.declared.link.Link.{Ghosts}
use Rattle.net_link.specs.declared.link.LinkStop.{LinkStop}
use Rattle.net_link.specs.declared.link.LinkStop.TheVariants as stop
use Rattle.node_core.specs.Value.{NodeValue}
use Rattle.node_core.specs.declared.port.Port.{Port}
use Rattle.node_core.specs.declared.port.Port.TheVariants.{First, Second}
use Rattle.node_run.specs.Outcomes.{AreNewLinks, Carried, EndsSo, HasFailed, turns_of}
use Rattle.node_run.specs.Packets.{filled}
use Rattle.node_run.specs.Running.{Turn, after_turn, all_done, counted_at, datagrams_of, heard_at, node_after, only_at, other_port, port_after, sent_by_tick, sent_from, sent_in_turn}
use Rattle.node_run.specs.Steps.{HasSent, HasTicked, HasTurned, RunsOn, TurnsEnd, TurnsLink, end_by, with_all}
use Rattle.node_run.specs.declared.linked.LinkedNode.{LinkedNode}
use Rattle.node_run.specs.declared.linked.NodeEnd.{NodeEnd}
use Rattle.node_run.specs.declared.linked.NodeEnd.TheVariants as end
use Rattle.node_run.specs.declared.linked.Work.{Work}
use Rattle.node_run.specs.declared.running.NodeRun.{NodeRun}

abbrev Told : Type 0
Told = Option (List Datagram)

-- a list that is told has grown by some more
told_on : (old new : Told) (base more : List Datagram) → new ≡ with_all more old
    → IfSome old (λ list. list ≡ base) → IfSome new (λ list. list ≡ base ++ more)
told_on None new base more is had =
    subst (λ (o : Told). IfSome o (λ list. list ≡ base ++ more)) (sym is) tt
told_on (Some list) new base more is had =
    subst (λ (o : Told). IfSome o (λ list. list ≡ base ++ more)) (sym is) (ap (λ (l : List Datagram). l ++ more) had)

-- One link, by a turn after others.
carries_on : (packets : ℕ) (first node : NodeValue) (turns : List Turn) (turn : Turn) (port : Port) (a b : LinkState)
    → node ≡ node_after packets first turns → Carried packets first turns port a
    → TurnsLink packets node turn (port_after turns) port a b → Carried packets first (turn ∷ turns) port b
carries_on packets first node turns turn port a b is was now = record {
  turns_are = now.turns ∙ ap (λ (n : ℕ). counted_at port (port_after turns) n) was.turns_are;
  received = told_on a.received b.received (heard_at port turns) (only_at port (port_after turns) (datagrams_of turn))
      now.received was.received;
  sent = told_on a.sent b.sent (sent_from packets first port turns)
      (sent_in_turn packets port (port_after turns) turn (node_after packets first turns))
      (now.sent ∙ ap (λ (n : NodeValue). with_all (sent_in_turn packets port (port_after turns) turn n) a.sent) is)
      was.sent;
}

-- One link, by the first tick.
carries_first : (packets : ℕ) (first : NodeValue) (port : Port) (a b : LinkState) → IsNewAt a.address a
    → HasSent (sent_by_tick port (filled packets first)) a b → Carried packets first [] port b
carries_first packets first port a b new sent = record {
  turns_are = ap (λ (s : LinkState). s.turns) sent ∙ new.turns;
  received = subst (λ (o : Told). IfSome o (λ list. list ≡ [])) (sym (ap (λ (s : LinkState). s.received) sent))
      new.received;
  sent = told_on a.sent b.sent [] (sent_by_tick port (filled packets first)) (ap (λ (s : LinkState). s.sent) sent)
      new.sent;
}

-- both counts of a turn are one more together
counts_once : (at : Port) (n m : ℕ) → counted_at First at n + counted_at Second at m ≡ suc (n + m)
counts_once First n m = omega arith
counts_once Second n m = omega arith

module _ {L : Type 0} (tells : Ghosts L) where
  pub turned_once : (packets : ℕ) (at : Port) (turn : Turn) (a b : LinkedNode L) → HasTurned tells packets at turn a b
      → turns_of tells b ≡ suc (turns_of tells a)
  turned_once packets at turn a b turned =
      ap (λ (n : ℕ). n + (tells.state b.second).turns) turned.by_first.turns
      ∙ ap (λ (n : ℕ). counted_at First at (tells.state a.first).turns + n) turned.by_second.turns
      ∙ counts_once at (tells.state a.first).turns (tells.state a.second).turns

  -- the run goes on by a turn, which it took because a packet wasn't done
  pub runs_on : (packets : ℕ) (first : NodeValue) (n : ℕ) (turn : Turn) (a b : NodeRun L)
      → RunsOn tells packets first n a
      → HasTurned tells packets a.port turn a.linked b.linked → IsFalse (all_done packets a.linked.node)
      → b.port ≡ other_port a.port → a.left ≡ suc b.left → RunsOn tells packets first n b
  runs_on packets first n turn a b was turned more port left = record {
    turns = turn ∷ was.turns;
    has_run = record {
      node_is = turned.node_is ∙ ap (λ (p : Port). after_turn packets p turn a.linked.node) was.port_is
          ∙ ap (λ (x : NodeValue). after_turn packets (port_after was.turns) turn x) was.has_run.node_is;
      by_first = carries_on packets first a.linked.node was.turns turn First (tells.state a.linked.first)
          (tells.state b.linked.first) was.has_run.node_is was.has_run.by_first
          (subst (λ (p : Port). TurnsLink packets a.linked.node turn p First (tells.state a.linked.first)
          (tells.state b.linked.first)) was.port_is turned.by_first);
      by_second = carries_on packets first a.linked.node was.turns turn Second (tells.state a.linked.second)
          (tells.state b.linked.second) was.has_run.node_is was.has_run.by_second
          (subst (λ (p : Port). TurnsLink packets a.linked.node turn p Second (tells.state a.linked.second)
          (tells.state b.linked.second)) was.port_is turned.by_second);
      had_more = (ap (λ (x : NodeValue). all_done packets x) (sym was.has_run.node_is) ∙ more, was.has_run.had_more);
    };
    port_is = port ∙ ap (λ (p : Port). other_port p) was.port_is;
    left_are =
        let once = turned_once packets a.port turn a.linked b.linked turned in
        let all = was.left_are in omega (arith, once, all, left);
  }

  -- a run begins by a tick over new links
  pub runs_first : (packets n : ℕ) (old : LinkedNode L) (new : NodeRun L) → AreNewLinks tells old
      → HasTicked tells packets old new.linked → new.port ≡ First → new.left ≡ n → RunsOn tells packets old.node n new
  runs_first packets n old new are went port left = record {
    turns = [];
    has_run = record {
      node_is = went.node_is;
      by_first = carries_first packets old.node First (tells.state old.first) (tells.state new.linked.first) are.first
          went.sent.by_first;
      by_second = carries_first packets old.node Second (tells.state old.second) (tells.state new.linked.second)
          are.second went.sent.by_second;
      had_more = tt;
    };
    port_is = port;
    left_are = let none = none_taken old new.linked are went in omega (arith, none, left);
  }
    where
      none_taken : (old new : LinkedNode L) → AreNewLinks tells old → HasTicked tells packets old new
          → turns_of tells new ≡ 0
      none_taken old new are went =
          let one = ap (λ (s : LinkState). s.turns) went.sent.by_first ∙ are.first.turns in
          let two = ap (λ (s : LinkState). s.turns) went.sent.by_second ∙ are.second.turns in omega (arith, one, two)

  -- how a run ends whose link stopped
  pub stops_by : (work : Work) (first : NodeValue) (linked : LinkedNode L) (why : LinkStop)
      → (why ≡ stop.Failed → HasFailed tells linked) → EndsSo tells work first linked (end_by why)
  stops_by work first linked stop.Failed failed = failed refl
  stops_by work first linked stop.NoMemory failed = tt

  -- what comes of all turns is what comes of the run
  pub ends_so : (work : Work) (first : NodeValue) (run : NodeRun L) (how : NodeEnd)
      → TurnsEnd tells work.packets first work.turns run how → EndsSo tells work first run.linked how
  ends_so work first run end.Done (runs, done) = ((runs.turns, runs.has_run), done, within)
    where
      within : turns_of tells run.linked ≤ work.turns
      within = let all = runs.left_are in omega (arith, all)
  ends_so work first run end.Spent (runs, more, none) = ((runs.turns, runs.has_run), more, taken)
    where
      taken : turns_of tells run.linked ≡ work.turns
      taken = let all = runs.left_are in omega (arith, all, none)
  ends_so work first run end.Link failed = failed
  ends_so work first run end.NoMemory ends = tt
