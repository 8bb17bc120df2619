-- One who took part, taken apart.
use Rattle.std.proofs.Common.{◌≡◌, ◌≢◌, List, [], ◌∷◌, ◌++◌, Option, None, Some, refl}
use Rattle.loop_run.proofs.Names.{HasCommitted, joined, LeavesGateway, LeavesNode, LinkedNode, LinksState, LoopBook, Looped, LoopGateway, NodeEnd, sent_by, Stop, stop_of_node, TakesBack}
use Rattle.net_link.specs.declared.link.Link as paths
use Rattle.node_run.specs.declared.linked.NodeEnd.TheVariants as end
use Rattle.session_run.specs.Links.{GivesBack, sent_with}
use Rattle.session_run.specs.declared.stop.Stop.TheVariants as stop
use Rattle.loop_run.proofs.StillLemmas.{Told, both_failed, both_first, both_only, both_second}

module _ {L : Type 0} (tells : paths.Ghosts L) where
  -- why it stops, by the end of a node, or by what it was said to stop for
  pub record StopsAs (ended : NodeEnd) (why : Option Stop) : Type 0 where
    pub stops : why ≡ None → stop_of_node ended ≡ None
    pub link : why ≡ Some stop.Link → ended ≡ end.Link
    pub no_clock : why ≢ Some stop.Clock

  pub node_leaves : (linked : LinkedNode L) (ended : NodeEnd) (old mid new : LinksState) (was now : Looped)
      (why : Option Stop) → TakesBack old (tells.state linked.first) mid → TakesBack mid (tells.state linked.second) new
      → (why ≡ None → now.nodes.items ≡ was.nodes.items ++ linked.node ∷ []) → now.books.items ≡ was.books.items
      → StopsAs ended why → LeavesNode tells linked ended old new was now why
  node_leaves linked ended old mid new was now why one two nodes books so = record {
    only = both_only old mid new _ _ one two;
    first = both_first old mid new _ _ one two;
    second = both_second old mid new _ _ one two;
    failed = both_failed old mid new _ _ one two;
    nodes = nodes;
    books = books;
    stops = so.stops;
    link = so.link;
    no_clock = so.no_clock;
  }

  pub for_memory : (ended : NodeEnd) → StopsAs ended (Some stop.NoMemory)
  for_memory ended = record { stops = λ is. cc; link = λ is. cc; no_clock = λ is. cc }

  pub at_end : (ended : NodeEnd) → StopsAs ended (stop_of_node ended)
  at_end end.Link = record { stops = λ is. cc; link = λ is. refl; no_clock = λ is. cc }
  at_end end.NoMemory = record { stops = λ is. cc; link = λ is. cc; no_clock = λ is. cc }
  at_end _ = record { stops = λ is. refl; link = λ is. cc; no_clock = λ is. cc }

  pub gateway_leaves : (g : LoopGateway L) (stops : Option Stop) (old new : LinksState) (was now : Looped)
      (why : Option Stop) → ((told : Told) (links : List L) → sent_with tells told links ≡ joined told (sent_by tells links))
      → GivesBack tells g.address old new g.links.items
      → (why ≡ None → (book : LoopBook) × HasCommitted g.book book × (now.books.items ≡ was.books.items ++ book ∷ []))
      → now.nodes.items ≡ was.nodes.items → (why ≡ None → stops ≡ None) → (why ≡ Some stop.Link → stops ≡ Some stop.Link)
      → (why ≡ Some stop.Clock → stops ≡ Some stop.Clock) → LeavesGateway tells g stops old new was now why
  gateway_leaves g stops old new was now why all_sent gave books nodes is link clock = record {
    only = record {
      on = record { made = gave.made; later = gave.later };
      others = λ a other. record {
        turns = gave.others_turns a other;
        received = gave.others_received a other;
        sent = gave.others_sent a other;
      };
    };
    received = gave.received;
    sent = rw (all_sent (old.sent g.address) g.links.items) at gave.sent;
    failed = gave.failed;
    books = books;
    nodes = nodes;
    stops_is = is;
    link = link;
    clock = clock;
  }
