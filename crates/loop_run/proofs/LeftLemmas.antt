-- Those who took part, once they were taken apart one after the other.
use Rattle.std.proofs.Common.{◌≡◌, ◌≢◌, ◌⊎◌, ⊎_elim, ◌∙◌, ℕ, suc, ◌+◌, ◌-◌, ◌<◌, ◌≤◌, ◌^◌, min, IsTrue, List, [], ◌∷◌, ◌++◌, length, Option, None, Some, refl, sym, ap, subst, arith}
use Rattle.loop_run.proofs.Names.{Addr, all_done, BookValue, Collected, EndsSo, First, first_at, gateway_at, GrewAt, HasCollected, HasRun, HasRunAt, HasServedAt, IsLoop, IsLoopBook, IsLoopNode, KeepsAll, LeavesGateway, LeavesNode, LinkedNode, LinksState, LoopBook, Looped, LoopGateway, LoopSetup, node_after, node_at, node_made, NodeEnd, NodeValue, open_numbers, Port, Second, second_at, slice_get, slice_get_within, standing_for, StillAt, Stop, stop_of_node, Turn, turns_of, value_of, work_of}
use Rattle.net_link.specs.declared.link.Link as paths
use Rattle.node_run.specs.declared.linked.NodeEnd.TheVariants as end
use Rattle.loop_run.proofs.AddressLemmas.{gateway_no_node, gateways_apart, nodes_apart, ports_apart}
use Rattle.loop_run.proofs.GatewayLemmas.{ReplyLater, StaysInTurn, book_still, served_book}
use Rattle.loop_run.proofs.ListLemmas.{all_by_place, get_pushed, length_pushed, none_get}
use Rattle.loop_run.proofs.NodeLemmas.{node_still, ran_node, ran_turns}
use Rattle.loop_run.proofs.StillLemmas.{still_grew, still_same, still_then}

-- A node that was taken apart.
pub record IsLeftNode (setup : LoopSetup) (old now : LinksState) (place : ℕ) (node : NodeValue) : Type 0 where
  pub is : IsLoopNode setup old now place node
  pub kept : KeepsAll node
  pub taken : 0 < length (open_numbers setup.packets node) → turns_of now place ≡ turns_of old place + setup.turns

-- A book that was.
pub record IsLeftBook (old now : LinksState) (place : ℕ) (book : LoopBook) : Type 0 where
  pub is : IsLoopBook old now place book
  pub firm : value_of book ≡ standing_for (value_of book).firm

-- So many were taken apart, the nodes first. Of the addresses of the others no more is told.
pub record HaveLeft (setup : LoopSetup) (old now : LinksState) (count : ℕ) (looped : Looped) : Type 0 where
  pub node_count : length looped.nodes.items ≡ min count setup.nodes
  pub book_count : length looped.books.items ≡ count - setup.nodes
  pub each_node : (place : ℕ) (node : NodeValue) → slice_get looped.nodes.items place ≡ Some node
      → IsLeftNode setup old now place node
  pub each_book : (place : ℕ) (book : LoopBook) → slice_get looped.books.items place ≡ Some book
      → IsLeftBook old now place book
  pub still : (place : ℕ) (port : Port) → count ≤ place → place < setup.nodes → StillAt (node_at place port) old now
  pub still_books : (place : ℕ) → count - setup.nodes ≤ place → StillAt (gateway_at place) old now

pub none_left : (setup : LoopSetup) (old : LinksState) (looped : Looped) → looped.books.items ≡ []
    → looped.nodes.items ≡ [] → HaveLeft setup old old 0 looped
none_left setup old looped books nodes = record {
  node_count = let none = ap (λ (l : List NodeValue). length l) nodes in omega (arith, none);
  book_count = let none = ap (λ (l : List LoopBook). length l) books in omega (arith, none);
  each_node = λ place node at. absurd (none_get place {x = node}
      (subst (λ (l : List NodeValue). slice_get l place ≡ Some node) nodes at));
  each_book = λ place book at. absurd (none_get place {x = book}
      (subst (λ (l : List LoopBook). slice_get l place ≡ Some book) books at));
  still = λ place port le less. still_same (node_at place port) old;
  still_books = λ place le. still_same (gateway_at place) old;
}

-- a node that was taken apart is so still
left_node_still : {setup old mid : _} (new : LinksState) {place node : _}
    → ((port : Port) → StillAt (node_at place port) mid new) → IsLeftNode setup old mid place node
    → IsLeftNode setup old new place node
left_node_still new still was = record {
  is = node_still still was.is;
  kept = was.kept;
  taken = λ some.
      let one = (still First).turns in
      let other = (still Second).turns in
      omega (arith, (was.taken some));
}

left_book_still : {old mid new place book : _} → StillAt (gateway_at place) mid new
    → IsLeftBook old mid place book → IsLeftBook old new place book
left_book_still still was = record { is = book_still still was.is; firm = was.firm }

-- what the laws of nodes say of those of the loop
abbrev pub KeepAll : LoopSetup → Type 0
KeepAll setup = (place : ℕ) (turns : List Turn) → KeepsAll (node_after setup.packets (node_made setup place) turns)

abbrev pub NoneOpen : LoopSetup → Type 0
NoneOpen setup = (place : ℕ) (turns : List Turn)
    → IsTrue (all_done setup.packets (node_after setup.packets (node_made setup place) turns))
    → open_numbers setup.packets (node_after setup.packets (node_made setup place) turns) ≡ []

module _ {L : Type 0} (tells : paths.Ghosts L) (setup : LoopSetup) (within : IsLoop setup) (old mid new : LinksState)
    (few : (at : Addr) → old.turns at < 2 ^ 63) (was now : Looped) (place : ℕ)
    (had : HaveLeft setup old mid place was) where
  -- One more node.
  module _ (keep : KeepAll setup) (none : NoneOpen setup) (linked : LinkedNode L) (ended : NodeEnd)
      (less : place < setup.nodes) (ran : HasRunAt tells setup place ended linked)
      (left : LeavesNode tells linked ended mid new was now None) where
    elsewhere : (at : Addr) → at ≢ node_at place First → at ≢ node_at place Second → StillAt at mid new
    elsewhere at one other = left.only.others at
        (λ (e : (at ≡ first_at tells linked) ⊎ (at ≡ second_at tells linked)). ⊎_elim
        (λ (f : at ≡ first_at tells linked). one (f ∙ ran.first))
        (λ (s : at ≡ second_at tells linked). other (s ∙ ran.second)) e)

    apart : first_at tells linked ≢ second_at tells linked
    apart e = ports_apart place place (sym ran.first ∙ e ∙ ran.second)

    grew_first : GrewAt (node_at place First) (tells.state linked.first) old new
    grew_first = still_grew {at = node_at place First} {link = tells.state linked.first} {a = old} {b = mid} {c = new}
        (had.still place First (omega arith) less)
        (subst (λ (a : Addr). GrewAt a (tells.state linked.first) mid new) ran.first (left.first apart))

    grew_second : GrewAt (node_at place Second) (tells.state linked.second) old new
    grew_second =
        still_grew {at = node_at place Second} {link = tells.state linked.second} {a = old} {b = mid} {c = new}
        (had.still place Second (omega arith) less)
        (subst (λ (a : Addr). GrewAt a (tells.state linked.second) mid new) ran.second (left.second apart))

    kept_of : {turns : _} → HasRun tells setup.packets (node_made setup place) turns linked → KeepsAll linked.node
    kept_of {turns} run = rw run.node_is (keep place turns)

    by_end : (how : NodeEnd) → EndsSo tells (work_of setup) (node_made setup place) linked how
        → stop_of_node how ≡ None → IsLeftNode setup old new place linked.node
    by_end end.Done (run, done, most) is = record {
      is = ran_node _ _ within _ _ run most old new few grew_first grew_second;
      kept = kept_of run.1;
      taken = λ some.
          let no = rw (← run.1.node_is) at (none place run.0 (rw run.1.node_is at done)) in
          absurd (omega (arith, (ap length no)));
    }
    by_end end.Spent (run, more, exact) is = record {
      is = ran_node _ _ within _ _ run (omega arith) old new few grew_first grew_second;
      kept = kept_of run.1;
      taken = λ some. ran_turns _ _ within _ _ run (omega arith) old new few grew_first grew_second exact;
    }
    by_end end.Link failed is = cc
    by_end end.NoMemory failed is = cc

    left_now : IsLeftNode setup old new place linked.node
    left_now = by_end _ ran.ends (left.stops refl)

    here : length was.nodes.items ≡ place
    here = omega (arith, had.node_count)

    pub node_left : HaveLeft setup old new (suc place) now
    node_left = record {
      node_count = omega (arith, (ap length (left.nodes refl)), (length_pushed was.nodes.items linked.node), here);
      book_count = omega (arith, (ap length left.books), had.book_count);
      each_node = λ p node at. ⊎_elim (λ (before : slice_get was.nodes.items p ≡ Some node).
          let inside = slice_get_within was.nodes.items p node before in
          let at_place = here in
          left_node_still new
          (λ (port : Port). elsewhere _ (nodes_apart p place port First (λ (e : p ≡ place). omega arith))
          (nodes_apart p place port Second (λ (e : p ≡ place). omega arith))) (had.each_node p node before))
          (λ (last : (p ≡ length was.nodes.items) × (node ≡ linked.node)). rw (last.0 ∙ here) (rw last.1 left_now))
          (get_pushed _ _ p (rw (left.nodes refl) at at));
      each_book = λ p book at. left_book_still
          (elsewhere (gateway_at p) (gateway_no_node p place First) (gateway_no_node p place Second))
          (had.each_book p book (rw left.books at at));
      still = λ p port le inside. still_then (had.still p port (omega arith) inside)
          (elsewhere (node_at p port) (nodes_apart p place port First (λ (e : p ≡ place). omega arith))
          (nodes_apart p place port Second (λ (e : p ≡ place). omega arith)));
      still_books = λ p le. still_then (had.still_books p (omega arith))
          (elsewhere (gateway_at p) (gateway_no_node p place First) (gateway_no_node p place Second));
    }

  -- One more gateway.
  module _ (stay : StaysInTurn) (reply : ReplyLater) (g : LoopGateway L) (stops : Option Stop) (behind : setup.nodes ≤ place)
      (served : HasServedAt tells (place - setup.nodes) stops g)
      (left : LeavesGateway tells g stops mid new was now None) where
    besides : (at : Addr) → at ≢ gateway_at (place - setup.nodes) → StillAt at mid new
    besides at other = left.only.others at (λ (e : at ≡ g.address). other (e ∙ served.address))

    abbrev pub book : LoopBook
    book = (left.books refl).0

    book_now : IsLeftBook old new (place - setup.nodes) book
    book_now =
        let committed = (left.books refl).1 in
        let is_book = served_book tells stay reply (place - setup.nodes) stops g served old mid new
        (had.still_books (place - setup.nodes) (omega arith)) book committed left.received left.sent in
        record {
          is = is_book;
          firm = is_book.value ∙ ap (λ (v : BookValue). standing_for v.firm) (sym is_book.value);
        }

    pushed : now.books.items ≡ was.books.items ++ book ∷ []
    pushed = (left.books refl).2

    pub gateway_left : HaveLeft setup old new (suc place) now
    gateway_left = record {
      node_count = omega (arith, (ap length left.nodes), had.node_count);
      book_count = omega (arith, (ap length pushed), (length_pushed was.books.items book), had.book_count);
      each_node = λ p node at. left_node_still new
          (λ (port : Port). besides _ (λ e. gateway_no_node (place - setup.nodes) p port (sym e)))
          (had.each_node p node (rw left.nodes at at));
      each_book = λ p b at. ⊎_elim (λ (before : slice_get was.books.items p ≡ Some b). left_book_still
          (besides (gateway_at p)
          (gateways_apart p (place - setup.nodes)
          (λ (e : p ≡ place - setup.nodes). omega
          (arith, (slice_get_within was.books.items p b before), had.book_count)))) (had.each_book p b before))
          (λ (last : (p ≡ length was.books.items) × (b ≡ book)). rw (last.0 ∙ had.book_count) (rw last.1 book_now))
          (get_pushed _ _ p (rw pushed at at));
      still = λ p port le inside. absurd (omega arith);
      still_books = λ p le. still_then (had.still_books p (omega arith))
          (besides (gateway_at p)
          (gateways_apart p (place - setup.nodes) (λ (e : p ≡ place - setup.nodes). omega arith)));
    }

-- All of them.
pub all_collected : (setup : LoopSetup) (old new : LinksState) (count : ℕ) (collected : Collected)
    → count ≡ setup.nodes + setup.gateways → HaveLeft setup old new count collected.looped
    → HasCollected setup old new collected
all_collected setup old new count collected all left = record {
  hands = record {
    book_count = omega (arith, left.book_count);
    node_count = omega (arith, left.node_count);
    each_book = λ place book at. (left.each_book place book at).is;
    each_node = λ place node at. (left.each_node place node at).is;
  };
  firm = all_by_place _ _ (λ place book at. (left.each_book place book at).firm);
  kept = all_by_place _ _ (λ place node at. (left.each_node place node at).kept);
  taken = λ place node at some. (left.each_node place node at).taken some;
}
