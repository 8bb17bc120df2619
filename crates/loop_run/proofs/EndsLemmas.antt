-- How a loop ends, by what was collected.
use Rattle.std.proofs.Common.{◌≡◌, ◌∙◌, ℕ, zero, suc, ◌+◌, ◌^◌, ◌<◌, List, [], ◌∷◌, length, map, Option, None, Some, refl, sym, ap, subst, arith}
use Rattle.loop_run.proofs.Names.{Addr, AllRan, AreAlike, BookValue, CarriedAt, Collected, CountsAs, EndsAs, Finishes, First, gateway_at, HasCollected, HasTakenAll, gateway_counts_of, history_of, IsLoopBook, IsLooped, IsLoopNode, Keeps, length-map, LinksState, LoopBook, Looped, LoopSetup, MakesSeats, node_at, NodeValue, same_Some, Seat, Second, shown, slice_get, Stop, value_of, verdict}
use Rattle.net_link.specs.declared.link.Link as paths
use Rattle.loop_run.specs.declared.end.LoopEnd.{LoopEnd}
use Rattle.loop_run.specs.declared.end.LoopEnd.TheVariants as end

-- What was told before it was made was told before it ran.
module _ (setup : LoopSetup) (old mid new : LinksState) (keeps : Keeps old mid) where
  carried_from : {place turns port : _} → CarriedAt setup mid new place turns port
      → CarriedAt setup old new place turns port
  carried_from {place} {port} was = record {
    turns_are = omega (arith, (keeps.turns (node_at place port)), was.turns_are);
    received = rw (keeps.received (node_at place port)) at was.received;
    sent = rw (keeps.sent (node_at place port)) at was.sent;
  }

  node_from : {place node : _} → IsLoopNode setup mid new place node → IsLoopNode setup old new place node
  node_from was = record {
    turns = was.turns;
    node_is = was.node_is;
    most = was.most;
    had_more = was.had_more;
    by_first = carried_from was.by_first;
    by_second = carried_from was.by_second;
  }

  book_from : {place : ℕ} {book : LoopBook} → IsLoopBook mid new place book → IsLoopBook old new place book
  book_from {place} was = record {
    history = was.history;
    value = was.value;
    heard = was.heard;
    was_heard = rw (keeps.received (gateway_at place)) at was.was_heard;
    jobs = was.jobs;
    answers = was.answers;
    sent = was.sent;
    was_sent = rw (keeps.sent (gateway_at place)) at was.was_sent;
    replies = was.replies;
    size = was.size;
    name = was.name;
  }

  pub looped_from : {books : List LoopBook} {nodes : List NodeValue} → IsLooped setup mid new books nodes
      → IsLooped setup old new books nodes
  looped_from was = record {
    book_count = was.book_count;
    node_count = was.node_count;
    each_book = λ place book at. book_from (was.each_book place book at);
    each_node = λ place node at. node_from (was.each_node place node at);
  }

  pub taken_from : (nodes : List NodeValue) → HasTakenAll setup mid new nodes → HasTakenAll setup old new nodes
  taken_from nodes was place node at some =
      omega (arith, (keeps.turns (node_at place First)), (keeps.turns (node_at place Second)), (was place node at some))

-- Books of which the same is told.

map_by : {X : Type 0} (g : BookValue → X) (books : List LoopBook)
    → map (λ (book : LoopBook). g (value_of book)) books ≡ map (λ (s : BookValue × (ℕ × List ℕ)). g s.0) (map shown books)
map_by g [] = refl
map_by g (book ∷ books) = cc (map_by g books)

alike_by : {X : Type 0} (g : BookValue → X) (old new : List LoopBook) → AreAlike old new
    → map (λ (book : LoopBook). g (value_of book)) new ≡ map (λ (book : LoopBook). g (value_of book)) old
alike_by g old new alike = cc (map_by g new, map_by g old)

pub alike_length : (old new : List LoopBook) → AreAlike old new → length new ≡ length old
alike_length old new alike = cc (length-map new shown, length-map old shown)

-- what a list shows in a place is shown by what stands there
record ShownAt (books : List LoopBook) (place : ℕ) (s : BookValue × (ℕ × List ℕ)) : Type 0 where
  book : LoopBook
  at : slice_get books place ≡ Some book
  is : shown book ≡ s

shown_at : (books : List LoopBook) (place : ℕ) {s : _} → slice_get (map shown books) place ≡ Some s
    → ShownAt books place s
shown_at [] place e = absurd (cc e)
shown_at (book ∷ books) zero {s} e = record { book = book; at = refl; is = same_Some (shown book) s e }
shown_at (book ∷ books) (suc place) e =
    let rest = shown_at books place e in record { book = rest.book; at = rest.at; is = rest.is }

shows_at : (books : List LoopBook) (place : ℕ) {book : _} → slice_get books place ≡ Some book
    → slice_get (map shown books) place ≡ Some (shown book)
shows_at [] place e = cc
shows_at (b ∷ books) zero {book} e = cc (same_Some b book e)
shows_at (b ∷ books) (suc place) e = shows_at books place e

module _ (setup : LoopSetup) (links links' : LinksState) (old new : List LoopBook) (nodes : List NodeValue)
    (alike : AreAlike old new) where
  pub alike_looped : IsLooped setup links links' old nodes → IsLooped setup links links' new nodes
  alike_looped was = record {
    book_count = alike_length old new alike ∙ was.book_count;
    node_count = was.node_count;
    each_book = λ place book at.
        let there = shown_at old place {s = shown book}
        (subst (λ (l : List (BookValue × (ℕ × List ℕ))). slice_get l place ≡ Some (shown book)) alike
        (shows_at new place {book = book} at)) in
        let before = was.each_book place there.book there.at in
        record {
          history = before.history;
          value = sym (ap (λ (s : BookValue × (ℕ × List ℕ)). s.0) there.is) ∙ before.value;
          heard = before.heard;
          was_heard = before.was_heard;
          jobs = before.jobs;
          answers = before.answers;
          sent = before.sent;
          was_sent = before.was_sent;
          replies = before.replies;
          size = sym (ap (λ (s : BookValue × (ℕ × List ℕ)). s.1.0) there.is) ∙ before.size;
          name = sym (ap (λ (s : BookValue × (ℕ × List ℕ)). s.1.1) there.is) ∙ before.name;
        };
    each_node = was.each_node;
  }

  same_verdict : verdict new nodes ≡ verdict old nodes
  same_verdict = cc (alike_by (λ (v : BookValue). history_of v) old new alike)

  pub alike_counts : (how : LoopEnd) → CountsAs setup old nodes how → CountsAs setup new nodes how
  alike_counts (end.Fine node_counts gateway_counts) (none, fine, sums) = (
    none,
    same_verdict ∙ fine,
    (
      sums.0,
      sums.1 ∙ sym (alike_by (λ (v : BookValue). gateway_counts_of v) old new alike),
    ),
  )
  alike_counts (end.Wrong packet places wanted) (none, wrong) = (none, same_verdict ∙ wrong)
  alike_counts (end.Unfinished turns packet count) c = c
  alike_counts _ c = c

-- A loop that nothing stopped.
module _ (setup : LoopSetup) (old mid new : LinksState) (keeps : Keeps old mid) (collected : Collected)
    (has : HasCollected setup mid new collected) (now : Looped) where
  out : AreAlike collected.looped.books.items now.books.items → now.nodes.items ≡ collected.looped.nodes.items
      → IsLooped setup old new now.books.items now.nodes.items
  out alike nodes = rw nodes (alike_looped _ old new _ _ _ alike (looped_from _ old mid new keeps has.hands))

  pub ends_finished : (how : LoopEnd) → Finishes setup collected.looped now how → EndsAs setup old new now how
  ends_finished (end.Fine node_counts gateway_counts) (counts, alike, nodes) = (
    out alike nodes,
    subst
        (λ (l : List NodeValue). CountsAs setup now.books.items l (end.Fine node_counts gateway_counts)) (sym nodes)
        (alike_counts setup mid new collected.looped.books.items now.books.items collected.looped.nodes.items alike
        (end.Fine node_counts gateway_counts) counts),
  )
  ends_finished (end.Wrong packet places wanted) (counts, alike, nodes) = (
    out alike nodes,
    subst
        (λ (l : List NodeValue). CountsAs setup now.books.items l (end.Wrong packet places wanted)) (sym nodes)
        (alike_counts setup mid new collected.looped.books.items now.books.items collected.looped.nodes.items alike
        (end.Wrong packet places wanted) counts),
  )
  ends_finished (end.Unfinished turns packet count) (counts, alike, nodes) = (
    out alike nodes,
    subst
        (λ (l : List NodeValue). CountsAs setup now.books.items l (end.Unfinished turns packet count)) (sym nodes)
        (alike_counts setup mid new collected.looped.books.items now.books.items collected.looped.nodes.items alike
        (end.Unfinished turns packet count) counts),
    subst (λ (l : List NodeValue). HasTakenAll setup old new l) (sym nodes)
        (taken_from setup old mid new keeps collected.looped.nodes.items has.taken),
  )
  ends_finished end.Link (counts, alike, nodes) = absurd counts
  ends_finished end.NoMemory none = none

-- All were made and have run, and nothing stopped one.
pub collected_of : {L : Type 0} (tells : paths.Ghosts L) (setup : LoopSetup) (old mid new : LinksState)
    (seats ran : List (Seat L)) (why : Option Stop) (collected : Collected)
    → MakesSeats tells setup (setup.nodes + setup.gateways) old mid seats why → why ≡ None
    → ((a : Addr) → old.turns a < 2 ^ 63) → AllRan tells setup ran → length ran ≡ length seats
    → (AllRan tells setup ran → length ran ≡ setup.nodes + setup.gateways → ((a : Addr) → mid.turns a < 2 ^ 63)
    → collected.stop ≡ None → HasCollected setup mid new collected)
    → collected.stop ≡ None → HasCollected setup mid new collected
collected_of tells setup old mid new seats ran why collected makes none few have_run long collects =
    let all = makes.all none in
    collects have_run (long ∙ all.0) (λ a. omega (arith, (all.1.turns a), (few a)))
