-- The requests of a gateway to all nodes that it has a path to.
use Rattle.std.proofs.Common.{◌≡◌, ◌∙◌, refl, ap, ℕ, suc, ◌+◌, ◌%◌, ◌≤◌, ◌<◌, false, List, [], ◌∷◌, ◌++◌, All, length, map, take, Option, Some, None, option_and_then, slice_get, take_all, arith}
use Rattle.replay_gateway.proofs.Names.{Addr, All-head, All-tail, area_tells, Book, book_in, BookValue, cons_option, Down, filter_map, Gateway, HasMoved, history_of, Machine, MachineStands, map_push, MemoryArea, Message, node_at, redirected, redirecting, Setup, Site, SiteStands, Up, value_of}
use Rattle.gateway_index.specs.Limits.{most_nodes}
use Rattle.gateway_answer.specs.Told.{paths_of}
use Rattle.gw_base.specs.Known.{known_nodes}
use Rattle.gw_base.specs.Starts.{start_of}
use Rattle.gw_base.specs.declared.address.NodeId.{NodeId}
use Rattle.replay_gateway.specs.Redirecting.{KnowsNear, asking, path_in}
use Rattle.replay_gateway.proofs.ListLemmas.{mapped_from, mapped_none, none_beyond, take_next}

-- the request to the node with a path
abbrev pub asks_path : ℕ → ℕ → ℕ → Option ℕ → BookValue → Addr → Message
asks_path place cause number to v path = asking place cause number to (path, start_of path.ip (history_of v))

-- so many requests were made
abbrev pub AskedSoFar : ℕ → ℕ → ℕ → Option ℕ → Option Site → ℕ → List Message → Type 0
AskedSoFar place cause number to site k messages = (v : BookValue) → book_in site ≡ Some v →
    messages ≡ map (asks_path place cause number to v) (take k (paths_of (history_of v)))

pub one_more : {A B : Type 0} (f : A → B) (xs : List A) (k : ℕ) {x : _} → slice_get xs k ≡ Some x →
    map f (take (suc k) xs) ≡ map f (take k xs) ++ f x ∷ []
one_more f xs k {x} is = ap (map f) (take_next xs k is) ∙ map_push f (take k xs) x

abbrev pub started : Addr → ℕ → Addr × ℕ
started path start = (path, start)

abbrev path_with : BookValue → Addr → Addr × ℕ
path_with v p = (p, start_of p.ip (history_of v))

module _ (place cause number : ℕ) (to : Option ℕ) (site : Option Site) where
  pub asked_more : (k : ℕ) (before : List Message) {after : _} (path : Addr) (start : ℕ) →
      AskedSoFar place cause number to site k before → Some (started path start) ≡ option_and_then (λ v. path_in v k)
      (book_in site) → after ≡ before ++ asking place cause number to (path, start) ∷ [] →
      AskedSoFar place cause number to site (k + 1) after
  asked_more k before path start inv finds grows v is =
      let there = mapped_from (path_with v) _ (finds ∙ ap (option_and_then (λ w. path_in w k)) is) in
      let next : suc k ≡ k + 1 = omega arith in
      cc (inv v is, there.2, one_more (asks_path place cause number to v) _ k there.1)

  pub asked_all : (k : ℕ) (messages : List Message) → AskedSoFar place cause number to site k messages →
      None ≡ option_and_then (λ v. path_in v k) (book_in site) → {v : _} → book_in site ≡ Some v →
      messages ≡ map (asks_path place cause number to v) (paths_of (history_of v))
  asked_all k messages inv none {v} is =
      let no_more = mapped_none (path_with v) _ (none ∙ ap (option_and_then (λ w. path_in w k)) is) in
      cc (inv v is, take_all k (paths_of (history_of v)) (none_beyond _ k no_more))

  -- there are no more
  pub asked_few : (k : ℕ) (messages : List Message) → AskedSoFar place cause number to site k messages →
      {v : _} → book_in site ≡ Some v → length (paths_of (history_of v)) ≤ k →
      messages ≡ map (asks_path place cause number to v) (paths_of (history_of v))
  asked_few k messages inv {v} is few = cc (inv v is, take_all k (paths_of (history_of v)) few)

-- A gateway knows few nodes.

fewer_paths : (f : NodeId → Option Addr) (nodes : List NodeId) → length (filter_map f nodes) ≤ length nodes
fewer_paths f [] = omega arith
fewer_paths f (n ∷ nodes) = by (f n) (fewer_paths f nodes)
  where
    by : (o : Option Addr) → length (filter_map f nodes) ≤ length nodes →
        length (cons_option o (filter_map f nodes)) ≤ length (n ∷ nodes)
    by None few = omega arith
    by (Some a) few = omega arith

-- what the law of a book's limits says of the nodes that it knows
abbrev pub KnowsFew : Type 0
KnowsFew = (book : Book MemoryArea area_tells) → length (known_nodes (history_of (value_of book))) ≤ most_nodes

pub few_paths : KnowsFew → (setup : Setup) (place : ℕ) (g : Gateway) (m : Machine) (s : Option Site) →
    g.is_down ≡ false → SiteStands setup place g m s → length (paths_of (history_of g.book)) ≤ most_nodes
few_paths law setup place g m s runs stands = grind (arith, fewer_paths)

-- the book of one that runs
pub book_there : (setup : Setup) (place : ℕ) (g : Gateway) (m : Machine) (s : Option Site) → g.is_down ≡ false →
    SiteStands setup place g m s → book_in s ≡ Some g.book
book_there setup place g m (Some (Up book)) runs stands = ap Some stands.up.value
book_there setup place g m (Some (Down fallen)) runs stands = absurd (cc stands.stopped)
book_there setup place g m None runs stands = absurd stands

module _ (place cause number : ℕ) (to : Option ℕ) (g : Gateway) (is : number ≡ g.redirects % 65536) where
  -- the request to a node whose number is an octet
  asked_path : (path : Addr) → node_at path < 256 →
      asks_path place cause number to g.book path ≡ redirecting place cause to g path
  asked_path path near =
      let whole : node_at path % 256 ≡ node_at path = omega arith in
      cc

  asked_paths : (paths : List Addr) → All (λ path. node_at path < 256) paths →
      map (asks_path place cause number to g.book) paths ≡ map (redirecting place cause to g) paths
  asked_paths [] near = refl
  asked_paths (path ∷ paths) near =
      cc (
        asked_path path (All-head (λ p. node_at p < 256) path paths near),
        asked_paths paths (All-tail (λ p. node_at p < 256) path paths near),
      )

  pub asked_as : KnowsNear g →
      map (asks_path place cause number to g.book) (paths_of (history_of g.book)) ≡ (redirected place cause to g).sends
  asked_as near = asked_paths _ near

-- Its count of redirections rises.

pub has_redirected : {setup place : _} (cause : ℕ) (to : Option ℕ) (g : Gateway) (m : Machine)
    {messages old : _} (count : ℕ) → MachineStands setup place g m old →
    count ≡ (old.redirects + 1) % 65536 → messages ≡ (redirected place cause to g).sends →
    HasMoved setup place (redirected place cause to g) m messages (record old { redirects = count })
has_redirected {setup} {place} cause to g m {old = old} count stands counts sends =
    let moved = (redirected place cause to g).gateway in
    let site : SiteStands setup place moved m old.site = grind (arith, stands.site) in
    let redirects : count ≡ moved.redirects % 65536 =
    counts ∙ ap (λ j. (j + 1) % 65536) stands.redirects ∙ grind arith in
    record { stands = assumption; sends = sends }
