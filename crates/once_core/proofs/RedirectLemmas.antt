-- Redirection Requests, one node after the other.
use Rattle.std.proofs.Common.{◌≡◌, ℕ, suc, ◌+◌, ◌-◌, ◌<◌, ◌≤◌, ◌%◌, false, List, [], ◌∷◌, ◌++◌, length, drop, get_or, Option, Some, None, map, arith, append_assoc}
use Rattle.std.proofs.Math.Seq.{drop-cons}
use Rattle.once_core.proofs.Names.{Addr, AllKept, append-nil, cons_option, drop_all, filter_map, first_node_ip, Gateway, history_of, HistoryEntry, Message, node_at, NodeId, Opening, opening_of, option_map_or, path_of, Port, port_at, redirecting, redirecting_one, redirection, start_of}
use Rattle.once_core.proofs.HistoryKeptLemmas.{path_is_near}

pub same_byte : (n : ℕ) → n < 256 → n % 256 ≡ n
same_byte n small = omega (arith, small)

abbrev pub path_at : NodeId → Opening → Addr
path_at node o = record { ip = node.0; port = o.port }

abbrev pub request : ℕ → ℕ → Port → ℕ → ℕ → List ℕ → Message
request gateway place port start number octets = record {
  to_gateway = false;
  gateway = gateway;
  node = place;
  port = port;
  start = start;
  number = number;
  named = None;
  octets = octets;
}

pub redirects_one : (gateway cause : ℕ) (to : Option ℕ) (g : Gateway) (h : List HistoryEntry) (node : NodeId) (o : Opening) (place : ℕ) (port : Port) (start number : ℕ) (octets : List ℕ)
    → h ≡ history_of g.book → AllKept h → opening_of node.0 h ≡ Some o → place ≡ node_at (path_at node o) % 256 → port ≡ port_at (path_at node o) → start ≡ start_of node.0 h
    → octets ≡ redirection g.redirects cause to → g.redirects < 65536 → number ≡ g.redirects
    → request gateway place port start number octets ∷ [] ≡ redirecting_one gateway cause to g node
redirects_one gateway cause to g h node o place port start number octets same kept found places ports starts spelled low is =
    grind (arith, same_byte (node.0 - first_node_ip) (path_is_near node.0 h o kept found))

-- ---- the nodes that are left

abbrev pub all_of : ℕ → ℕ → Option ℕ → Gateway → List NodeId → List Message
all_of gateway cause to g nodes = map (redirecting gateway cause to g) (filter_map (path_of (history_of g.book)) nodes)

abbrev sent_by : ℕ → ℕ → Option ℕ → Gateway → Option Addr → List Message
sent_by gateway cause to g path = option_map_or (λ path. redirecting gateway cause to g path ∷ []) path []

one_more : (gateway cause : ℕ) (to : Option ℕ) (g : Gateway) (nodes : List NodeId) (path : Option Addr)
    → map (redirecting gateway cause to g) (cons_option path (filter_map (path_of (history_of g.book)) nodes)) ≡ sent_by gateway cause to g path ++ all_of gateway cause to g nodes
one_more gateway cause to g nodes path = grind arith

pub redirects_more : (gateway cause : ℕ) (to : Option ℕ) (g : Gateway) (all : List NodeId) (k : ℕ) (d : NodeId) (so_far new first : List Message) → k < length all
    → so_far ++ all_of gateway cause to g (drop k all) ≡ first → new ≡ so_far ++ redirecting_one gateway cause to g (get_or all k d) → new ++ all_of gateway cause to g (drop (k + 1) all) ≡ first
redirects_more gateway cause to g all k d so_far new first lt is one =
    let node : NodeId = get_or all k d in
    let next : k + 1 ≡ suc k = omega arith in
    let more = one_more gateway cause to g (drop (suc k) all) (path_of (history_of g.book) node) in
    let parts = append_assoc so_far (redirecting_one gateway cause to g node) (all_of gateway cause to g (drop (suc k) all)) in
    rw next (grind (arith, drop-cons all k d lt, more, parts))

pub redirects_end : (gateway cause : ℕ) (to : Option ℕ) (g : Gateway) (all : List NodeId) (k : ℕ) (so_far first : List Message) → length all ≤ k
    → so_far ++ all_of gateway cause to g (drop k all) ≡ first → so_far ≡ first
redirects_end gateway cause to g all k so_far first le is = grind (arith, append-nil so_far, drop_all k all le)
