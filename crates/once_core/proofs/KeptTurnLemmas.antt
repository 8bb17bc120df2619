-- A world that is kept turns as the world that it stands for.
use Rattle.std.proofs.Common.{◌≡◌, ℕ, zero, suc, ◌+◌, ◌-◌, true, false, not, List, [], ◌∷◌, ◌++◌, length, map, Option, Some, None, refl, ap, sym, ◌∙◌, arith, length-set, nat_le, slice_get, slice_set}
use Rattle.once_core.proofs.Names.{append-nil, at_gateway, at_node, Called, Event, Gateway, gateway_kept, gateway_moved, gateway_moves, is_down_at, is_none_of, length-map, log_at, LogEntry, map-set, Message, most_starts, Moved, no_running_gateway, node_called, node_kept, node_moves, NodeKept, nodes_kept, option_map, option_map_or, option_or, refusal_of, refusal_to_redirect, refusing, runs, runs_at, slice_get-map, starts_at, starts_in, still, with_changed_gateway, with_changed_node, with_gateway, with_node, World, world_kept, WorldKept}
use Rattle.once_core.proofs.KeptMoveLemmas.{MovesKept}
use Rattle.once_core.proofs.NodeCallLemmas.{CallsKept, nothing}
use Rattle.once_core.specs.KeptTurn as kept
use Rattle.once_core.specs.Turn.{no_running_node}
use Rattle.once_core.specs.declared.event.Event.TheVariants as event
use Rattle.once_core.specs.declared.event.WorldKind.TheVariants.{NoGateway, NoNode, Halted, Stopped, Running, Restarts}
use Rattle.once_core.proofs.CaseLemmas.{by_option}

-- ---- nodes

get_nodes : (count first place number : ℕ) (logs : List (List LogEntry)) → number ≡ first + place
    → slice_get (nodes_kept count first logs) place ≡ option_map (node_kept count number) (slice_get logs place)
get_nodes count first place number [] e = refl
get_nodes count first zero number (log ∷ logs) e = ap (λ (n : ℕ). Some (node_kept count n log)) (omega (arith, e))
get_nodes count first (suc place) number (log ∷ logs) e = get_nodes count (suc first) place number logs
    (omega (arith, e))

set_nodes : (count first place number : ℕ) (logs : List (List LogEntry)) (log : List LogEntry) → number ≡ first + place
    → nodes_kept count first (slice_set logs place log) ≡ slice_set (nodes_kept count first logs) place
    (node_kept count number log)
set_nodes count first place number [] log e = refl
set_nodes count first zero number (l ∷ logs) log e =
    ap (λ (n : ℕ). node_kept count n log ∷ nodes_kept count (suc first) logs) (omega (arith, e))
set_nodes count first (suc place) number (l ∷ logs) log e =
    ap (λ (ns : List NodeKept). node_kept count first l ∷ ns)
    (set_nodes count (suc first) place number logs log (omega (arith, e)))

nodes_length : (count first : ℕ) (logs : List (List LogEntry)) → length (nodes_kept count first logs) ≡ length logs
nodes_length count first [] = refl
nodes_length count first (log ∷ logs) = ap suc (nodes_length count (suc first) logs)

-- ---- a gateway or a node moves

pub gateway_turns : (w : World) (place : ℕ) (f k : Gateway → Moved) → ((g : Gateway) → MovesKept f k g) → with_gateway (world_kept w) place k ≡ world_kept (at_gateway w place f)
gateway_turns w place f k same =
    ap (gateway_moves (world_kept w) place k) (slice_get-map gateway_kept w.gateways place)
    ∙ by_option (λ (o : Option Gateway). gateway_moves (world_kept w) place k (option_map gateway_kept o) ≡ world_kept (option_map_or (λ g. gateway_moved w place (f g)) o w))
    (slice_get w.gateways place) (λ none. refl) (λ g there.
    let gateways = ap (slice_set (map gateway_kept w.gateways) place) (same g).gateway ∙ sym (map-set gateway_kept w.gateways place (f g).gateway) in
    let count = sym (length-set w.gateways place (f g).gateway) in
    let sends = (same g).sends in
    λ i. record { gateways = gateways i; nodes = nodes_kept (count i) 0 w.nodes; moment = w.now; messages = w.messages ++ sends i; is_spent = false })

pub node_turns : (w : World) (place : ℕ) (call : List LogEntry → Called) (move : NodeKept → NodeKept) (sends : NodeKept → List Message)
    → ((log : List LogEntry) → slice_get w.nodes place ≡ Some log → CallsKept (length w.gateways) place call move sends log)
    → with_node (world_kept w) place move sends ≡ world_kept (at_node w place call)
node_turns w place call move sends same =
    ap (node_moves (world_kept w) place move sends)
    (get_nodes (length w.gateways) 0 place place w.nodes (omega arith))
    ∙ by_option (λ (o : Option (List LogEntry)). node_moves (world_kept w) place move sends (option_map (node_kept (length w.gateways) place) o)
    ≡ world_kept (option_map_or (λ log. node_called w place (call log)) o w))
    (slice_get w.nodes place) (λ none. refl) (λ log there.
    let one = same log there in
    let nodes = ap (slice_set (nodes_kept (length w.gateways) 0 w.nodes) place) one.node
    ∙ sym (set_nodes (length w.gateways) 0 place place w.nodes (call log).log (omega arith)) in
    let sent = one.sent in
    λ i. record { gateways = map gateway_kept w.gateways; nodes = nodes i; moment = w.now; messages = w.messages ++ sent i; is_spent = false })

-- ---- one that sends nothing

pub gateway_changes : (k : WorldKept) (place : ℕ) (change : Gateway → Gateway) → with_changed_gateway k place change ≡ with_gateway k place (λ g. still (change g))
gateway_changes k place change = grind (arith, append-nil k.messages)

pub node_changes : (k : WorldKept) (place : ℕ) (change : NodeKept → NodeKept) → with_changed_node k place change ≡ with_node k place change nothing
node_changes k place change = grind (arith, append-nil k.messages)

-- ---- refusals

module _ (w : World) where
  gateways_same : length (map gateway_kept w.gateways) ≡ length w.gateways
  gateways_same = length-map w.gateways gateway_kept

  down_same : (place : ℕ) → is_down_at (world_kept w) place ≡ option_map_or (λ (g : Gateway). g.is_down) (slice_get w.gateways place) true
  down_same place = grind (arith, slice_get-map gateway_kept w.gateways place)

  nodes_same : length (nodes_kept (length w.gateways) 0 w.nodes) ≡ length w.nodes
  nodes_same = nodes_length (length w.gateways) 0 w.nodes

  -- what is asked of a node, by its log
  asked_same : {A : Type 0} (f : NodeKept → A) (by_log : List LogEntry → A) (place : ℕ)
      → ((log : List LogEntry) → f (node_kept (length w.gateways) place log) ≡ by_log log)
      → option_map_or f (slice_get (nodes_kept (length w.gateways) 0 w.nodes) place) (by_log []) ≡ by_log (log_at w place)
  asked_same f by_log place same = grind
      (arith, get_nodes (length w.gateways) 0 place place w.nodes (omega arith), same)

  runs_same : (place : ℕ) → runs_at (world_kept w) place ≡ runs (log_at w place)
  runs_same place = asked_same (λ n. n.node.is_running) runs place (λ log. refl)

  pub starts_same : (place : ℕ) → starts_at (world_kept w) place ≡ starts_in (log_at w place)
  starts_same place = asked_same (λ n. n.starts) starts_in place (λ log. refl)

  running_same : (number : ℕ) → kept.no_running_gateway (world_kept w) number ≡ no_running_gateway w number
  running_same number = λ i. option_or (refusing (is_none_of (gateways_same i) number) NoGateway) (refusing (down_same (number - 1) i) Stopped)

  node_same : (number : ℕ) → kept.no_running_node (world_kept w) number ≡ no_running_node w number
  node_same number = λ i. option_or (refusing (is_none_of (nodes_same i) number) NoNode) (refusing (not (runs_same (number - 1) i)) Halted)

  redirect_same : (number : ℕ) (to : Option ℕ) → kept.refusal_to_redirect (world_kept w) number to ≡ refusal_to_redirect w number to
  redirect_same number None = running_same number
  redirect_same number (Some to) = λ i. option_or (refusing (is_none_of (gateways_same i) number) NoGateway)
      (option_or (refusing (is_none_of (gateways_same i) to) NoGateway) (running_same number i))

  pub refusals_same : (e : Event) → kept.refusal_kept (world_kept w) e ≡ refusal_of w e
  refusals_same (event.Submit node packet) = node_same node
  refusals_same (event.Tick node) = node_same node
  refusals_same (event.Commit gateway) = running_same gateway
  refusals_same (event.Cut gateway keep) = running_same gateway
  refusals_same (event.Open gateway) = λ i. option_or (refusing (is_none_of (gateways_same i) gateway) NoGateway) (refusing (not (down_same (gateway - 1) i)) Running)
  refusals_same (event.Halt node) = node_same node
  refusals_same (event.Start node) = λ i. option_or (refusing (is_none_of (nodes_same i) node) NoNode) (option_or
      (refusing (runs_same (node - 1) i) Running) (refusing (nat_le most_starts (starts_same (node - 1) i)) Restarts))
  refusals_same (event.Redirect gateway cause to) = redirect_same gateway to
  refusals_same (event.Mark gateway) = running_same gateway
  refusals_same (event.Close gateway) = running_same gateway
  refusals_same _ = refl
