-- What a replay that stands for a value tells of the gateways and the nodes of its world.
use Rattle.std.proofs.Common.{◌≡◌, ◌∙◌, refl, ap, subst, ℕ, ◌+◌, Bool, true, false, List, ◌<◌, get_or, length, Option, Some, None, option_map, slice_get, arith, ◌++◌, IfSome, MatchOption}
use Rattle.replay_world.proofs.Names.{CountsStarts, Gateway, get_or_from_slice_get, log_at, LogEntry, Machine, MachineStands, node_value, NodeValue, notice_line, option_map_or, Refused, Replay, ReplayValue, runs, Setup, slice_get_read, slice_get_within, Stands, starts_in}
use Rattle.replay_gateway.specs.declared.machine.Machine as real
use Rattle.replay_world.proofs.NodeStepLemmas.{counter_is}
use Rattle.replay_world.proofs.StandsLemmas.{StandsAt, each_at, each_lengths, nodes_get, nodes_length}

-- What stands in a place that was read.
pub read_at : {A : Type 0} (xs : List A) {place : _} {index : ℕ} {x : A} → index ≡ place → index < length xs →
    x ≡ get_or xs index x → slice_get xs place ≡ Some x
read_at xs {index} {x} is less read = rw is at (slice_get_read xs (length xs) index x refl less read)

-- the same, where the list was borrowed
pub read_in : {A : Type 0} {ys place : _} {xs : List A} {index : ℕ} {x : A} → xs ≡ ys → index ≡ place →
    index < length xs → x ≡ get_or xs index x → slice_get ys place ≡ Some x
read_in {xs} same is less read = rw same at (read_at xs is less read)

-- A node of a replay, and the log that it stands for.
pub record NodeAt (v : ReplayValue) (k : ℕ) (n : NodeValue) : Type 0 where
  pub log : List LogEntry
  pub has_log : slice_get v.world.nodes k ≡ Some log
  pub is : n ≡ node_value (length v.world.gateways) k log
  pub counts : CountsStarts log

module _ (v : ReplayValue) (r : Replay) (stands : Stands v r) where
  pub gateways_count : length r.gateways.items ≡ length v.world.gateways
  gateways_count = (each_lengths _ 0 _ _ _ stands.gateways).1

  pub nodes_count : length r.nodes.items ≡ length v.world.nodes
  nodes_count = cc (stands.nodes, nodes_length (length v.world.gateways) 0 v.world.nodes)

  pub messages_count : length r.messages.items ≡ length v.world.messages
  messages_count = cc stands.messages

  pub node_at : (k : ℕ) {n : _} → slice_get r.nodes.items k ≡ Some n → NodeAt v k n
  node_at k {n} is = by (slice_get v.world.nodes k) refl
    where
      get_is : slice_get r.nodes.items k
          ≡ option_map (node_value (length v.world.gateways) k) (slice_get v.world.nodes k)
      get_is =
          let same : 0 + k ≡ k = omega arith in
          ap (λ (ns : List NodeValue). slice_get ns k) stands.nodes
          ∙ nodes_get (length v.world.gateways) 0 v.world.nodes k
          ∙ ap (λ (p : ℕ). option_map (node_value (length v.world.gateways) p) (slice_get v.world.nodes k)) same

      by : (o : Option (List LogEntry)) → slice_get v.world.nodes k ≡ o → NodeAt v k n
      by None e =
          let none : slice_get r.nodes.items k ≡ None = cc get_is in
          absurd cc
      by (Some log) e =
          let some : slice_get r.nodes.items k ≡ Some (node_value (length v.world.gateways) k log) = cc get_is in
          record {
            log = log;
            has_log = e;
            is = cc;
            counts = subst CountsStarts (get_or_from_slice_get v.world.nodes k log log e)
                (stands.starts k log (slice_get_within v.world.nodes k log e));
          }

  no_log : (k : ℕ) → slice_get r.nodes.items k ≡ None → slice_get v.world.nodes k ≡ None
  no_log k is = grind (arith, nodes_get)

  pub node_runs : (k : ℕ) (n : NodeValue) → slice_get r.nodes.items k ≡ Some n → n.is_running ≡ runs (log_at v.world k)
  node_runs k n is =
      let here = node_at k is in
      cc (here.is, here.has_log)

  pub no_node_runs : (k : ℕ) → slice_get r.nodes.items k ≡ None → runs (log_at v.world k) ≡ false
  no_node_runs k is = cc (no_log k is)

  pub node_starts : (k : ℕ) (n : NodeValue) → slice_get r.nodes.items k ≡ Some n →
      n.paths.counter ≡ starts_in (log_at v.world k)
  node_starts k n is =
      let here = node_at k is in
      cc (here.is, counter_is (length v.world.gateways) k here.counts, here.has_log)

  pub no_node_starts : (k : ℕ) → slice_get r.nodes.items k ≡ None → starts_in (log_at v.world k) ≡ 0
  no_node_starts k is = cc (no_log k is)

  pub gateway_at : (k : ℕ) {m : _} → slice_get r.gateways.items k ≡ Some m →
      StandsAt v.setup 0 v.world.gateways v.machines k m
  gateway_at k is = each_at _ 0 _ _ _ stands.gateways k is

  -- what a machine tells of every gateway that it stands for
  pub gateway_down : (k : ℕ) (m : real.Machine) (b : Bool) → slice_get r.gateways.items k ≡ Some m →
      ((setup : Setup) (place : ℕ) (g : Gateway) (w : Machine) → MachineStands setup place g w m → b ≡ g.is_down) →
      b ≡ option_map_or (λ (g : Gateway). g.is_down) (slice_get v.world.gateways k) true
  gateway_down k m b is told =
      let here = gateway_at k is in
      cc (told v.setup (0 + k) here.gateway here.machine here.stands, here.has_gateway)

-- The reason of a refusal that is told.

pub reason_told : {N : Type 0} (name : Option N) (now : N → List ℕ) (reason before after : List ℕ) →
    IfSome name (λ n. now n ≡ reason) → MatchOption name ⊥ (λ n. after ≡ before ++ notice_line (Refused (now n))) →
    after ≡ before ++ notice_line (Refused reason)
reason_told None now reason before after named told = absurd told
reason_told (Some n) now reason before after named told =
    told ∙ ap (λ r. before ++ notice_line (Refused r)) named

-- what is said of one that is there
pub reason_there : {N P : Type 0} (Q : N → Type 0) (name : Option N) → IfSome name (λ n. P) → MatchOption name ⊥ Q → P
reason_there Q None said told = absurd told
reason_there Q (Some n) said told = said
