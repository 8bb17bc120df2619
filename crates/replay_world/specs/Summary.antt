-- What all gateways and all nodes of a replay count together.
use Rattle.std.specs.Prelude.{◌≡◌, ℕ, ◌≤◌, List, [], ◌∷◌, ◌++◌, length, sum_by, slice_get, Option, Some, None, codes}
use Rattle.std.specs.Fmt.{decimal}
use Rattle.std.specs.List.{enumerate_from}
use Rattle.gateway_book.specs.Calls.{gateway_counts_of}
use Rattle.gateway_book.specs.declared.outcome.GatewayCounts.{GatewayCounts}
use Rattle.node_core.specs.Counting.{counts_of}
use Rattle.node_core.specs.Log.{LogEntry}
use Rattle.node_core.specs.declared.counts.NodeCounts.{NodeCounts}
use Rattle.once_core.specs.Gateway.{Gateway}
use Rattle.once_core.specs.World.{node_value}
use Rattle.replay_gateway.specs.GatewayReport.{book_of}
use Rattle.replay_world.specs.Value.{ReplayValue}
use Rattle.replay_world.specs.declared.summary.GatewaySums.{GatewaySums}
use Rattle.replay_world.specs.declared.summary.NodeSums.{NodeSums}
use Rattle.replay_world.specs.declared.summary.Summary.{Summary}

-- Gateways: of one that is down its book is meant as it would be opened, but for its Start.

abbrev pub filed_of : Gateway → ℕ
filed_of g = (gateway_counts_of (book_of g)).records

abbrev pub held_of : Gateway → ℕ
held_of g = (gateway_counts_of (book_of g)).held

abbrev pub stranded_of : Gateway → ℕ
stranded_of g = (gateway_counts_of (book_of g)).stranded

abbrev pub gateway_sums : List Gateway → GatewaySums
gateway_sums gs = record {
  records = sum_by filed_of gs;
  held = sum_by held_of gs;
  stranded = sum_by stranded_of gs;
}

-- each sum is no more than this
pub record AreGatewaySums (most : ℕ) (sums : GatewaySums) : Type 0 where
  pub records : sums.records ≤ most
  pub held : sums.held ≤ most
  pub stranded : sums.stranded ≤ most

-- the gateway in this place counts this
abbrev pub TalliesIf : Option Gateway → GatewayCounts → Type 0
TalliesIf None tally = ⊥
TalliesIf (Some g) tally = tally ≡ gateway_counts_of (book_of g)

abbrev pub TalliesAt : ReplayValue → ℕ → GatewayCounts → Type 0
TalliesAt v place tally = TalliesIf (slice_get v.world.gateways place) tally

-- Nodes.

abbrev pub counts_at : ℕ → ℕ × List LogEntry → NodeCounts
counts_at gateways n = counts_of (node_value gateways n.0 n.1)

abbrev pub node_sums : ℕ → List (ℕ × List LogEntry) → NodeSums
node_sums gateways ns = record {
  packets = sum_by (λ n. (counts_at gateways n).packets) ns;
  resolved = sum_by (λ n. (counts_at gateways n).resolved) ns;
  done = sum_by (λ n. (counts_at gateways n).done) ns;
}

pub record AreNodeSums (most : ℕ) (sums : NodeSums) : Type 0 where
  pub packets : sums.packets ≤ most
  pub resolved : sums.resolved ≤ most
  pub done : sums.done ≤ most

-- All together.
abbrev pub summary_of : ReplayValue → Summary
summary_of v = record {
  nodes = node_sums (length v.world.gateways) (enumerate_from 0 v.world.nodes);
  gateways = gateway_sums v.world.gateways;
}

-- one line for each sum
abbrev pub sum_line : List ℕ → ℕ → List ℕ
sum_line name sum = name ++ codes " " ++ decimal sum ++ 10 ∷ []

abbrev pub summary_text : Summary → List ℕ
summary_text s =
    sum_line (codes "packets") s.nodes.packets
    ++ (sum_line (codes "resolved") s.nodes.resolved
    ++ (sum_line (codes "done") s.nodes.done
    ++ (sum_line (codes "records") s.gateways.records
    ++ (sum_line (codes "held") s.gateways.held
    ++ sum_line (codes "stranded") s.gateways.stranded))))
