-- Which nodes a history knows.
use Rattle.std.specs.Prelude.{◌==◌, Bool, if◌then◌else◌, List, [], ◌∷◌, ◌++◌, Option, Some, None}
use Rattle.std.specs.List.{filter_map, list_any}
use Rattle.gw_base.specs.Lists.{once}
use Rattle.gw_base.specs.declared.address.NodeId.{NodeId}
use Rattle.gw_base.specs.declared.history.HistoryAct.{HistoryAct}
use Rattle.gw_base.specs.declared.history.HistoryAct.TheVariants.{Path, File, Hold, Seal}
use Rattle.gw_base.specs.declared.history.HistoryEntry.{HistoryEntry}

-- the node that an entry makes known: Path, File, Hold and Seal entries do
abbrev pub named_node : HistoryAct → Option NodeId
named_node (Path n port counter) = Some n
named_node (File n x packet) = Some n
named_node (Hold n x packet) = Some n
named_node (Seal n x) = Some n
named_node _ = None

abbrev pub same_node : NodeId → NodeId → Bool
same_node m n = m.0 == n.0

-- the known nodes, in the order in which entries first named them
abbrev pub known_nodes : List HistoryEntry → List NodeId
known_nodes h = once same_node (filter_map (λ e. named_node e.act) h)

-- whether a node is one of these
abbrev pub is_known : List NodeId → NodeId → Bool
is_known known n = list_any (λ k. same_node k n) known

-- the nodes known so far, with one more at their end where it is a new one
abbrev pub with_node : List NodeId → Option NodeId → List NodeId
with_node known None = known
with_node known (Some n) = if is_known known n then known else known ++ n ∷ []
