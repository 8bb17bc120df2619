-- One side of an index after a few entries: worked values.
use Rattle.std.specs.Prelude.{◌≡◌, refl, [], ◌∷◌, None}
use Rattle.dup_buffer.specs.Copies.{no_copies}
use Rattle.gw_base.specs.declared.address.NodeId.{NodeId}
use Rattle.gw_base.specs.declared.history.HistoryAct.TheVariants.{Path, File, Hold, Release}
use Rattle.gw_base.specs.declared.key_state.KeyState.TheVariants.{Fresh, Filed, Held}
use Rattle.seq_window.specs.Seen.{nothing_seen}
use Rattle.gateway_index.specs.Sides.{Side, acted, listed_nodes, no_totals, numbered_nodes, opened_nodes, state_in, without_copies}

abbrev no_side : Side
no_side = record { nodes = record { known = []; opening = λ node. None; window = λ node. nothing_seen }; held = no_copies; totals = no_totals }

abbrev a_node : NodeId
a_node = record { 0 = 0x0A00_0101 }

-- A node's number 65,540 is held, and 98,309 filed. The window reaches from 65,541 on, and the copy is held still.
abbrev worked : Side
worked = acted (File a_node 98309 []) (acted (Hold a_node 65540 []) no_side)

worked-held : state_in worked 0x0A00_0101 65540 ≡ Held
unfolding numbered_nodes
worked-held = refl

worked-filed : state_in worked 0x0A00_0101 98309 ≡ Filed
unfolding numbered_nodes
worked-filed = refl

-- Once it is released, nothing is known of it any more; of one that is in the window it is known that it was released.
worked-released : state_in (acted (Release a_node (65540 ∷ [])) worked) 0x0A00_0101 65540 ≡ Fresh
unfolding numbered_nodes listed_nodes without_copies
worked-released = refl

-- A Path strands it.
worked-stranded : (acted (Path a_node 3386 1) worked).totals.stranded ≡ 1
unfolding numbered_nodes opened_nodes
worked-stranded = refl
